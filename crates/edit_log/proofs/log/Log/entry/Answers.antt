use Rattle.std.proofs.Common.{◌≡◌, ◌≢◌, ℕ, suc, zero, ◌-◌, slice_get, refl, ap, ◌∙◌, arith}
use Rattle.edit_log_meaning.specs.Log.{Log, edit_at}
use Rattle.edit_log.specs.Readings.{read_edit}
use Rattle.edit_log.proofs.Items.{item_read}
use Rattle.edit_log.proofs.log.Log.entry.Goals as goal

pub returns-then-version-eq0 : goal.returns-then-version-eq0
unfolding edit_at
returns-then-version-eq0 c = rw c.if-version-eq0.true refl

before : (log : Log) (version : ℕ) → version ≢ 0 → slice_get log (version - 1) ≡ edit_at log version
unfolding edit_at
before log zero h = absurd (h refl)
before log (suc n) h = let e : suc n - 1 ≡ n = omega arith in ap (slice_get log) e

pub returns : goal.returns
returns c =
    rw (← c.self.view_is) (item_read read_edit c.self.inside.edits.items _ c.get.result (rw (← c.deref.ensures.value) c.get.ensures.lookup.3) ∙ before _ c.args.version c.if-version-eq0.false)
