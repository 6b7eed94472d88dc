use Rattle.std.proofs.Common.{◌≡◌, Some, None, Option, Bor, true, false, is_some, option_copied, refl, sym, ◌∙◌, true≢false, subst}
use Rattle.name_meaning.specs.Names.{Text}
use Rattle.edit_log_meaning.specs.Log as logs
use Rattle.edit_log.specs.Readings.{IsAnswer}
use Rattle.edit_log.proofs.Answering.{drop_absent, drop_present}
use Rattle.edit_log.proofs.log.Log.answer_to_drop.Goals as goal

nothing : (found : Option (Bor Text)) → is_some found ≡ false → option_copied found ≡ None
nothing None h = refl
nothing (Some b) h = absurd (true≢false h)

something : (found : Option (Bor Text)) → is_some found ≡ true → (t : Text) × (option_copied found ≡ Some t)
something None h = absurd (true≢false (sym h))
something (Some b) h = (b.now, refl)

pub returns-then-is_none-clause-answer : goal.returns-then-is_none-clause-answer
returns-then-is_none-clause-answer c =
    rw c.version.ensures.version (drop_absent c.args.self.now c.args.name.now (sym c.text.ensures.text ∙ nothing c.text.result c.if-is_none.ensures))

pub returns-clause-answer : goal.returns-clause-answer
returns-clause-answer c =
    let q = something c.text.result c.if-is_none.ensures in
    subst (IsAnswer c.made_unless_full.result) (sym (drop_present c.args.self.now c.args.name.now q.0 (sym c.text.ensures.text ∙ q.1))) (c.made_unless_full.ensures.answer (logs.Drop c.args.name.now) refl)
