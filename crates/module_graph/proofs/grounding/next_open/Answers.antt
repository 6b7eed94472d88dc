use Rattle.std.proofs.Common.{◌≡◌, ℕ, ◌<◌, true, false, List, length, get_or, slice_get, Some, sym, ap, ◌∙◌, arith}
use Rattle.std.proofs.lemmas.Option.{slice_get-get_or}
use Rattle.list_laws.proofs.Answers.{where_missing}
use Rattle.list_laws.proofs.Places.{place_within}
use Rattle.list_laws.proofs.Writes.{item_read}
use Rattle.module_graph.proofs.Peeled.{passed_taken, passed_absent, passed_more}
use Rattle.module_graph.proofs.grounding.next_open.Goals as goal
use Rattle.module_graph.proofs.grounding.next_open.Goals.{in-Ok+else-not-taken-other, in_default}

item_here : {X : Type 0} (xs : List X) (i : ℕ) (x : X) → i < length xs → x ≡ get_or xs i x → slice_get xs i ≡ Some x
item_here xs i x h e = slice_get-get_or xs i x h ∙ ap Some (sym e)

pub loop-at-preserved : goal.loop-at-preserved
loop-at-preserved c =
    let here = item_here c.args.dependencies.now c.loop-at.at c.index-dependencies-at.result c.loop-at-test.true c.index-dependencies-at.is in
    passed_more c.args.graph.now c.args.taken.now c.args.dependencies.now c.args.from c.loop-at.at c.index-dependencies-at.result c.loop-at.invariant here
    (elim c.match-place.branch [
      | in-Ok+else-not-taken-other w ↦ passed_taken c.args.graph.now c.args.taken.now c.index-dependencies-at.result w.in-Ok.other c.requires.table w.in-Ok.ensures.found
          (item_read c.args.taken.now w.in-Ok.other false true (let each = c.requires.each in let within = w.in-Ok.ensures.within in omega (arith, each, within)) w.if-not-taken-other.false)
      | in_default w ↦ let q = where_missing c.place.result _ w.in_default.not-Ok c.place.ensures.absent in passed_absent c.args.graph.now c.args.taken.now c.index-dependencies-at.result q.0 q.1
    ])

pub returns : goal.returns
returns c place name low h =
    let within = place_within c.args.dependencies.now place name h in
    let past = c.loop-at-test.false in
    c.loop-at.invariant place name low (omega (arith, within, past)) h

pub returns-then-not-taken-other : goal.returns-then-not-taken-other
returns-then-not-taken-other c =
    let here = item_here c.args.dependencies.now c.loop-at.at c.index-dependencies-at.result c.loop-at-test.true c.index-dependencies-at.is in
    record { name = c.index-dependencies-at.result; here = here; named = c.in-Ok.ensures.found; not_taken = item_read c.args.taken.now c.in-Ok.other false false (let each = c.requires.each in let within = c.in-Ok.ensures.within in omega (arith, each, within)) c.if-not-taken-other.true; passed = c.loop-at.invariant }
