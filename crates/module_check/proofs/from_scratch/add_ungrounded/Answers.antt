use Rattle.std.proofs.Common.{◌≡◌, ◌+◌, suc, [], ◌∷◌, ◌++◌, Some, slice_get, sym, ap, ◌∙◌, subst, arith}
use Rattle.std.proofs.lemmas.List.{take_all}
use Rattle.list_laws.proofs.Places.{take_more}
use Rattle.name_meaning.specs.Names.{is_among, is_ascending}
use Rattle.name_meaning.specs.Rows.{row_names}
use Rattle.std.proofs.lemmas.Option.{slice_get-get_or}
use Rattle.edit_log_meaning.specs.Log.{library_of}
use Rattle.edit_log_laws.proofs.Libraries.{library_ascending}
use Rattle.text_meaning.specs.Dependencies.{dependencies}
use Rattle.verdict_board.proofs.EditSteps.{known_sorted, bad_listed}
use Rattle.module_check.specs.Known.{AreVerdicts}
use Rattle.module_check.proofs.Cyclic.{ungrounded_ascending}
use Rattle.module_check.proofs.FromTexts.{bad_ungrounded, no_verdicts}
use Rattle.module_check.proofs.JudgingOrder.{ascending_distinct, fresh_at}
use Rattle.module_check.proofs.from_scratch.add_ungrounded.Goals as goal

pub others-requires : goal.others-requires
others-requires c =
    known_sorted c.args.graph.now dependencies (library_of c.args.log.now) c.requires.holds (library_ascending c.args.log.now) c.args.known.now c.requires.grounded

pub add_cyclic-requires-clause-ungrounded : goal.add_cyclic-requires-clause-ungrounded
add_cyclic-requires-clause-ungrounded c =
    let L = library_of c.args.log.now in
    let xs = c.as_slice-name-items.result.now in
    let here : slice_get xs c.loop-name.name-index ≡ Some c.name-item.result = slice_get-get_or xs c.loop-name.name-index c.name-item.result c.loop-name-test.true ∙ ap Some (sym c.name-item.is) in
    bad_ungrounded L xs c.loop-name.name-index c.name-item.result
    (c.as_slice-name-items.ensures ∙ bad_listed c.args.graph.now dependencies L c.requires.holds (library_ascending c.args.log.now) c.args.known.now c.requires.grounded c.in_ok-bad.bad c.in_ok-bad.ensures)
    here

pub add_cyclic-requires-clause-others : goal.add_cyclic-requires-clause-others
add_cyclic-requires-clause-others c =
    bad_listed c.args.graph.now dependencies (library_of c.args.log.now) c.requires.holds (library_ascending c.args.log.now) c.args.known.now c.requires.grounded c.in_ok-bad.bad c.in_ok-bad.ensures

pub loop-name-init : goal.loop-name-init
loop-name-init c = record {
  verdicts = subst (AreVerdicts (library_of c.args.log.now)) (sym c.requires.nothing) (no_verdicts (library_of c.args.log.now));
  names = ap row_names c.requires.nothing;
}

pub add_cyclic-requires-clause-new : goal.add_cyclic-requires-clause-new
add_cyclic-requires-clause-new c =
    let L = library_of c.args.log.now in
    let xs = c.as_slice-name-items.result.now in
    let here : slice_get xs c.loop-name.name-index ≡ Some c.name-item.result = slice_get-get_or xs c.loop-name.name-index c.name-item.result c.loop-name-test.true ∙ ap Some (sym c.name-item.is) in
    let bad = bad_listed c.args.graph.now dependencies L c.requires.holds (library_ascending c.args.log.now) c.args.known.now c.requires.grounded c.in_ok-bad.bad c.in_ok-bad.ensures in
    ap (λ names. is_among names c.name-item.result) c.loop-name.invariant.names
    ∙ fresh_at xs c.loop-name.name-index c.name-item.result
    (ascending_distinct xs (ap is_ascending (c.as_slice-name-items.ensures ∙ bad) ∙ ungrounded_ascending dependencies L (library_ascending c.args.log.now))) here

pub loop-name-preserved : goal.loop-name-preserved
loop-name-preserved c =
    let xs = c.as_slice-name-items.result.now in
    let i = c.loop-name.name-index in
    let one : i + 1 ≡ suc i = omega arith in
    let here : slice_get xs i ≡ Some c.name-item.result = slice_get-get_or xs i c.name-item.result c.loop-name-test.true ∙ ap Some (sym c.name-item.is) in
    record {
      verdicts = c.in_ok-add_cyclic.ensures.verdicts;
      names = rw one (c.in_ok-add_cyclic.ensures.names ∙ ap (λ names. names ++ c.name-item.result ∷ []) c.loop-name.invariant.names ∙ sym (take_more xs i c.name-item.result here));
    }

pub returns-clause-names : goal.returns-clause-names
returns-clause-names c =
    let L = library_of c.args.log.now in
    let xs = c.as_slice-name-items.result.now in
    let past = c.loop-name-test.false in
    c.loop-name.invariant.names ∙ take_all c.loop-name.name-index xs (omega (arith, past)) ∙ c.as_slice-name-items.ensures
    ∙ bad_listed c.args.graph.now dependencies L c.requires.holds (library_ascending c.args.log.now) c.args.known.now c.requires.grounded c.in_ok-bad.bad c.in_ok-bad.ensures
