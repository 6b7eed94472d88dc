use Rattle.std.proofs.Common.{[], ◌∷◌, ◌++◌, sym, ap, ◌∙◌, subst}
use Rattle.indexmap.proofs.MapLemmas.{OnOk-map}
use Rattle.std.specs.Option.{option_copied}
use Rattle.edit_log_meaning.specs.Log.{library_of}
use Rattle.text_meaning.specs.Dependencies.{dependencies}
use Rattle.verdict_board.proofs.EditSteps.{ungrounded_present}
use Rattle.list_laws.proofs.Lists.{map_last}
use Rattle.name_meaning.specs.Names.{Name, is_among}
use Rattle.name_meaning.specs.Rows.{row_names}
use Rattle.mmt_interface.specs.declared.verdict.Verdict.{Verdict}
use Rattle.module_check.specs.Known.{AreVerdicts}
use Rattle.module_check.proofs.FromTexts.{text_there, cyclic_here, verdicts_more}
use Rattle.module_check.proofs.from_scratch.add_cyclic.Goals as goal

pub unreachable-requires : goal.unreachable-requires
unreachable-requires c =
    let L = library_of c.args.log.now in
    text_there L c.args.name.now (option_copied c.text.result) c.text.ensures.text (ungrounded_present dependencies L c.args.name.now c.requires.ungrounded) (ap option_copied c.in_default.is)

pub cyclic-requires-clause-given : goal.cyclic-requires-clause-given
cyclic-requires-clause-given c =
    (library_of c.args.log.now, cyclic_here c.args.log.now c.args.name.now c.in-Some.text.now c.args.bad.now c.in-Some.ensures.text c.requires.ungrounded c.requires.others)

pub returns-clause-verdicts : goal.returns-clause-verdicts
returns-clause-verdicts c =
    let L = library_of c.args.log.now in
    let here = cyclic_here c.args.log.now c.args.name.now c.in-Some.text.now c.args.bad.now c.in-Some.ensures.text c.requires.ungrounded c.requires.others in
    OnOk-map c.add.result _ _
    (λ h. subst (AreVerdicts L) (sym (h ∙ ap (λ n. c.args.faces.now ++ (n, c.in_ok-verdict.verdict) ∷ []) c.in-Ok.ensures)) (verdicts_more L c.args.faces.now c.args.name.now c.in_ok-verdict.verdict c.requires.verdicts (c.in_ok-verdict.ensures L here)))
    c.add.ensures

pub returns-clause-names : goal.returns-clause-names
returns-clause-names c =
    OnOk-map c.add.result _ _
    (λ h. ap row_names (h ∙ ap (λ n. c.args.faces.now ++ (n, c.in_ok-verdict.verdict) ∷ []) c.in-Ok.ensures) ∙ map_last (λ (row : Name × Verdict). row.0) c.args.faces.now (c.args.name.now, c.in_ok-verdict.verdict))
    c.add.ensures

pub add-requires : goal.add-requires
add-requires c = ap (is_among (row_names c.args.faces.now)) c.in-Ok.ensures ∙ c.requires.new
