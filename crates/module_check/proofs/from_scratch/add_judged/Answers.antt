use Rattle.std.proofs.Common.{not, [], ◌∷◌, ◌++◌, sym, ap, ◌∙◌, subst}
use Rattle.std.proofs.lemmas.Bool.{and_parts}
use Rattle.std.specs.Option.{option_copied}
use Rattle.indexmap.proofs.MapLemmas.{OnOk-map}
use Rattle.edit_log_meaning.specs.Log.{library_of, is_present}
use Rattle.module_graph_meaning.specs.Walks.{is_ungrounded}
use Rattle.text_meaning.specs.Dependencies.{dependencies}
use Rattle.list_laws.proofs.Lists.{map_last}
use Rattle.name_meaning.specs.Names.{Name, is_among}
use Rattle.name_meaning.specs.Rows.{row_names}
use Rattle.mmt_interface.specs.declared.verdict.Verdict.{Verdict}
use Rattle.module_check.specs.Known.{AreVerdicts}
use Rattle.module_check.proofs.FromTexts.{text_there, given_here, verdicts_more}
use Rattle.module_check.proofs.from_scratch.add_judged.Goals as goal

pub unreachable-requires : goal.unreachable-requires
unreachable-requires c =
    let L = library_of c.args.log.now in
    let n = c.args.name.now in
    text_there L n (option_copied c.text.result) c.text.ensures.text (and_parts (is_present L n) (not (is_ungrounded dependencies L n)) c.requires.grounded).0 (ap option_copied c.in_default.is)

pub judged-found-requires-clause-given : goal.judged-found-requires-clause-given
judged-found-requires-clause-given c =
    (library_of c.args.log.now, given_here c.args.log.now c.args.name.now c.in-Some.text.now c.in_ok-answers.answers c.in-Some.ensures.text c.requires.grounded c.in_ok-answers.ensures)

pub returns-clause-verdicts : goal.returns-clause-verdicts
returns-clause-verdicts c =
    let L = library_of c.args.log.now in
    let here = given_here c.args.log.now c.args.name.now c.in-Some.text.now c.in_ok-answers.answers c.in-Some.ensures.text c.requires.grounded c.in_ok-answers.ensures in
    OnOk-map c.add.result _ _
    (λ h. subst (AreVerdicts L) (sym (h ∙ ap (λ n. c.args.faces.now ++ (n, c.in_ok-verdict.verdict) ∷ []) c.in-Ok.ensures)) (verdicts_more L c.args.faces.now c.args.name.now c.in_ok-verdict.verdict c.requires.verdicts (c.in_ok-verdict.ensures L here)))
    c.add.ensures

pub returns-clause-names : goal.returns-clause-names
returns-clause-names c =
    OnOk-map c.add.result _ _
    (λ h. ap row_names (h ∙ ap (λ n. c.args.faces.now ++ (n, c.in_ok-verdict.verdict) ∷ []) c.in-Ok.ensures) ∙ map_last (λ (row : Name × Verdict). row.0) c.args.faces.now (c.args.name.now, c.in_ok-verdict.verdict))
    c.add.ensures

pub add-requires : goal.add-requires
add-requires c = ap (is_among (row_names c.args.faces.now)) c.in-Ok.ensures ∙ c.requires.new
