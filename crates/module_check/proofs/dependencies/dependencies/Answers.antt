use Rattle.std.proofs.Common.{◌∙◌, refl}
use Rattle.std.proofs.lemmas.Result.{IfOk-weaker}
use Rattle.text_meaning.specs.Reading.{ModuleText, ModuleTree, Read}
use Rattle.text_meaning.specs.TextAnswers as texts
use Rattle.reading_laws.proofs.OneAnswer.{one_reading}
use Rattle.module_check.proofs.TextNames.{text_names}
use Rattle.module_check.proofs.dependencies.dependencies.Goals as goal

pub returns-in-Ok : goal.returns-in-Ok
returns-in-Ok c =
    let text = c.args.text.now in
    let (tree, is, names) = c.in-Ok.ensures.only (texts.read ModuleText text) (one_reading ModuleText text).is_read in
    names ∙ text_names c.args.name.now text (Read (ModuleTree tree)) is

pub returns-in-Err : goal.returns-in-Err
returns-in-Err c =
    let text = c.args.text.now in
    let answer = texts.read ModuleText text in
    IfOk-weaker c.no_names.result _ _ (λ names h. h answer (c.in-Err.ensures.only answer (one_reading ModuleText text).is_read) ∙ text_names c.args.name.now text answer refl) c.no_names.ensures
