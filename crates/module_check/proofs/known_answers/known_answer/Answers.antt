use Rattle.std.proofs.Common.{sym, ap, ◌∙◌}
use Rattle.std.specs.Option.{option_copied}
use Rattle.edit_log_meaning.specs.Log.{library_of}
use Rattle.module_check.proofs.FromTexts.{answer_due, answer_there}
use Rattle.module_check.proofs.known_answers.known_answer.Goals as goal

pub returns-in_ok-share-in-Some : goal.returns-in_ok-share-in-Some
returns-in_ok-share-in-Some c =
    rw c.in_ok-share-in-Some.ensures (answer_there (library_of c.args.log.now) c.args.faces.now c.args.name.now c.in-Some.verdict.now c.requires.verdicts (sym c.in-Some.ensures.verdict))

pub unreachable-requires : goal.unreachable-requires
unreachable-requires c =
    answer_due (library_of c.args.log.now) c.args.faces.now c.args.name.now c.in-Some-text.field-0.now c.requires.there (sym c.get.ensures.verdict ∙ ap option_copied c.in-None.is) (sym (ap option_copied c.in-Some-text.is) ∙ c.text.ensures.text)
