use Rattle.std.proofs.Common.{◌≡◌, List, ℕ, IfOk, option_copied, subst}
use Rattle.edit_log_meaning.specs.Log.{library_of}
use Rattle.run_meaning.specs.Judging.{environment_of}
use Rattle.judged_meaning.specs.JudgingByRules.{rules}
use Rattle.board_front.proofs.Printed.{can_be_told, counts, short_copied, told_printed}
use Rattle.board_front.proofs.reports.line.Goals as goal

pub told_line-requires : goal.told_line-requires
told_line-requires c =
    can_be_told c.args.log.now c.args.name.now (option_copied c.text.result) c.args.told.now c.text.ensures.text
    (short_copied c.text.result c.text.ensures.short) c.requires

pub returns : goal.returns
returns c =
    subst (λ (text : List ℕ). IfOk c.told_line.result (λ line. line ≡ text))
    (told_printed c.args.log.now c.args.name.now (option_copied c.text.result) c.args.told.now c.text.ensures.text c.requires)
    (c.told_line.ensures (environment_of rules (library_of c.args.log.now)) (counts c.args.log.now c.args.name.now c.args.told.now c.requires))
