use Rattle.std.proofs.Common.{◌≡◌, List, ℕ, IfOk, option_copied, ap₂, ◌∙◌, subst}
use Rattle.edit_log_meaning.specs.Log.{library_of}
use Rattle.run_meaning.specs.Judging.{environment_of}
use Rattle.judged_meaning.specs.JudgingByRules.{rules}
use Rattle.board_front.proofs.Printed.{can_be_told, counts, short_copied}
use Rattle.folder_front.specs.Sheets.{verdict_from}
use Rattle.folder_front.proofs.Lines.{told_shown}
use Rattle.folder_front.proofs.verdicts.verdict_line.Goals as goal

pub told_line-requires : goal.told_line-requires
told_line-requires c =
    can_be_told c.args.sheet.now.log c.args.name.now (option_copied c.text.result) c.args.told.now c.text.ensures.text
    (short_copied c.text.result c.text.ensures.short) c.requires

pub returns : goal.returns
returns c =
    let log = c.args.sheet.now.log in
    let name = c.args.name.now in
    subst (λ (text : List ℕ). IfOk c.told_line.result (λ line. line ≡ text))
    (told_shown log name (option_copied c.get.result) (option_copied c.text.result) c.args.told.now c.text.ensures.text c.requires
    ∙ ap₂ (verdict_from log name) c.get.ensures.value c.text.ensures.text)
    (c.told_line.ensures (environment_of rules (library_of log)) (counts log name c.args.told.now c.requires))
