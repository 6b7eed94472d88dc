use Rattle.std.proofs.Common.{sym, ◌∙◌}
use Rattle.twelf_lexer.proofs.RowSteps.{row_goes}
use Rattle.twelf_lexer.proofs.row.goes_on.Goals as goal

pub returns-then-starts_with : goal.returns-then-starts_with
returns-then-starts_with c = c.starts_run.ensures ∙ sym (row_goes c.args.text.now c.args.at (sym c.starts_with.ensures ∙ c.if-starts_with.true))
