use Rattle.board_laws.proofs.Entries.{edits_are_appended, others_leave_log}
use Rattle.board_laws.proofs.history_laws.law_steps.Goals as goal

pub returns-clause-edits : goal.returns-clause-edits
returns-clause-edits c = edits_are_appended

pub returns-clause-others : goal.returns-clause-others
returns-clause-others c = others_leave_log
