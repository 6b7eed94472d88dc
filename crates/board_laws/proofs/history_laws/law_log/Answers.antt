use Rattle.board_laws.proofs.Told.{entries_determine, edits_were_made}
use Rattle.board_laws.proofs.Legality.{legal_version, legal_limits}
use Rattle.board_laws.proofs.history_laws.law_log.Goals as goal

pub returns-clause-entries : goal.returns-clause-entries
returns-clause-entries c = entries_determine

pub returns-clause-edits : goal.returns-clause-edits
returns-clause-edits c = edits_were_made

pub returns-clause-versions : goal.returns-clause-versions
returns-clause-versions c = λ d H p e l s. legal_version d H l p e s

pub returns-clause-limits : goal.returns-clause-limits
returns-clause-limits c = legal_limits
