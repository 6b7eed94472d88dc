use Rattle.board_laws.proofs.Legality.{legal_empty, legal_call, legal_calls, legal_front}
use Rattle.board_laws.proofs.history_laws.law_legal.Goals as goal

pub returns-clause-empty : goal.returns-clause-empty
returns-clause-empty c = legal_empty

pub returns-clause-call : goal.returns-clause-call
returns-clause-call c = legal_call

pub returns-clause-calls : goal.returns-clause-calls
returns-clause-calls c = legal_calls

pub returns-clause-beginning : goal.returns-clause-beginning
returns-clause-beginning c = legal_front
