use Rattle.acceptance_laws.proofs.ToldModules.{accepted_theories_told, written_theories_told}
use Rattle.acceptance_laws.proofs.AcceptedTheories.{accepted_theories, written_theories}
use Rattle.acceptance_laws.proofs.theory_laws.law_theories.Goals as goal

pub returns-clause-faces : goal.returns-clause-faces
returns-clause-faces c = accepted_theories

pub returns-clause-written : goal.returns-clause-written
returns-clause-written c = written_theories

pub returns-clause-told : goal.returns-clause-told
returns-clause-told c = accepted_theories_told

pub returns-clause-written_told : goal.returns-clause-written_told
returns-clause-written_told c = written_theories_told
