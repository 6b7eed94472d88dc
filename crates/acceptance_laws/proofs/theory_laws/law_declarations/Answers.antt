use Rattle.acceptance_laws.proofs.Declared.{tests_answer_declared, one_face_declared}
use Rattle.acceptance_laws.proofs.theory_laws.law_declarations.Goals as goal

pub returns-clause-tests : goal.returns-clause-tests
returns-clause-tests c = tests_answer_declared

pub returns-clause-one : goal.returns-clause-one
returns-clause-one c = one_face_declared
