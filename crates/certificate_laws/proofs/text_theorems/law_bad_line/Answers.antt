use Rattle.certificate_laws.proofs.WrittenTexts.{bad_is_none, bad_is_one}
use Rattle.certificate_laws.proofs.text_theorems.law_bad_line.Goals as goal

pub returns-clause-none : goal.returns-clause-none
returns-clause-none c = bad_is_none

pub returns-clause-one : goal.returns-clause-one
returns-clause-one c = bad_is_one
