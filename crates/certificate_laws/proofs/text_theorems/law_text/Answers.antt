use Rattle.certificate_laws.proofs.WrittenTexts.{written_is_certified, written_is_one, signature_is_one}
use Rattle.certificate_laws.proofs.text_theorems.law_text.Goals as goal

pub returns-clause-certified : goal.returns-clause-certified
returns-clause-certified c = written_is_certified

pub returns-clause-one : goal.returns-clause-one
returns-clause-one c = written_is_one

pub returns-clause-signature : goal.returns-clause-signature
returns-clause-signature c = signature_is_one
