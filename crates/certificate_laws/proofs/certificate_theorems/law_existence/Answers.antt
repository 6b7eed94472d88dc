use Rattle.certificate_laws.proofs.WrittenCertificates.{certificates_exist}
use Rattle.certificate_laws.proofs.certificate_theorems.law_existence.Goals as goal

pub returns : goal.returns
returns c = record { exists = certificates_exist }
