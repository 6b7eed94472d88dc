use Rattle.certificate_laws.proofs.SoundCertificates.{certified_typed, step_true}
use Rattle.certificate_laws.proofs.certificate_theorems.law_certificate.Goals as goal

pub returns-clause-typed : goal.returns-clause-typed
returns-clause-typed c = certified_typed

pub returns-clause-steps : goal.returns-clause-steps
returns-clause-steps c = step_true
