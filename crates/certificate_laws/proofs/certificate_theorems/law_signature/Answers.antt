use Rattle.certificate_laws.proofs.SoundCertificates.{certified_unique, certified_distinct, certified_normal}
use Rattle.certificate_laws.proofs.certificate_theorems.law_signature.Goals as goal

pub returns-clause-unique : goal.returns-clause-unique
returns-clause-unique c = certified_unique

pub returns-clause-distinct : goal.returns-clause-distinct
returns-clause-distinct c = certified_distinct

pub returns-clause-normal : goal.returns-clause-normal
returns-clause-normal c = certified_normal
