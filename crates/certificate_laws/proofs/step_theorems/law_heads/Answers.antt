use Rattle.certificate_laws.proofs.SoundSteps.{head_headed}
use Rattle.certificate_laws.proofs.step_theorems.law_heads.Goals as goal

pub returns : goal.returns
returns c = record { substituted = head_headed }
