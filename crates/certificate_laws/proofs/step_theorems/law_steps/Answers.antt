use Rattle.certificate_laws.proofs.SoundSteps.{sound}
use Rattle.certificate_laws.proofs.step_theorems.law_steps.Goals as goal

pub returns : goal.returns
returns c = record { sound = λ sig s premises f h. sound sig f h }
