use Rattle.saved_log_laws.proofs.LastGates.{other_heading}
use Rattle.saved_log_laws.proofs.Damage.{damage, gate_damage}
use Rattle.saved_log_laws.proofs.saved_file_laws.law_damage.Goals as goal

pub returns-clause-heading : goal.returns-clause-heading
returns-clause-heading c = other_heading

pub returns-clause-found : goal.returns-clause-found
returns-clause-found c = damage

pub returns-clause-gate : goal.returns-clause-gate
returns-clause-gate c = gate_damage
