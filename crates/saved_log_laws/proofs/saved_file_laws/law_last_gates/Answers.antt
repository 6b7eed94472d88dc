use Rattle.saved_log_laws.proofs.LastGates.{has_last_gate, last_gate_read, new_file, next_gate}
use Rattle.saved_log_laws.proofs.saved_file_laws.law_last_gates.Goals as goal

pub returns-clause-found : goal.returns-clause-found
returns-clause-found c = has_last_gate

pub returns-clause-read : goal.returns-clause-read
returns-clause-read c = last_gate_read

pub returns-clause-new : goal.returns-clause-new
returns-clause-new c = new_file

pub returns-clause-next : goal.returns-clause-next
returns-clause-next c = next_gate
