use Rattle.saved_log_laws.proofs.Fronts.{record_front, record_written}
use Rattle.saved_log_laws.proofs.OneForm.{read_is_written}
use Rattle.saved_log_laws.proofs.record_laws.law_records.Goals as goal

pub returns-clause-written : goal.returns-clause-written
returns-clause-written c = λ edit rest fits. record_written edit rest fits

pub returns-clause-read : goal.returns-clause-read
returns-clause-read c = read_is_written

pub returns-clause-front : goal.returns-clause-front
returns-clause-front c = λ bytes edit rest e. let front = record_front bytes (record { value = edit; rest = rest }) e in (front.front, front.split, front.long, front.again)
