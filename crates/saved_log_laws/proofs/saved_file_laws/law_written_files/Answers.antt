use Rattle.saved_log_laws.proofs.Gates.{file_written, short_file}
use Rattle.saved_log_laws.proofs.saved_file_laws.law_written_files.Goals as goal

pub returns-clause-written : goal.returns-clause-written
returns-clause-written c = file_written

pub returns-clause-short : goal.returns-clause-short
returns-clause-short c = short_file
