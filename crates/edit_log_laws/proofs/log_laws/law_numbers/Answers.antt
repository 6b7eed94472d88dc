use Rattle.std.proofs.Common.{refl}
use Rattle.edit_log_laws.proofs.log_laws.law_numbers.Goals as goal

pub returns-clause-log : goal.returns-clause-log
returns-clause-log c = record { text = refl; modules = refl; edits = refl; total = refl }

pub returns-clause-input : goal.returns-clause-input
returns-clause-input c = record { put = refl; file = refl; line = refl }
