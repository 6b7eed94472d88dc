use Rattle.edit_log_laws.proofs.Libraries.{library_ascending, present_among, text_last}
use Rattle.edit_log_laws.proofs.log_laws.law_library.Goals as goal

pub returns-clause-library : goal.returns-clause-library
returns-clause-library c = library_ascending

pub returns-clause-names : goal.returns-clause-names
returns-clause-names c = present_among

pub returns-clause-text : goal.returns-clause-text
returns-clause-text c = text_last
