use Rattle.edit_log_laws.proofs.Positions.{edits_at_versions, no_other_versions, names_in_order, no_name_past_last}
use Rattle.edit_log_laws.proofs.log_laws.law_places.Goals as goal

pub returns-clause-edits : goal.returns-clause-edits
returns-clause-edits c = edits_at_versions

pub returns-clause-no_other : goal.returns-clause-no_other
returns-clause-no_other c = no_other_versions

pub returns-clause-names : goal.returns-clause-names
returns-clause-names c = names_in_order

pub returns-clause-no_more : goal.returns-clause-no_more
returns-clause-no_more c = no_name_past_last
