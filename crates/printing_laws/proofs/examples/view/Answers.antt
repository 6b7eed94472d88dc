use Rattle.printing_laws.proofs.Computed.{map_is_printed, prefix_is_changed, judgement_is_printed, ill_is_printed, no_view_is_printed}
use Rattle.printing_laws.proofs.examples.view.Goals as goal

pub returns-clause-map : goal.returns-clause-map
returns-clause-map c = map_is_printed

pub returns-clause-prefix : goal.returns-clause-prefix
returns-clause-prefix c = prefix_is_changed

pub returns-clause-judgement : goal.returns-clause-judgement
returns-clause-judgement c = judgement_is_printed

pub returns-clause-ill : goal.returns-clause-ill
returns-clause-ill c = ill_is_printed

pub returns-clause-no_view : goal.returns-clause-no_view
returns-clause-no_view c = no_view_is_printed
