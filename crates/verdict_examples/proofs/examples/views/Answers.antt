use Rattle.verdict_examples.proofs.Computed.{view_of_definition, clash_with_definition, missing_assignment, ill_typed_assignment}
use Rattle.verdict_examples.proofs.examples.views.Goals as goal

pub returns-clause-view_of_definition : goal.returns-clause-view_of_definition
returns-clause-view_of_definition c = view_of_definition

pub returns-clause-clash_with_definition : goal.returns-clause-clash_with_definition
returns-clause-clash_with_definition c = clash_with_definition

pub returns-clause-missing_assignment : goal.returns-clause-missing_assignment
returns-clause-missing_assignment c = missing_assignment

pub returns-clause-ill_typed_assignment : goal.returns-clause-ill_typed_assignment
returns-clause-ill_typed_assignment c = ill_typed_assignment
