use Rattle.certificate_laws.proofs.Computed.{kind_row, type_row, atomic_value_row, application_row}
use Rattle.certificate_laws.proofs.examples.row_examples.Goals as goal

pub returns-clause-kind : goal.returns-clause-kind
returns-clause-kind c = kind_row

pub returns-clause-kind_type : goal.returns-clause-kind_type
returns-clause-kind_type c = type_row

pub returns-clause-atomic : goal.returns-clause-atomic
returns-clause-atomic c = atomic_value_row

pub returns-clause-application : goal.returns-clause-application
returns-clause-application c = application_row
