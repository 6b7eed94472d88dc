use Rattle.link_laws.proofs.Reading.{assignments_are_read}
use Rattle.link_laws.proofs.link_laws.law_assignments.Goals as goal

pub returns : goal.returns
returns c = assignments_are_read
