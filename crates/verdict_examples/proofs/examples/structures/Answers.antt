use Rattle.verdict_examples.proofs.Computed.{monoid_over_logic, monoid_is_checked, mixed_copies, two_copies, assigned_structure, ring, bare_structure, assigned_constants_are_defined, ring_has_one_set}
use Rattle.verdict_examples.proofs.examples.structures.Goals as goal

pub returns-clause-monoid_over_logic : goal.returns-clause-monoid_over_logic
returns-clause-monoid_over_logic c = monoid_over_logic

pub returns-clause-monoid_is_checked : goal.returns-clause-monoid_is_checked
returns-clause-monoid_is_checked c = monoid_is_checked

pub returns-clause-mixed_copies : goal.returns-clause-mixed_copies
returns-clause-mixed_copies c = mixed_copies

pub returns-clause-two_copies : goal.returns-clause-two_copies
returns-clause-two_copies c = two_copies

pub returns-clause-assigned_structure : goal.returns-clause-assigned_structure
returns-clause-assigned_structure c = assigned_structure

pub returns-clause-ring : goal.returns-clause-ring
returns-clause-ring c = ring

pub returns-clause-bare_structure : goal.returns-clause-bare_structure
returns-clause-bare_structure c = bare_structure

pub returns-clause-assigned_constants : goal.returns-clause-assigned_constants
returns-clause-assigned_constants c = assigned_constants_are_defined

pub returns-clause-one_set : goal.returns-clause-one_set
returns-clause-one_set c = ring_has_one_set
