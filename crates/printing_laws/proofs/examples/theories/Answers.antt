use Rattle.printing_laws.proofs.Computed.{monoid_is_printed, verdict_is_printed, view_verdict_is_printed, refusal_is_printed, definitions_are_printed}
use Rattle.printing_laws.proofs.examples.theories.Goals as goal

pub returns-clause-monoid : goal.returns-clause-monoid
returns-clause-monoid c = monoid_is_printed

pub returns-clause-verdict : goal.returns-clause-verdict
returns-clause-verdict c = verdict_is_printed

pub returns-clause-view_verdict : goal.returns-clause-view_verdict
returns-clause-view_verdict c = view_verdict_is_printed

pub returns-clause-refusal : goal.returns-clause-refusal
returns-clause-refusal c = refusal_is_printed

pub returns-clause-definitions : goal.returns-clause-definitions
returns-clause-definitions c = definitions_are_printed
