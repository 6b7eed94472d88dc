use Rattle.board_laws.proofs.Computed.{ring_is_told, ring_is_not_ready, dropped_is_absent, closed_is_not_ready, closed_is_used, closed_tells_verdict, others_may_not_call}
use Rattle.board_laws.proofs.examples.other_replies.Goals as goal

pub returns-clause-ring : goal.returns-clause-ring
returns-clause-ring c = ring_is_told

pub returns-clause-ring_not_ready : goal.returns-clause-ring_not_ready
returns-clause-ring_not_ready c = ring_is_not_ready

pub returns-clause-dropped : goal.returns-clause-dropped
returns-clause-dropped c = dropped_is_absent

pub returns-clause-closed : goal.returns-clause-closed
returns-clause-closed c = closed_is_not_ready

pub returns-clause-closed_used : goal.returns-clause-closed_used
returns-clause-closed_used c = closed_is_used

pub returns-clause-closed_told : goal.returns-clause-closed_told
returns-clause-closed_told c = closed_tells_verdict

pub returns-clause-may_not : goal.returns-clause-may_not
returns-clause-may_not c = others_may_not_call
