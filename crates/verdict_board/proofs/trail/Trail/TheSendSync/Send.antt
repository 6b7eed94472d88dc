-- It owns nothing.
use denote.Param.Send.{IsSend, owning_send, sendable}
use Rattle.verdict_board.specs.contracts.trail.Trail.{the_row, the_type}

pub send : IsSend the_row
send = owning_send the_type (search sendable) (λ d. tt) (λ k x w. tt)
