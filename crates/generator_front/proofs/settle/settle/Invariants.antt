use Rattle.std.proofs.Common.{◌≤◌}
use Rattle.board_seats.specs.Seats.{Keeps}
use Rattle.board_front.specs.Staying.{Stays}
use Rattle.generator_front.proofs.Settling.{AreSettledBelow}
use Rattle.generator_front.proofs.settle.settle.Given as goal

abbrev pub invariant-loop : goal.invariant-loop
invariant-loop g l = Keeps l.fn.pass l.pass × Stays l.fn.pass.seen l.pass.seen × AreSettledBelow l.log l.pass.seen l.from × (l.counter ≤ l.from)
