use Rattle.std.proofs.Common.{◌≡◌}
use Rattle.board_seats.specs.Seats.{Keeps}
use Rattle.board_front.specs.Staying.{IsFront}
use Rattle.generator_front.specs.Generated.{IsLogOfGiven}
use Rattle.generator_front.proofs.edits.put_modules.Given as goal

abbrev pub invariant-loop : goal.invariant-loop
invariant-loop g l =
    Keeps l.fn.pass l.pass × IsFront l.log l.pass.seen × (l.generator ≡ record { start = l.fn.generator.start; modules = l.modules; given = l.counter })
    × IsLogOfGiven l.generator l.log
