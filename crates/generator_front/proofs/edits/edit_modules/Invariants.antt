use Rattle.std.proofs.Common.{◌≡◌, ◌+◌}
use Rattle.board_seats.specs.Seats.{Keeps}
use Rattle.board_front.specs.Staying.{IsFront}
use Rattle.generator_front.specs.Generated.{IsLogOfGiven, IsSettled}
use Rattle.generator_front.proofs.edits.edit_modules.Given as goal

abbrev pub invariant-loop : goal.invariant-loop
invariant-loop g l =
    Keeps l.fn.pass l.pass × IsFront l.log l.pass.seen
    × (l.generator ≡ record { start = l.fn.generator.start; modules = l.fn.generator.modules; given = l.fn.generator.modules + l.counter })
    × IsLogOfGiven l.generator l.log × IsSettled l.fn.generator.start l.fn.generator.modules l.counter l.pass.seen
