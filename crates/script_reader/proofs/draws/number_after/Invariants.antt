use Rattle.std.proofs.Common.{◌≡◌}
use Rattle.run_meaning.specs.Generator.{number_after}
use Rattle.script_reader.proofs.draws.number_after.Given as goal

abbrev pub invariant-loop : goal.invariant-loop
invariant-loop l = l.number ≡ number_after l.start l.counter
