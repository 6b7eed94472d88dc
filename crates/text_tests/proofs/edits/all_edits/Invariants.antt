use Rattle.std.proofs.Common.{◌≡◌, ◌≤◌}
use Rattle.text_tests.proofs.edits.all_edits.Given as goal

abbrev pub invariant-loop : goal.invariant-loop
invariant-loop l = (l.generator.given ≤ l.counter) × (l.generator.modules ≡ l.modules)
