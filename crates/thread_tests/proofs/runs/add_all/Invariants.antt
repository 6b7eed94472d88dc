use Rattle.std.proofs.Common.{◌≡◌, ◌≤◌}
use Rattle.thread_tests.proofs.runs.add_all.Given as goal

abbrev pub invariant-loop : goal.invariant-loop
invariant-loop g l = (l.pass ≡ record l.initial.pass { seen = l.pass.seen }) × (l.added ≤ l.counter)
