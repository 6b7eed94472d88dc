use Rattle.std.proofs.Common.{◌≤◌, drop}
use Rattle.module_graph.specs.PeelingState.{IsState, work}
use Rattle.module_graph.proofs.grounding.Peeling.wake.Given as goal

abbrev pub invariant-loop-own : goal.invariant-loop-own
invariant-loop-own l = IsState l.graph l.self (drop l.own-index l.own-items) × (work l.self ≤ work l.initial.self)
