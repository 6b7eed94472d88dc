use Rattle.std.proofs.Common.{◌-◌, length, []}
use Rattle.module_graph.specs.PeelingState.{IsState, places, work}
use Rattle.module_graph.proofs.grounding.peel.Given as goal

abbrev pub invariant-loop-place : goal.invariant-loop-place
invariant-loop-place l = IsState l.graph l.peeling (places l.place (length l.graph - l.place))

abbrev pub invariant-loop-place-2 : goal.invariant-loop-place-2
invariant-loop-place-2 l = IsState l.graph l.peeling []

abbrev pub decreases-loop-place-2 : goal.decreases-loop-place-2
decreases-loop-place-2 l = work l.peeling
