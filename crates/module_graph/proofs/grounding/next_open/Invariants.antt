use Rattle.std.proofs.Common.{◌≡◌, ℕ, ◌<◌, ◌≤◌, slice_get, Some}
use Rattle.name_meaning.specs.Names.{Name}
use Rattle.module_graph.specs.Peeling.{IsPassed}
use Rattle.module_graph.proofs.grounding.next_open.Given as goal

abbrev pub invariant-loop-at : goal.invariant-loop-at
invariant-loop-at l = (before : ℕ) (name : Name) → l.from ≤ before → before < l.at → slice_get l.dependencies before ≡ Some name → IsPassed l.graph l.taken name
