-- The state in which names are taken off a graph (this profile).
use Rattle.std.specs.Prelude.{ℕ, zero, suc, List, [], ◌∷◌, ◌++◌}
use Rattle.module_graph_meaning.specs.Graphs.{Graph}
use Rattle.module_graph.specs.Peeling.{IsPeeling, work_left}
use Rattle.module_graph.specs.declared.grounding.Peeling.{Peeling}

-- These places, from one on, so many.
unfoldable pub places : ℕ → ℕ → List ℕ
places from zero = []
places from (suc more) = from ∷ places (suc from) more

-- The state, where these names are still to be looked at.
abbrev pub IsState : Graph → Peeling → List ℕ → Type 0
IsState graph state pending = IsPeeling (λ list. list.items) graph state.taken.items state.waiting.items state.seen.items state.ready.items pending

-- The state, where those that wait for this name, which is taken off, are still to be looked at.
abbrev pub IsStateWith : Graph → Peeling → ℕ → Type 0
IsStateWith graph state place =
    IsPeeling (λ list. list.items) graph state.taken.items state.waiting.items state.seen.items (state.ready.items ++ place ∷ []) []

-- How much is left to do.
abbrev pub work : Peeling → ℕ
work state = work_left state.taken.items state.ready.items
