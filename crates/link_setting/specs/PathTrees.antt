-- Paths in a tree of steps (this profile).
use Rattle.std.specs.Prelude.{◌≡◌, ℕ, suc, ◌<◌, ◌⊎◌, Bool, true, ◌&&◌, nat_eq, List, [], ◌∷◌, ◌++◌, length, position, fold, Option, Some, None}
use Rattle.std.specs.Borrow.{Bor}
use Rattle.std.specs.Option.{option_map}
use Rattle.name_meaning.specs.Names.{Name, Path, same_name}
use Rattle.link_meaning.specs.Assignments.{is_beginning}
use Rattle.link_setting.specs.declared.path_tree.Step.{Step}
use Rattle.link_setting.specs.declared.path_tree.PathTree.{PathTree}

-- The steps of a tree, in the order in which they came.
abbrev pub steps_of : PathTree → List Step
steps_of tree = tree.steps.keys

-- The step leads from this place by this name.
abbrev pub leads : ℕ → Name → Step → Bool
leads from name step = nat_eq from step.from && same_name name step.name.now

-- The place to which a name leads from a place: behind the step with index i that is the place i + 1.
abbrev pub next_place : List Step → ℕ → Name → Option ℕ
next_place steps from name = option_map suc (position (leads from name) steps)

-- The place to which a name leads from a place, where there is one to go from.
abbrev pub go_on : List Step → Option ℕ → Name → Option ℕ
go_on steps None name = None
go_on steps (Some from) name = next_place steps from name

-- The place to which a path leads from the place 0.
abbrev pub place_along : List Step → Path → Option ℕ
place_along steps path = fold (go_on steps) (Some 0) path

-- Each path that leads to a place in the one leads to the same place in the other.
abbrev pub Stay : List Step → List Step → Type 0
Stay old new = (path : Path) (place : ℕ) → place_along old path ≡ Some place → place_along new path ≡ Some place

-- To each place that is new a beginning of the path leads.
abbrev pub AreBegun : List Step → List Step → Path → Type 0
AreBegun old new path = (i : ℕ) → i < length new → (i < length old) ⊎ ((beginning : Path) × (place_along new beginning ≡ Some (suc i)) × (is_beginning beginning path ≡ true))

-- The steps with one more, from a place by a name.
abbrev pub with_step : List Step → ℕ → Bor Name → List Step
with_step steps from name = steps ++ record { from = from; name = name } ∷ []
