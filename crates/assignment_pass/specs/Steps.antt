-- The targets of a link's assignments, in a tree.
use Rattle.std.specs.Prelude.{◌≡◌, ℕ, suc, ◌<◌, Bool, true, false, nat_eq, List, map, reverse, length, Option, Some, None}
use Rattle.std.specs.List.{list_any}
use Rattle.std.specs.Borrow.{Bor}
use Rattle.name_meaning.specs.Names.{Path}
use Rattle.list_laws.proofs.Members.{Member}
use Rattle.link_meaning.specs.Assignments.{is_beginning}
use Rattle.link_setting.specs.PathTrees.{place_along, steps_of}
use Rattle.assignment_pass.specs.declared.targets.Targets.{Targets}

-- The targets of the assignments so far, the last one first.
abbrev pub earlier_targets : Targets → List Path
earlier_targets targets = reverse (map (λ (path : Bor Path). path.now) targets.paths.items)

-- There is a place, and it is marked.
abbrev pub is_end : Targets → Option ℕ → Bool
is_end targets None = false
is_end targets (Some place) = list_any (nat_eq place) targets.ends.keys

-- The marked places are those to which targets lead, and to all others of the tree beginnings of targets lead.
pub record AreTabled (targets : Targets) : Type 0 where
  pub marked : (place : ℕ) → list_any (nat_eq place) targets.ends.keys ≡ true
      → (target : Path) × Member target (earlier_targets targets) × (place_along (steps_of targets.tree) target ≡ Some place)
  pub lead : (target : Path) → Member target (earlier_targets targets)
      → (place : ℕ) × (place_along (steps_of targets.tree) target ≡ Some place) × (list_any (nat_eq place) targets.ends.keys ≡ true)
  pub begun : (i : ℕ) → i < length (steps_of targets.tree)
      → (beginning : Path) × (place_along (steps_of targets.tree) beginning ≡ Some (suc i)) × (list_any (is_beginning beginning) (earlier_targets targets) ≡ true)
