-- The targets of assignments in a tree, and the first assignment to each (this profile).
use Rattle.std.specs.Prelude.{◌≡◌, ℕ, suc, min, Bool, false, cond, ◌||◌, nat_eq, List, [], ◌∷◌, length, option_map, Option, Some, None}
use Rattle.std.specs.Map.{lookup}
use Rattle.std.specs.Option.{option_or}
use Rattle.name_meaning.specs.Names.{Path}
use Rattle.lf_terms.specs.Tables.{same_path}
use Rattle.link_meaning.specs.Assignments.{Assigned, Covering, Sharing, Giving}
use Rattle.link_setting.specs.PathTrees.{place_along, steps_of}
use Rattle.link_setting.specs.declared.path_tree.Step.{Step}
use Rattle.link_setting.proofs.Beginnings.{begins_before}
use Rattle.link_passes.specs.declared.targets.Targets.{Targets}

-- The number of the first of these that passes the test.
abbrev pub first_that : (Assigned → Bool) → List Assigned → Option ℕ
first_that test [] = None
first_that test (item ∷ items) = cond (test item) (Some 0) (option_map suc (first_that test items))

-- The smaller one of two numbers, as far as they are there.
abbrev pub earlier_of : Option ℕ → Option ℕ → Option ℕ
earlier_of None other = other
earlier_of (Some number) None = Some number
earlier_of (Some number) (Some other) = Some (min number other)

-- The number that is noted for a place.
abbrev pub number_at : List (ℕ × ℕ) → ℕ → Option ℕ
number_at numbers place = lookup (nat_eq place) numbers

-- The same, where there is a place.
abbrev pub number_along : List (ℕ × ℕ) → Option ℕ → Option ℕ
number_along numbers None = None
number_along numbers (Some place) = number_at numbers place

-- What is known of another place, with a number for this one, unless it has one.
abbrev pub numbered_more : Option ℕ → ℕ → ℕ → ℕ → Option ℕ
numbered_more known place number other = option_or known (cond (nat_eq other place) (Some number) None)

-- It shares a structure at this path.
abbrev pub shares_at : Path → Assigned → Bool
shares_at path (Covering first by) = false
shares_at path (Sharing target structure first by) = same_path target path
shares_at path (Giving target value) = false

-- It gives a value to the constant at this path.
abbrev pub gives_at : Path → Assigned → Bool
gives_at path (Covering first by) = false
gives_at path (Sharing target structure first by) = false
gives_at path (Giving target value) = same_path target path

-- It shares a structure at a beginning of less than so many names.
abbrev pub shares_before : ℕ → Path → Assigned → Bool
shares_before count path (Covering first by) = false
shares_before count path (Sharing target structure first by) = begins_before count path target
shares_before count path (Giving target value) = false

-- It reaches the constant at this path: by the value, or by a structure whose constant that is.
abbrev pub reaches : Path → Assigned → Bool
reaches path item = shares_before (length path) path item || gives_at path item

-- By the place to which a path leads the first of the assignments is found that pass the test at the path. Only places to which
-- paths lead have numbers.
pub record Numbers (steps : List Step) (numbers : List (ℕ × ℕ)) (test : Path → Assigned → Bool) (items : List Assigned) : Type 0 where
  pub first : (path : Path) → number_along numbers (place_along steps path) ≡ first_that (test path) items
  pub led : (place number : ℕ) → number_at numbers place ≡ Some number → (path : Path) × (place_along steps path ≡ Some place)

-- These are the targets of the assignments.
pub record AreNumbered (targets : Targets) (items : List Assigned) : Type 0 where
  pub shared : Numbers (steps_of targets.tree) targets.shared.entries shares_at items
  pub given : Numbers (steps_of targets.tree) targets.given.entries gives_at items
