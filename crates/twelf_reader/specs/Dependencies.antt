-- What a reader that keeps names alone comes to.
use Rattle.std.specs.Prelude.{◌≡◌, ℕ, Bool, true, false, List, ◌++◌, map}
use Rattle.text_meaning.specs.Dependencies.{Dependency}
use Rattle.text_meaning.specs.Trees.{Module}
use Rattle.text_meaning.specs.Reading.{Answer, ModuleTree, Read}

-- the names of dependencies
abbrev pub names_in : List Dependency → List (List ℕ)
names_in dependencies = map (λ (dependency : Dependency). dependency.name) dependencies

-- The answer goes on from some item, and the names of its dependencies are added.
pub record Adds {T : Type 0} (answer : Answer) (next : T → Answer) (dependencies : T → List Dependency) (old new : List (List ℕ)) : Type 0 where
  pub item : T
  pub goes : answer ≡ next item
  pub names : new ≡ old ++ names_in (dependencies item)

-- The same where there is a further item; else the answer goes on as at the end of the items.
abbrev pub AddsOrEnds : {T : Type 0} → Answer → (T → Answer) → Answer → (T → List Dependency) → List (List ℕ) → List (List ℕ) → Bool → Type 0
AddsOrEnds answer next end dependencies old new true = Adds answer next dependencies old new
AddsOrEnds answer next end dependencies old new false = (answer ≡ end) × (new ≡ old)

-- the answer that a module is read
abbrev pub module_read : Module → Answer
module_read tree = Read (ModuleTree tree)
