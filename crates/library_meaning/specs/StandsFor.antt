-- What a written path stands for, as a relation: the four cases, each where none before it applies (this profile).
use Rattle.std.specs.Prelude.{◌≡◌, ◌≢◌, ℕ, ◌<◌, true, [], ◌∷◌, Some, slice_get}
use Rattle.translation_meaning.specs.Below.Names.{Name, Path}
use Rattle.translation_meaning.specs.Below.Signatures.{Declaration}
use Rattle.library_meaning.specs.Faces.{own_part}
use Rattle.library_meaning.specs.Closure.{sees}
use Rattle.library_meaning.specs.Resolution.{Scope, Variables, own_at, Resolved, Variable, Declared, Unknown, Ambiguous, resolve}

-- The path is simple, and this is the number of the innermost bound variable of that name.
pub record IsBound (variables : Variables) (path : Path) (index : ℕ) : Type 0 where
  pub name : Name
  pub simple : path ≡ name ∷ []
  pub found : slice_get variables index ≡ Some (Some name)
  pub innermost : (inner : ℕ) → inner < index → slice_get variables inner ≢ Some (Some name)

-- The own part so far has this constant at the path.
abbrev pub IsOwn : Scope → Path → Declaration → Type 0
IsOwn scope path declaration = own_at scope.own path ≡ Some declaration

-- The first name of the path is an included theory, which has this constant at the rest of the path.
pub record IsQualified (scope : Scope) (path : Path) (declaration : Declaration) : Type 0 where
  pub theory : Name
  pub rest : Path
  pub parts : path ≡ theory ∷ rest
  pub seen : sees scope.includes theory ≡ true
  pub has : own_at (own_part scope.environment theory) rest ≡ Some declaration

-- The included theory at this place has this constant at the path.
pub record IsIncluded (scope : Scope) (path : Path) (place : ℕ) (declaration : Declaration) : Type 0 where
  pub theory : Name
  pub found : slice_get scope.includes place ≡ Some theory
  pub has : own_at (own_part scope.environment theory) path ≡ Some declaration

-- One included theory has this constant at the path, and no other has one there.
pub record IsOnly (scope : Scope) (path : Path) (declaration : Declaration) : Type 0 where
  pub place : ℕ
  pub here : IsIncluded scope path place declaration
  pub only : (place' : ℕ) (other : Declaration) → IsIncluded scope path place' other → place' ≡ place

-- Two included theories have a constant at the path.
pub record AreTwo (scope : Scope) (path : Path) : Type 0 where
  pub first : ℕ
  pub second : ℕ
  pub one : Declaration
  pub other : Declaration
  pub is_one : IsIncluded scope path first one
  pub is_other : IsIncluded scope path second other
  pub differ : first ≢ second

-- Nothing has the property.
abbrev pub NoneHas : {X : Type 0} → (X → Type 0) → Type 0
NoneHas {X} P = (x : X) → P x → ⊥

-- None of the first three cases applies.
pub record IsElsewhere (scope : Scope) (variables : Variables) (path : Path) : Type 0 where
  pub free : NoneHas (IsBound variables path)
  pub not_own : NoneHas (IsOwn scope path)
  pub not_qualified : NoneHas (IsQualified scope path)

-- The path stands for this declaration, by the second, third or fourth case.
pub data StandsForDeclaration (scope : Scope) (variables : Variables) (path : Path) (declaration : Declaration) : Type 0 where
  ByOwn : NoneHas (IsBound variables path) → IsOwn scope path declaration → StandsForDeclaration scope variables path declaration
  ByQualified : NoneHas (IsBound variables path) → NoneHas (IsOwn scope path) → IsQualified scope path declaration → StandsForDeclaration scope variables path declaration
  ByIncluded : IsElsewhere scope variables path → IsOnly scope path declaration → StandsForDeclaration scope variables path declaration

-- The path stands for a variable or a declaration, for nothing, or for two declarations.
abbrev pub StandsFor : Scope → Variables → Path → Resolved → Type 0
StandsFor scope variables path (Variable index) = IsBound variables path index
StandsFor scope variables path (Declared declaration) = StandsForDeclaration scope variables path declaration
StandsFor scope variables path Unknown = IsElsewhere scope variables path × ((place : ℕ) → NoneHas (IsIncluded scope path place))
StandsFor scope variables path Ambiguous = IsElsewhere scope variables path × AreTwo scope path

-- What the function answers stands, and nothing else does.
abbrev pub ResolutionIsStanding : Type 0
ResolutionIsStanding =
    (scope : Scope) (variables : Variables) (path : Path)
    → StandsFor scope variables path (resolve scope variables path) × ((other : Resolved) → StandsFor scope variables path other → other ≡ resolve scope variables path)
