-- What a written path stands for (this profile).
use Rattle.std.specs.Prelude.{ℕ, zero, suc, Bool, false, List, [], ◌∷◌, Option, Some, None, find, filter_map, if◌then◌else◌}
use lib.Pointwise.{pointwise}
use Rattle.translation_meaning.specs.Below.Names.{Name, Path, same_name}
use Rattle.translation_meaning.specs.Below.Signatures.{Declaration, Signature}
use Rattle.library_meaning.specs.Faces.{Environment, own_part}
use Rattle.library_meaning.specs.Closure.{sees}

-- Where names are looked up: the own part so far of the theory, and the theories that it includes so far, with what
-- is known of them.
pub record Scope : Type 0 where
  pub own : Signature
  pub includes : List Name
  pub environment : Environment

-- The variables of the binders around a place, the innermost first. A binder without a name has none.
abbrev pub Variables : Type 0
Variables = List (Option Name)

abbrev pub same_path : Path → Path → Bool
same_path path other = pointwise same_name path other

-- The declaration has this path.
abbrev pub has_path : Path → Declaration → Bool
has_path path declaration = same_path declaration.name.path path

-- The own constant of this path, if there is one.
abbrev pub own_at : Signature → Path → Option Declaration
own_at own path = find (has_path path) own

abbrev pub is_variable : Name → Option Name → Bool
is_variable name None = false
is_variable name (Some other) = same_name other name

-- The number of the innermost binder of this name, the innermost binder having this number.
unfoldable pub variable_from : ℕ → Variables → Name → Option ℕ
variable_from index [] name = None
variable_from index (binder ∷ variables) name = if is_variable name binder then Some index else variable_from (suc index) variables name

-- A simple path stands for the innermost bound variable of its name.
abbrev pub bound_variable : Variables → Path → Option ℕ
bound_variable variables [] = None
bound_variable variables (name ∷ []) = variable_from zero variables name
bound_variable variables (name ∷ next ∷ path) = None

-- The declaration that a path names by an included theory in front of it.
abbrev pub qualified_in : Scope → Name → Path → Option Declaration
qualified_in scope theory path = if sees scope.includes theory then own_at (own_part scope.environment theory) path else None

abbrev pub qualified : Scope → Path → Option Declaration
qualified scope [] = None
qualified scope (theory ∷ path) = qualified_in scope theory path

-- The declarations that included theories have at this path, in their order.
abbrev pub included_at : Scope → Path → List Declaration
included_at scope path = filter_map (λ (theory : Name). own_at (own_part scope.environment theory) path) scope.includes

-- A path stands for a variable or for a declaration; or it is unknown, or ambiguous.
pub data Resolved : Type 0 where
  Variable : ℕ → Resolved
  Declared : Declaration → Resolved
  Unknown : Resolved
  Ambiguous : Resolved

-- Exactly one declaration; none; or more.
abbrev pub the_only : List Declaration → Resolved
the_only [] = Unknown
the_only (declaration ∷ []) = Declared declaration
the_only (first ∷ second ∷ declarations) = Ambiguous

-- The variable, if there is one; the declaration, if there is one; else what else the path stands for.
abbrev pub or_variable : Option ℕ → Resolved → Resolved
or_variable None otherwise = otherwise
or_variable (Some index) otherwise = Variable index

abbrev pub or_declared : Option Declaration → Resolved → Resolved
or_declared None otherwise = otherwise
or_declared (Some declaration) otherwise = Declared declaration

-- The first of these that applies: a bound variable; an own constant; a constant of an included theory that is named
-- in front; the one constant that included theories have at the path.
unfoldable pub resolve : Scope → Variables → Path → Resolved
resolve scope variables path =
    or_variable (bound_variable variables path)
    (or_declared (own_at scope.own path)
    (or_declared (qualified scope path)
    (the_only (included_at scope path))))
