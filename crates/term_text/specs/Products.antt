-- What stands around the domain of a Π (this profile).
use Rattle.std.specs.Prelude.{ℕ, Bool, true, false, List, [], ◌++◌, codes}

-- In front of it: the variable, where the body uses it, else a parenthesis where the domain is a Π.
abbrev pub front_text : Bool → List ℕ → Bool → List ℕ
front_text true variable bracketed = codes "{" ++ variable ++ codes ":"
front_text false variable true = codes "("
front_text false variable false = []

-- Behind it.
abbrev pub back_text : Bool → Bool → List ℕ
back_text true bracketed = codes "} "
back_text false true = codes ") -> "
back_text false false = codes " -> "
