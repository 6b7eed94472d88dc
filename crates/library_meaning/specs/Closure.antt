-- The inclusion closure of a theory (Rabe and Kohlhase 2013, section 3: inclusions are transitive; that each theory counts
-- once is this profile).
use Rattle.std.specs.Prelude.{Bool, List, [], ◌∷◌, ◌++◌, fold, if◌then◌else◌}
use Rattle.translation_meaning.specs.Below.Names.{Name, is_among}
use Rattle.library_meaning.specs.Faces.{Environment, theory_of, includes_of}

-- The theory is one of these.
abbrev pub sees : List Name → Name → Bool
sees names name = is_among names name

-- The names with one more at their end, unless it is one of them.
abbrev pub with_once : List Name → Name → List Name
with_once names name = if sees names name then names else names ++ name ∷ []

-- The names with all of these behind them, in order, each unless it is there.
unfoldable pub with_all : List Name → List Name → List Name
with_all names more = fold with_once names more

-- What one inclusion brings: what the theory includes, in order, and then the theory.
abbrev pub brought : Environment → Name → List Name
brought environment theory = includes_of (theory_of environment theory) ++ theory ∷ []

-- The closure so far after one more inclusion.
unfoldable pub with_inclusion : Environment → List Name → Name → List Name
with_inclusion environment closure theory = with_all closure (brought environment theory)

-- The closure of a theory that includes these, in the order of its text.
unfoldable pub closure_of : Environment → List Name → List Name
closure_of environment inclusions = fold (with_inclusion environment) [] inclusions
