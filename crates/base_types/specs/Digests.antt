-- The number by which paths are hashed.
use Rattle.std.specs.Prelude.{ℕ, List, [], ◌∷◌}
use Rattle.std.specs.List.{fold}
use Rattle.std.specs.Hash.{slice}
use Rattle.std.specs.Hash.FoldHasher.{initial, write, finish}

-- What the hasher of tables makes of the names of a path, in order.
unfoldable pub digest_of : List (List ℕ) → ℕ
digest_of names = finish (fold write initial (slice (λ name. name ∷ []) names))
