-- The names of a path.
use Rattle.std.specs.Prelude.{ℕ, List, [], ◌∷◌, ◌≡◌, ◌<◌, ⊤, length}
use Rattle.base_types.specs.Digests.{digest_of}
use Rattle.base_types.specs.declared.path.Held.{Held}
use Rattle.base_types.specs.declared.path.Held.TheVariants.{One, More}
use Rattle.base_types.specs.declared.path.Row.{Row}

abbrev pub held_names : Held → List (List ℕ)
held_names (One name alloc) = name ∷ []
held_names (More row alloc) = row.names.items

-- A row stands beside the digest of its names.
abbrev pub HasDigest : Row → Type 0
HasDigest row = row.digest ≡ digest_of row.names.items

-- A row has two names at least, and its digest.
abbrev pub IsHeld : Held → Type 0
IsHeld (One name alloc) = ⊤
IsHeld (More row alloc) = (1 < length row.names.items) × HasDigest row
