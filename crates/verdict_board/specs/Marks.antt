-- Bits that names set (this profile).
use Rattle.std.specs.Prelude.{◌≡◌, ℕ, ◌+◌, ◌*◌, ◌%◌, List}
use Rattle.std.specs.List.{fold}
use Rattle.std.specs.Int.{bit_at}
use Rattle.name_meaning.specs.Names.{Name}
use Rattle.list_laws.proofs.Members.{Member}

-- A number below 64 that is made of the bytes of a name: the place of its bit, counted from 0.
unfoldable pub bit_of : Name → ℕ
bit_of name = fold (λ (number byte : ℕ). (number * 31 + byte) % 64) 0 name

-- The bit of each of these names is set.
abbrev pub AreMarked : List Name → ℕ → Type 0
AreMarked names marks = (name : Name) → Member name names → bit_at marks (bit_of name) ≡ 1
