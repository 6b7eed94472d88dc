-- The names of printed variables: a prefix that no constant of the theory clashes with, and a number (this profile).
use Rattle.std.specs.Prelude.{ℕ, zero, suc, Bool, false, List, [], ◌∷◌, ◌++◌, ◌&&◌, length, drop, sum_by, nat_eq, if◌then◌else◌, codes}
use Rattle.std.specs.List.{list_any, starts_with}
use Rattle.name_meaning.specs.Names.{Name, Path}
use Rattle.lf_meaning.specs.Signatures.{Declaration, Signature}
use Rattle.printing_meaning.specs.Numbers.{is_digit}

-- So many marks `'`.
unfoldable pub marks : ℕ → List ℕ
marks zero = []
marks (suc more) = 39 ∷ marks more

-- `x` and so many marks.
abbrev pub prefix_with : ℕ → List ℕ
prefix_with count = codes "x" ++ marks count

-- The bytes begin with a digit.
abbrev pub begins_with_digit : List ℕ → Bool
begins_with_digit [] = false
begins_with_digit (byte ∷ bytes) = is_digit byte

-- The name begins with the prefix and a digit.
abbrev pub is_numbered : List ℕ → Name → Bool
is_numbered prefix name = starts_with nat_eq name prefix && begins_with_digit (drop (length prefix) name)

-- The path is one name, which begins with the prefix and a digit.
abbrev pub clashes : List ℕ → Path → Bool
clashes prefix [] = false
clashes prefix (name ∷ []) = is_numbered prefix name
clashes prefix (name ∷ second ∷ path) = false

-- An own constant of the theory clashes with the prefix.
abbrev pub is_taken : Signature → List ℕ → Bool
is_taken own prefix = list_any (λ (declaration : Declaration). clashes prefix declaration.name.path) own

-- The least number of marks, from this one on, with which the prefix is not taken, looked for at most so often.
unfoldable pub free_from : Signature → ℕ → ℕ → ℕ
free_from own zero count = count
free_from own (suc tries) count = if is_taken own (prefix_with count) then free_from own tries (suc count) else count

-- How many bytes the names of a path have.
abbrev pub length_of_path : Path → ℕ
length_of_path path = sum_by length path

-- How many bytes the names of all own paths have: at least as many as any of these names has.
abbrev pub enough : Signature → ℕ
enough own = sum_by (λ (declaration : Declaration). length_of_path declaration.name.path) own

-- The prefix of the variables in what is seen from a theory with these own constants: `x` and the least number of
-- marks such that no own constant of one name begins with it and a digit. A prefix that is as long as every name is free, so
-- the search ends.
unfoldable pub prefix_of : Signature → List ℕ
prefix_of own = prefix_with (free_from own (enough own) 0)
