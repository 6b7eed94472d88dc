-- Bytes parted at their first space.
use Rattle.std.proofs.Common.{◌≡◌, ℕ, suc, ◌+◌, Bool, true, false, cond, not, List, [], ◌∷◌, length, take, drop, refl, sym, ap, subst, ◌∙◌, arith}
use Rattle.std.proofs.lemmas.Bool.Decides.{nat_tests}
use Rattle.std.specs.Prelude.{Some, None, option_map, nat_lt, ◌==◌}
use Rattle.std.specs.declared.option.Option.{Option}
use Rattle.std.specs.List.{position, position_or_len}
use Rattle.run_meaning.specs.ScriptCommands.{Parted, with_byte, parted_at_space}

-- the bytes in front of an index, and those behind it
abbrev pub parted_at : List ℕ → ℕ → Parted
parted_at bytes at = record { front = take at bytes; behind = drop (suc at) bytes }

-- one byte more in front
shifted : (byte : ℕ) (bytes : List ℕ) (shorter longer : Bool) (at next : ℕ) → next ≡ suc at → shorter ≡ longer
    → option_map (with_byte byte) (option_map (parted_at bytes) (cond shorter (Some at) None)) ≡ option_map (parted_at (byte ∷ bytes)) (cond longer (Some next) None)
shifted byte bytes shorter longer at next e same =
    subst (λ (n : ℕ). from shorter ≡ option_map (parted_at (byte ∷ bytes)) (cond longer (Some n) None)) (sym e)
    (subst (λ (b : Bool). from shorter ≡ option_map (parted_at (byte ∷ bytes)) (cond b (Some (suc at)) None)) same (by shorter))
  where
    from : Bool → Option Parted
    from b = option_map (with_byte byte) (option_map (parted_at bytes) (cond b (Some at) None))

    by : (b : Bool) → from b ≡ option_map (parted_at (byte ∷ bytes)) (cond b (Some (suc at)) None)
    by true = refl
    by false = refl

pub parted-position : (bytes : List ℕ) → parted_at_space bytes ≡ option_map (parted_at bytes) (position (λ (byte : ℕ). byte == 32) bytes)
unfolding parted_at_space
parted-position [] = refl
parted-position (byte ∷ bytes) = by (byte == 32) (position_or_len (λ (b : ℕ). b == 32) bytes) (parted-position bytes)
  where
    by : (b : Bool) (at : ℕ) → parted_at_space bytes ≡ option_map (parted_at bytes) (cond (nat_lt at (length bytes)) (Some at) None)
        → cond b (Some (record { front = []; behind = bytes })) (option_map (with_byte byte) (parted_at_space bytes))
        ≡ option_map (parted_at (byte ∷ bytes)) (cond (nat_lt (cond (not b) (1 + at) 0) (suc (length bytes))) (Some (cond (not b) (1 + at) 0)) None)
    by true at h = let first : nat_lt 0 (suc (length bytes)) ≡ true = grind (arith, nat_tests) in rw first refl
    by false at h =
        ap (λ (o : Option Parted). option_map (with_byte byte) o) h
        ∙ shifted byte bytes (nat_lt at (length bytes)) (nat_lt (1 + at) (suc (length bytes))) at (1 + at) (omega arith) (grind (arith, nat_tests))

-- what the code takes apart is what the definitions do
pub parted-some : (bytes : List ℕ) (at : ℕ) → Some at ≡ position (λ (byte : ℕ). byte == 32) bytes
    → parted_at_space bytes ≡ Some (record { front = take at bytes; behind = drop (at + 1) bytes })
parted-some bytes at e =
    let next : suc at ≡ at + 1 = omega arith in
    parted-position bytes ∙ ap (λ (o : Option ℕ). option_map (parted_at bytes) o) (sym e)
    ∙ ap (λ (n : ℕ). Some (record { front = take at bytes; behind = drop n bytes })) next

pub parted-none : (bytes : List ℕ) → None ≡ position (λ (byte : ℕ). byte == 32) bytes → parted_at_space bytes ≡ None
parted-none bytes e = parted-position bytes ∙ ap (λ (o : Option ℕ). option_map (parted_at bytes) o) (sym e)
