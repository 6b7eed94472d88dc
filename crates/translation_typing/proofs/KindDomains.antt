-- The domains of kinds, as contexts and as simple types.
use Rattle.std.proofs.Common.{◌≡◌, ℕ, suc, ◌+◌, List, [], ◌∷◌, ◌++◌, length, refl, ap, ap₂, ◌∙◌, arith}
use Rattle.lf_meaning.specs.Terms.{Object, Kind, Ty, PiKind, Context, Simple, SimpleContext, domain_count, with_domains}
use Rattle.lf_meaning.specs.Raising.{map_kind, map_context}
use Rattle.lf_meaning.specs.Erasure.{erase_context}
use Rattle.lf_substitution_laws.proofs.Families.{erase_map}
use Rattle.translation_typing.specs.KindedFamilies.{domains_of}

-- ---- as contexts

pub domains_append : (k : Kind) (xs ys : Context) → with_domains k (xs ++ ys) ≡ with_domains k xs ++ ys
domains_append Ty xs ys = refl
domains_append (PiKind a k) xs ys = domains_append k (a ∷ xs) ys

pub domains_length : (k : Kind) (xs : Context) → length (with_domains k xs) ≡ domain_count k + length xs
domains_length Ty xs = omega arith
domains_length (PiKind a k) xs = let e = domains_length k (a ∷ xs) in e ∙ omega arith

pub domains_map : (f : ℕ → Object → Object) (k : Kind) (xs : Context) → map_context f (with_domains k xs) ≡ with_domains (map_kind f (length xs) k) (map_context f xs)
domains_map f Ty xs = refl
domains_map f (PiKind a k) xs = domains_map f k (a ∷ xs)

-- ---- as simple types

pub domains_of_map : (f : ℕ → Object → Object) (n : ℕ) (k : Kind) → domains_of (map_kind f n k) ≡ domains_of k
domains_of_map f n Ty = refl
domains_of_map f n (PiKind a k) = ap₂ (λ s ss. s ∷ ss) (erase_map f n a) (domains_of_map f (suc n) k)

pub domains_of_length : (k : Kind) → length (domains_of k) ≡ domain_count k
domains_of_length Ty = refl
domains_of_length (PiKind a k) = ap suc (domains_of_length k)

-- the simple context behind such domains
abbrev pub with_simples : List Simple → SimpleContext → SimpleContext
with_simples [] context = context
with_simples (s ∷ ss) context = with_simples ss (s ∷ context)

pub simples_append : (ss : List Simple) (xs ys : SimpleContext) → with_simples ss (xs ++ ys) ≡ with_simples ss xs ++ ys
simples_append [] xs ys = refl
simples_append (s ∷ ss) xs ys = simples_append ss (s ∷ xs) ys

pub simples_length : (ss : List Simple) (xs : SimpleContext) → length (with_simples ss xs) ≡ length ss + length xs
simples_length [] xs = omega arith
simples_length (s ∷ ss) xs = let e = simples_length ss (s ∷ xs) in e ∙ omega arith

pub simples_erased : (k : Kind) (xs : Context) → erase_context (with_domains k xs) ≡ with_simples (domains_of k) (erase_context xs)
simples_erased Ty xs = refl
simples_erased (PiKind a k) xs = simples_erased k (a ∷ xs)
