-- Raising and substitution past the variables of a term do nothing.
use Rattle.std.proofs.Common.{◌≡◌, ℕ, suc, ◌≤◌, ◌∷◌, length, refl, sym, ap, ap₂, ◌∙◌, arith}
use Rattle.lf_meaning.specs.Terms.{Object, Lam, At, Atomic, Var, Con, App, Family, Pi, AtFamily, AtomicFamily, FamilyCon, FamilyApp, Kind, Ty, PiKind, Simple, Base, Arrow, SimpleContext}
use Rattle.lf_meaning.specs.Raising.{raise, raise_atomic, raise_family, raise_atomic_family, raise_kind}
use Rattle.lf_meaning.specs.Erasure.{erase}
use Rattle.lf_meaning.specs.Substitution.{substitute_family, substitute_kind}
use Rattle.lf_meaning.specs.Sorts.{Sorts, HasSort, SynthesisesSort, IsSortedAtomicFamily, IsSortedFamily, IsSortedKind}
use Rattle.lf_substitution_laws.proofs.Indices.{raised_below}
use Rattle.lf_term_laws.proofs.Lookups.{get_within}
use Rattle.lf_substitution_laws.proofs.Families.{substitute_raised_family, substitute_raised_kind, raise_family_by_zero, raise_kind_by_zero}

module _ (sorts : Sorts) (k : ℕ) where
  mutual
    pub raise_past : (D : SimpleContext) (n : ℕ) (m : Object) (t : Simple) → length D ≤ n → HasSort sorts D m t → raise k n m ≡ m
    raise_past D n (Lam m) (Arrow s t) e h = ap Lam (raise_past (s ∷ D) (suc n) m t (omega (arith, e)) h)
    raise_past D n (Lam m) (Base c) e h = absurd h
    raise_past D n (At r) (Arrow s t) e h = absurd h
    raise_past D n (At r) (Base c) e h = ap At (raise_atomic_past D n r (Base c) e h)

    pub raise_atomic_past : (D : SimpleContext) (n : ℕ) (r : Atomic) (t : Simple) → length D ≤ n → SynthesisesSort sorts D r t → raise_atomic k n r ≡ r
    raise_atomic_past D n (Var i) t e h = ap Var (raised_below k n i (omega (arith, e, get_within D i t h)))
    raise_atomic_past D n (Con c) t e h = refl
    raise_atomic_past D n (App r m) t e h = ap₂ App (raise_atomic_past D n r (Arrow h.domain t) e h.head_has) (raise_past D n m h.domain e h.argument_has)

  pub raise_atomic_family_past : (D : SimpleContext) (n : ℕ) (p : AtomicFamily) → length D ≤ n → IsSortedAtomicFamily sorts D p → raise_atomic_family k n p ≡ p
  raise_atomic_family_past D n (FamilyCon c) e h = refl
  raise_atomic_family_past D n (FamilyApp p m) e h = ap₂ FamilyApp (raise_atomic_family_past D n p e h.0) (raise_past D n m h.1.sort e h.1.has)

  pub raise_family_past : (D : SimpleContext) (n : ℕ) (a : Family) → length D ≤ n → IsSortedFamily sorts D a → raise_family k n a ≡ a
  raise_family_past D n (Pi a b) e h = ap₂ Pi (raise_family_past D n a e h.0) (raise_family_past (erase a ∷ D) (suc n) b (omega (arith, e)) h.1)
  raise_family_past D n (AtFamily p) e h = ap AtFamily (raise_atomic_family_past D n p e h)

  pub raise_kind_past : (D : SimpleContext) (n : ℕ) (c : Kind) → length D ≤ n → IsSortedKind sorts D c → raise_kind k n c ≡ c
  raise_kind_past D n Ty e h = refl
  raise_kind_past D n (PiKind a c) e h = ap₂ PiKind (raise_family_past D n a e h.0) (raise_kind_past (erase a ∷ D) (suc n) c (omega (arith, e)) h.1)

pub substitute_family_past : (sorts : Sorts) (v : Object) (t : Simple) (D : SimpleContext) (n : ℕ) (a : Family) → length D ≤ n → IsSortedFamily sorts D a → substitute_family v t n a ≡ a
substitute_family_past sorts v t D n a e h = ap (substitute_family v t n) (sym (raise_family_past sorts 1 D n a e h)) ∙ substitute_raised_family 0 v t n n a (omega arith) (omega arith) ∙ raise_family_by_zero n a

pub substitute_kind_past : (sorts : Sorts) (v : Object) (t : Simple) (D : SimpleContext) (n : ℕ) (k : Kind) → length D ≤ n → IsSortedKind sorts D k → substitute_kind v t n k ≡ k
substitute_kind_past sorts v t D n k e h = ap (substitute_kind v t n) (sym (raise_kind_past sorts 1 D n k e h)) ∙ substitute_raised_kind 0 v t n n k (omega arith) (omega arith) ∙ raise_kind_by_zero n k
