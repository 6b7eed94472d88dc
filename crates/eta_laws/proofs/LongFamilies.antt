-- The long form of a variable in families and kinds, and long forms of atomic families.
use Rattle.std.proofs.Common.{◌≡◌, ℕ, suc, ◌+◌, ◌∷◌, ◌++◌, length, refl, sym, ap, ap₂, ◌∙◌, arith}
use Rattle.lf_meaning.specs.Terms.{Object, Var, Family, Pi, AtFamily, AtomicFamily, FamilyCon, FamilyApp, Kind, Ty, PiKind, Simple, SimpleContext, family_apply_all, domain_count}
use Rattle.lf_meaning.specs.Raising.{raise, map_atomic_family, map_kind, raise_family, raise_atomic_family, raise_kind}
use Rattle.lf_meaning.specs.Erasure.{erase, head_constant}
use Rattle.lf_meaning.specs.Substitution.{substitute, substitute_family, substitute_atomic_family, substitute_kind}
use Rattle.lf_meaning.specs.Sorts.{Sorts, IsSortedAtomicFamily, IsSortedFamily, IsSortedKind}
use Rattle.lf_substitution_laws.proofs.Families.{head_constant_map, erase_map, raise_family_by_zero, raise_family_twice, raise_family_swap, raise_below_substitution_family}
use Rattle.eta_meaning.specs.LongTerms.{eta, eta_family}
use Rattle.eta_laws.specs.LongTermLaws.{domain_variables}
use Rattle.eta_laws.proofs.LongTerms.{raise_own_variable, raise_free_variable, substitute_own_variable}
use Rattle.eta_laws.proofs.Identity.{variable_is_identity}

module _ (sorts : Sorts) (s : Simple) (before : SimpleContext) where
  pub identity_atomic_family : (after : SimpleContext) (p : AtomicFamily) → IsSortedAtomicFamily sorts (after ++ (s ∷ before)) p → substitute_atomic_family (eta s (Var 0)) s (length after) (raise_atomic_family 1 (suc (length after)) p) ≡ p
  identity_atomic_family after (FamilyCon c) h = refl
  identity_atomic_family after (FamilyApp p m) h = ap₂ FamilyApp (identity_atomic_family after p h.0) (variable_is_identity sorts s after before h.1.sort m h.1.has)

  pub identity_family : (after : SimpleContext) (a : Family) → IsSortedFamily sorts (after ++ (s ∷ before)) a → substitute_family (eta s (Var 0)) s (length after) (raise_family 1 (suc (length after)) a) ≡ a
  identity_family after (Pi a b) h = ap₂ Pi (identity_family after a h.0) (identity_family (erase a ∷ after) b h.1)
  identity_family after (AtFamily p) h = ap AtFamily (identity_atomic_family after p h)

  pub identity_kind : (after : SimpleContext) (k : Kind) → IsSortedKind sorts (after ++ (s ∷ before)) k → substitute_kind (eta s (Var 0)) s (length after) (raise_kind 1 (suc (length after)) k) ≡ k
  identity_kind after Ty h = refl
  identity_kind after (PiKind a k) h = ap₂ PiKind (identity_family after a h.0) (identity_kind (erase a ∷ after) k h.1)

-- an equation of families that are atomic, as one of atomic families
pub atomic_families : {p q : AtomicFamily} → AtFamily p ≡ AtFamily q → p ≡ q
atomic_families e = cc

pub eta_family_keeps_erasures : (f : ℕ → Object → Object) (n : ℕ) (k : Kind) (p : AtomicFamily) → eta_family (map_kind f n k) p ≡ eta_family k p
eta_family_keeps_erasures f n Ty p = refl
eta_family_keeps_erasures f n (PiKind a k) p =
    ap (λ t. eta_family (map_kind f (suc n) k) (FamilyApp (raise_atomic_family 1 0 p) (eta t (Var 0)))) (erase_map f n a) ∙ eta_family_keeps_erasures f (suc n) k (FamilyApp (raise_atomic_family 1 0 p) (eta (erase a) (Var 0)))

pub eta_family_head : (k : Kind) (p : AtomicFamily) → head_constant (eta_family k p) ≡ head_constant p
eta_family_head Ty p = refl
eta_family_head (PiKind a k) p = eta_family_head k (FamilyApp (raise_atomic_family 1 0 p) (eta (erase a) (Var 0))) ∙ head_constant_map (raise 1) 0 p

-- A function on objects passes through the long form of a family where it leaves those of the variables of the binders that it
-- passed, and can be done before a raising over one binder or after it.
module _ (f : ℕ → Object → Object) (leaves : (n : ℕ) (t : Simple) → f (suc n) (eta t (Var 0)) ≡ eta t (Var 0)) (passes : (n : ℕ) (p : AtomicFamily) → map_atomic_family f (suc n) (raise_atomic_family 1 0 p) ≡ raise_atomic_family 1 0 (map_atomic_family f n p)) where
  pub map_eta_family : (k : Kind) (n depth : ℕ) (p : AtomicFamily) → depth ≡ domain_count k + n → map_atomic_family f depth (eta_family k p) ≡ eta_family k (map_atomic_family f n p)
  map_eta_family Ty n depth p e = let same : depth ≡ n = omega (arith, e) in ap (λ i. map_atomic_family f i p) same
  map_eta_family (PiKind a k) n depth p e =
      map_eta_family k (suc n) depth (FamilyApp (raise_atomic_family 1 0 p) (eta (erase a) (Var 0))) (omega (arith, e)) ∙ ap (eta_family k) (ap₂ FamilyApp (passes n p) (leaves n (erase a)))

pub raise_eta_family : (k : ℕ) (kind : Kind) (n depth : ℕ) (p : AtomicFamily) → depth ≡ domain_count kind + n → raise_atomic_family k depth (eta_family kind p) ≡ eta_family kind (raise_atomic_family k n p)
raise_eta_family k = map_eta_family (raise k) (raise_own_variable k) (λ n p. atomic_families (raise_family_swap 1 k 0 n (suc n) (AtFamily p) (omega arith) (omega arith)))

pub substitute_eta_family : (v : Object) (u : Simple) (kind : Kind) (n depth : ℕ) (p : AtomicFamily) → depth ≡ domain_count kind + n → substitute_atomic_family v u depth (eta_family kind p) ≡ eta_family kind (substitute_atomic_family v u n p)
substitute_eta_family v u = map_eta_family (substitute v u) (substitute_own_variable v u) (λ n p. sym_raised n p)
  where
    sym_raised : (n : ℕ) (p : AtomicFamily) → substitute_atomic_family v u (suc n) (raise_atomic_family 1 0 p) ≡ raise_atomic_family 1 0 (substitute_atomic_family v u n p)
    sym_raised n p = atomic_families (sym (raise_below_substitution_family 1 v u n 0 (suc n) (AtFamily p) (omega arith) (omega arith)))

-- a family raised over one binder and then over k more
raise_once_more : (k : ℕ) (p : AtomicFamily) → raise_atomic_family k 0 (raise_atomic_family 1 0 p) ≡ raise_atomic_family (suc k) 0 p
raise_once_more k p = atomic_families (raise_family_twice 1 k 0 0 (AtFamily p) (omega arith) (omega arith) ∙ ap (λ i. raise_family i 0 (AtFamily p)) (omega arith))

pub eta_family_is_applied : (k : Kind) (p : AtomicFamily) → eta_family k p ≡ family_apply_all (raise_atomic_family (domain_count k) 0 p) (domain_variables k)
eta_family_is_applied Ty p = atomic_families (sym (raise_family_by_zero 0 (AtFamily p)))
eta_family_is_applied (PiKind a k) p =
    eta_family_is_applied k (FamilyApp (raise_atomic_family 1 0 p) (eta (erase a) (Var 0))) ∙ ap (λ q. family_apply_all q (domain_variables k)) (ap₂ FamilyApp (raise_once_more (domain_count k) p) (raise_free_variable (domain_count k) (erase a)))
