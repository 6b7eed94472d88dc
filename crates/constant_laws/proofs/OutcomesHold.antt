-- What an outcome stands for holds no other constants and variables than the outcome; a family value's body has the domains of
-- its kind around it.
use Rattle.std.proofs.Common.{◌≡◌, ℕ, zero, suc, ◌+◌, refl, sym, subst, arith}
use Rattle.lf_meaning.specs.Terms.{Object, Lam, At, Atomic, Var, App, Family, Pi, AtFamily, AtomicFamily, FamilyApp, Kind, Ty, PiKind, Simple, Base, Arrow, family_argument_count, domain_count}
use Rattle.lf_meaning.specs.Erasure.{erase, head_constant}
use Rattle.lf_meaning.specs.Raising.{raise, raise_atomic, raise_atomic_family}
use Rattle.lf_meaning.specs.Signatures.{Signature}
use Rattle.eta_meaning.specs.LongTerms.{eta, eta_family, expanded}
use Rattle.lf_substitution_laws.proofs.Families.{head_constant_map}
use Rattle.translation_meaning.specs.AtomicFamilies.{IsAtomicFamily}
use Rattle.library_meaning.specs.Holding.{IsFamilyConstant, ObjectHolds, AtomicHolds, ArgumentsHold, FamilyHolds}
use Rattle.elaborate_meaning.specs.Values.{expanded_family}
use Rattle.constant_laws.specs.HeadsHold.{PartlyHolds, UnderBinders, OnSpine}
use Rattle.constant_laws.proofs.Replaced.{raise_atomic_holds, argument_count_map, raise_arguments_hold}

-- a family that is atomic and holds only these variables, as the body of a family value is
pub record BodyHolds (signature : Signature) (variables : ℕ) (family : Family) : Type 0 where
  pub atomic : IsAtomicFamily family
  pub holds : FamilyHolds signature variables family

module _ (signature : Signature) where
  pub eta_holds : (t : Simple) (v : ℕ) (r : Atomic) → AtomicHolds signature v r → ObjectHolds signature v (eta t r)
  eta_holds (Base c) v r h = h
  eta_holds (Arrow s t) v r h =
      eta_holds t (suc v) (App (raise_atomic 1 0 r) (eta s (Var 0))) (raise_atomic_holds signature 1 0 v (suc v) r (omega arith) h, eta_holds s (suc v) (Var 0) (omega arith))

  pub outcome_holds : (a : Family) (v : ℕ) (m : Object) → ObjectHolds signature v m → ObjectHolds signature v (expanded a m)
  outcome_holds (AtFamily p) v m h = h
  outcome_holds (Pi a b) v (Lam m) h = h
  outcome_holds (Pi a b) v (At r) h = eta_holds (erase (Pi a b)) v r h

  -- a family that misses an argument for each domain of the kind
  pub eta_family_holds : (k : Kind) (v w : ℕ) (p : AtomicFamily) → w ≡ v + domain_count k → IsFamilyConstant signature (head_constant p) (family_argument_count p + domain_count k) → ArgumentsHold signature v p → FamilyHolds signature w (AtFamily (eta_family k p))
  eta_family_holds Ty v w p e c h = (subst (IsFamilyConstant signature (head_constant p)) (omega arith) c, subst (λ n. ArgumentsHold signature n p) (omega (arith, e)) h)
  eta_family_holds (PiKind a k) v w p e c h =
      let raised : AtomicFamily = raise_atomic_family 1 0 p in
      let count : family_argument_count raised ≡ family_argument_count p = argument_count_map (raise 1) 0 p in
      let constant : IsFamilyConstant signature (head_constant raised) (family_argument_count p + suc (domain_count k)) = subst (λ d. IsFamilyConstant signature d (family_argument_count p + suc (domain_count k))) (sym (head_constant_map (raise 1) 0 p)) c in
      eta_family_holds k (suc v) w (FamilyApp raised (eta (erase a) (Var 0))) (omega (arith, e))
      (subst (IsFamilyConstant signature (head_constant raised)) (omega (arith, count)) constant)
      (raise_arguments_hold signature 1 p 0 v (suc v) (omega arith) h, eta_holds (erase a) (suc v) (Var 0) (omega arith))

  under_binders : (v n : ℕ) (a : Family) (k : Kind) → n ≡ domain_count k → FamilyHolds signature (v + n) a → IsAtomicFamily a → BodyHolds signature (v + domain_count k) (expanded_family k n a)
  under_binders v zero (Pi x y) k e h i = absurd i
  under_binders v zero (AtFamily p) Ty e h i = record { atomic = tt; holds = h }
  under_binders v zero (AtFamily p) (PiKind x k) e h i = absurd (cc)
  under_binders v (suc n) a k e h i = record { atomic = i; holds = subst (λ z. FamilyHolds signature (v + z) a) e h }

  on_spine : (v n : ℕ) (a : Family) (k : Kind) (p : AtomicFamily) → n ≡ zero → a ≡ AtFamily p → BodyHolds signature (v + domain_count k) (AtFamily (eta_family k p)) → BodyHolds signature (v + domain_count k) (expanded_family k n a)
  on_spine v n a k p b e h = subst (BodyHolds signature (v + domain_count k)) (λ i. expanded_family k (sym b i) (sym e i)) h

  pub family_outcome_holds : (v n : ℕ) (a : Family) (k : Kind) → PartlyHolds signature v n (domain_count k) a → BodyHolds signature (v + domain_count k) (expanded_family k n a)
  family_outcome_holds v n a k (UnderBinders e h i) = under_binders v n a k e h i
  family_outcome_holds v n a k (OnSpine p b e c h) = on_spine v n a k p b e (record { atomic = tt; holds = eta_family_holds k v (v + domain_count k) p refl c h })
