-- Heads that take arguments hold what they held and what the arguments hold.
use Rattle.std.proofs.Common.{◌≡◌, ℕ, zero, suc, ◌+◌, Some, refl, sym, ap, subst, arith}
use Rattle.lf_meaning.specs.Terms.{Constant, Object, Family, Pi, AtFamily, FamilyCon, FamilyApp, Kind, Ty, PiKind, domain_count}
use Rattle.lf_meaning.specs.Erasure.{head_constant, erase}
use Rattle.lf_meaning.specs.Raising.{map_family}
use Rattle.lf_meaning.specs.Substitution.{substitute, substitute_family, substitute_kind}
use Rattle.lf_meaning.specs.Signatures.{KindClass, FamilyValue, Signature}
use Rattle.translation_meaning.specs.Heads.{Head, ObjectHead, FamilyHead, family_takes, family_head_takes, head_takes}
use Rattle.translation_meaning.specs.ProperValues.{IsValueBody}
use Rattle.library_meaning.specs.Holding.{IsFamilyConstant, ObjectHolds, FamilyHolds, KindHolds, ValueHolds}
use Rattle.elaborate_meaning.specs.Expansion.{domain_of}
use Rattle.translation_meaning.specs.AtomicFamilies.{IsAtomicFamily}
use Rattle.constant_laws.specs.HoldingLaws.{Grows}
use Rattle.constant_laws.specs.HeadsHold.{PartlyHolds, UnderBinders, OnSpine, HeadHolds}
use Rattle.constant_laws.proofs.Growing.{object_grows, family_grows, kind_grows}
use Rattle.constant_laws.proofs.Replaced.{substitute_family_holds, substitute_kind_holds, app_holds}
use Rattle.lf_term_laws.proofs.Spines.{domain_count_map}

module _ (signature : Signature) where
  atomic_kept : (f : ℕ → Object → Object) (n : ℕ) (a : Family) → IsAtomicFamily a → IsAtomicFamily (map_family f n a)
  atomic_kept f n (Pi domain body) h = absurd h
  atomic_kept f n (AtFamily p) h = tt

  kind_taken : (v : ℕ) (domain : Family) (kind : Kind) (m : Object) → KindHolds signature (suc v) kind → ObjectHolds signature v m → KindHolds signature v (substitute_kind m (erase domain) 0 kind)
  kind_taken v domain kind m h g = substitute_kind_holds signature m (erase domain) v g kind 0 (suc v) v (refl, omega arith) h

  taken_on_spine : (v n missing : ℕ) (family : Family) (m : Object) → n ≡ missing → PartlyHolds signature v zero (suc missing) family → ObjectHolds signature v m → PartlyHolds signature v zero n (family_takes family m)
  taken_on_spine v n missing family m e (UnderBinders q h a) g = absurd (omega (arith, q))
  taken_on_spine v n missing family m e (OnSpine p b f k h) g =
      OnSpine (FamilyApp p m) refl (ap (λ z. family_takes z m) f)
      (subst (IsFamilyConstant signature (head_constant p)) (omega (arith, e)) k) (h, g)

  taken_by_binder : (v n missing binders : ℕ) (family : Family) (domain : Family) (m : Object) → n ≡ missing → PartlyHolds signature v (suc binders) (suc missing) family → ObjectHolds signature v m
      → PartlyHolds signature v binders n (substitute_family m (erase domain) binders family)
  taken_by_binder v n missing binders family domain m e (UnderBinders q h a) g =
      UnderBinders (omega (arith, q, e)) (substitute_family_holds signature m (erase domain) v g family binders (suc (v + binders)) (v + binders) (refl, refl) (subst (λ z. FamilyHolds signature z family) (omega arith) h))
      (atomic_kept (substitute m (erase domain)) binders family a)
  taken_by_binder v n missing binders family domain m e (OnSpine p b f k h) g = absurd (omega (arith, b))

  family_head_taken : (v binders : ℕ) (family domain : Family) (kind : Kind) (m : Object) → PartlyHolds signature v binders (suc (domain_count kind)) family → FamilyHolds signature v domain → KindHolds signature (suc v) kind → ObjectHolds signature v m
      → HeadHolds signature v (family_head_takes binders family domain kind m)
  family_head_taken v zero family domain kind m p d k g =
      (taken_on_spine v (domain_count (substitute_kind m (erase domain) 0 kind)) (domain_count kind) family m (domain_count_map (substitute m (erase domain)) 0 kind) p g, kind_taken v domain kind m k g)
  family_head_taken v (suc binders) family domain kind m p d k g =
      (taken_by_binder v (domain_count (substitute_kind m (erase domain) 0 kind)) (domain_count kind) binders family domain m (domain_count_map (substitute m (erase domain)) 0 kind) p g, kind_taken v domain kind m k g)

  pub head_taken : (v : ℕ) (head : Head) (m : Object) (domain : Family) → domain_of head ≡ Some domain → HeadHolds signature v head → ObjectHolds signature v m → HeadHolds signature v (head_takes head m)
  head_taken v (ObjectHead object (Pi a b)) m domain e h g =
      (app_holds signature (erase (Pi a b)) object m v h.0 g, substitute_family_holds signature m (erase a) v g b 0 (suc v) v (refl, omega arith) (h.1).1)
  head_taken v (ObjectHead object (AtFamily p)) m domain e h g = absurd (cc)
  head_taken v (FamilyHead binders family (PiKind a k)) m domain e h g = let q = h.1 in family_head_taken v binders family a k m h.0 q.0 q.1 g
  head_taken v (FamilyHead binders family Ty) m domain e h g = absurd (cc)

  -- the domain of what a head takes next
  pub domain_holds : (v : ℕ) (head : Head) (domain : Family) → domain_of head ≡ Some domain → HeadHolds signature v head → FamilyHolds signature v domain
  domain_holds v (ObjectHead object (Pi a b)) domain e h = subst (FamilyHolds signature v) (one e) (h.1).0
    where
      one : {x y : Family} → Some x ≡ Some y → x ≡ y
      one h = cc
  domain_holds v (ObjectHead object (AtFamily p)) domain e h = absurd (cc)
  domain_holds v (FamilyHead binders family (PiKind a k)) domain e h = subst (FamilyHolds signature v) (one e) (h.1).0
    where
      one : {x y : Family} → Some x ≡ Some y → x ≡ y
      one h = cc
  domain_holds v (FamilyHead binders family Ty) domain e h = absurd (cc)

  -- a family from which nothing is missing
  pub whole_holds : (v binders : ℕ) (family : Family) → PartlyHolds signature v binders zero family → FamilyHolds signature v family
  whole_holds v binders family (UnderBinders q h a) = subst (λ z. FamilyHolds signature z family) (omega (arith, q)) h
  whole_holds v binders family (OnSpine p b f k h) =
      subst (FamilyHolds signature v) (sym f) (subst (IsFamilyConstant signature (head_constant p)) (omega arith) k, h)

  pub whole_atomic : (v binders missing : ℕ) (family : Family) → PartlyHolds signature v binders missing family → IsAtomicFamily family
  whole_atomic v binders missing family (UnderBinders q h a) = a
  whole_atomic v binders missing family (OnSpine p b f k h) = subst IsAtomicFamily (sym f) tt

  -- a closed value that is a family
  value_body_atomic : (binders : ℕ) (body : Family) → IsValueBody binders body → IsAtomicFamily body
  value_body_atomic binders (Pi domain body) h = absurd h
  value_body_atomic binders (AtFamily p) h = tt

  itself_grows : Grows signature signature
  itself_grows c class h = h

  pub object_anywhere : (m : Object) (v : ℕ) → ObjectHolds signature 0 m → ObjectHolds signature v m
  object_anywhere m v h = object_grows signature signature itself_grows m 0 v (omega arith) h

  pub family_anywhere : (a : Family) (v : ℕ) → FamilyHolds signature 0 a → FamilyHolds signature v a
  family_anywhere a v h = family_grows signature signature itself_grows a 0 v (omega arith) h

  pub kind_anywhere : (k : Kind) (v : ℕ) → KindHolds signature 0 k → KindHolds signature v k
  kind_anywhere k v h = kind_grows signature signature itself_grows k 0 v (omega arith) h

  pub family_value_partly : (v binders : ℕ) (body : Family) (kind : Kind) → ValueHolds signature (KindClass kind) (FamilyValue binders body) → PartlyHolds signature v binders (domain_count kind) body
  family_value_partly v binders body kind h =
      UnderBinders h.0 (family_grows signature signature itself_grows body binders (v + binders) (omega arith) h.1) (value_body_atomic binders body h.2)

  pub constant_partly : (v : ℕ) (c : Constant) (kind : Kind) → IsFamilyConstant signature c (domain_count kind) → PartlyHolds signature v zero (domain_count kind) (AtFamily (FamilyCon c))
  constant_partly v c kind h = OnSpine (FamilyCon c) refl refl (subst (IsFamilyConstant signature c) (omega arith) h) tt
