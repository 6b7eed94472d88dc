-- Heads that take arguments of their domains stay well typed.
use Rattle.std.proofs.Common.{◌≡◌, ℕ, zero, suc, [], ◌∷◌, Some, inl, inr, refl, sym, ap, subst}
use Rattle.lf_meaning.specs.Terms.{Object, App, Family, Pi, AtFamily, Kind, Ty, PiKind, Context}
use Rattle.lf_meaning.specs.Erasure.{erase}
use Rattle.lf_meaning.specs.Substitution.{substitute_family, app}
use Rattle.lf_meaning.specs.Signatures.{Signature}
use Rattle.lf_meaning.specs.Judgements.{Checks, IsFamily, IsKind, IsContext, IsSignature}
use Rattle.lf_typing.proofs.Regular.{context_sorted}
use Rattle.lf_typing.proofs.HeadTyping.{app_checks}
use Rattle.lf_typing.proofs.SubstitutionTyping.{substitute_is_family}
use Rattle.translation_meaning.specs.Heads.{Head, ObjectHead, FamilyHead, family_head_takes, head_takes}
use Rattle.translation_typing.specs.FamilyHeads.{FamilyTyped}
use Rattle.translation_typing.proofs.TypedHeads.{kind_of_body, spine_taken, binder_taken}
use Rattle.elaborate_meaning.specs.Expansion.{domain_of}
use Rattle.elaborate_typing.specs.TypingOfHeads.{ObjectTyped, HeadTyped}

module _ (sig : Signature) (typed : IsSignature sig) (context : Context) (context_is : IsContext sig context) where
  object_taken : (m n : Object) (a b : Family) → IsFamily sig context (Pi a b) → ObjectTyped sig context m (Pi a b) → Checks sig context n a → ObjectTyped sig context ((app (erase (Pi a b)) m n).value) (substitute_family n (erase a) 0 b)
  object_taken m n a b f (inl h) g = inl (app_checks sig typed context context_is a b f n g m h)
  object_taken m n a b f (inr h) g = inr (App h.0 n, ap (λ z. (app (erase (Pi a b)) z n).value) h.1, record { domain = a; body = b; head_has = h.2; argument_has = g; is = refl })

  family_of_body : (a b : Family) (n : Object) → IsFamily sig context (Pi a b) → Checks sig context n a → IsFamily sig context (substitute_family n (erase a) 0 b)
  family_of_body a b n f g = substitute_is_family sig typed context n a g [] b (context_sorted sig (a ∷ context) (context_is, f.0)) f.1

  family_taken : (binders : ℕ) (family a : Family) (k : Kind) (n : Object) → FamilyTyped sig context binders family (PiKind a k) → IsKind sig context (PiKind a k) → Checks sig context n a → HeadTyped sig context (family_head_takes binders family a k n)
  family_taken zero family a k n h i g = (spine_taken sig typed context context_is family a k n h g, kind_of_body sig typed context context_is a k n i g)
  family_taken (suc binders) family a k n h i g = (binder_taken sig typed context context_is binders family a k n h i g, kind_of_body sig typed context context_is a k n i g)

  pub head_taken : (head : Head) (n : Object) (domain : Family) → domain_of head ≡ Some domain → HeadTyped sig context head → Checks sig context n domain → HeadTyped sig context (head_takes head n)
  head_taken (ObjectHead object (Pi a b)) n domain e h g =
      let c : Checks sig context n a = subst (Checks sig context n) (one (sym e)) g in
      (object_taken object n a b h.1 h.0 c, family_of_body a b n h.1 c)
    where
      one : {x y : Family} → Some x ≡ Some y → x ≡ y
      one q = cc
  head_taken (ObjectHead object (AtFamily p)) n domain e h g = absurd (cc)
  head_taken (FamilyHead binders family (PiKind a k)) n domain e h g = family_taken binders family a k n h.0 h.1 (subst (Checks sig context n) (one (sym e)) g)
    where
      one : {x y : Family} → Some x ≡ Some y → x ≡ y
      one q = cc
  head_taken (FamilyHead binders family Ty) n domain e h g = absurd (cc)

  pub domain_typed : (head : Head) (domain : Family) → domain_of head ≡ Some domain → HeadTyped sig context head → IsFamily sig context domain
  domain_typed (ObjectHead object (Pi a b)) domain e h = subst (IsFamily sig context) (one e) (h.1).0
    where
      one : {x y : Family} → Some x ≡ Some y → x ≡ y
      one q = cc
  domain_typed (ObjectHead object (AtFamily p)) domain e h = absurd (cc)
  domain_typed (FamilyHead binders family (PiKind a k)) domain e h = subst (IsFamily sig context) (one e) (h.1).0
    where
      one : {x y : Family} → Some x ≡ Some y → x ≡ y
      one q = cc
  domain_typed (FamilyHead binders family Ty) domain e h = absurd (cc)
