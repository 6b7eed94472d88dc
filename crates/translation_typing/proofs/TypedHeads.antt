-- Heads of families that take arguments of their domains stay well typed.
use Rattle.std.proofs.Common.{◌≡◌, ℕ, zero, suc, [], ◌∷◌, ◌++◌, length, refl, sym, ap, ◌∙◌, subst, arith}
use Rattle.lf_meaning.specs.Terms.{Object, Family, FamilyApp, Kind, Ty, PiKind, Context, domain_count, with_domains}
use Rattle.lf_meaning.specs.Erasure.{erase}
use Rattle.lf_meaning.specs.Substitution.{substitute, substitute_family, substitute_kind, substitute_context}
use Rattle.lf_meaning.specs.Signatures.{Signature}
use Rattle.lf_meaning.specs.Judgements.{Checks, IsFamily, IsKind, IsContext, IsSignature}
use Rattle.lf_typing.proofs.Regular.{context_sorted}
use Rattle.lf_typing.proofs.SubstitutionTyping.{substitute_is_family, substitute_is_kind}
use Rattle.translation_meaning.specs.Heads.{Head, ObjectHead, FamilyHead, family_takes}
use Rattle.translation_typing.specs.FamilyHeads.{FamilyTyped, OnSpine, UnderBinders}
use Rattle.translation_typing.proofs.KindDomains.{domains_append, domains_length, domains_map}
use Rattle.lf_term_laws.proofs.Spines.{domain_count_map}

-- a head of this kind
abbrev pub HeadIs : Signature → Context → Kind → Head → Type 0
HeadIs sig context k (ObjectHead object classifier) = ⊥
HeadIs sig context k (FamilyHead binders family kind) = (kind ≡ k) × FamilyTyped sig context binders family k × IsKind sig context k

pub family_whole : (sig : Signature) (context : Context) (binders : ℕ) (family : Family) → FamilyTyped sig context binders family Ty → IsFamily sig context family
family_whole sig context binders family (OnSpine p b f h) = subst (IsFamily sig context) (sym f) h
family_whole sig context binders family (UnderBinders e h) = h

pub domains_context : (sig : Signature) (k : Kind) (xs : Context) → IsContext sig xs → IsKind sig xs k → IsContext sig (with_domains k xs)
domains_context sig Ty xs c h = c
domains_context sig (PiKind a k) xs c h = domains_context sig k (a ∷ xs) (c, h.0) h.1

module _ (sig : Signature) (typed : IsSignature sig) (context : Context) (context_is : IsContext sig context) where
  pub kind_of_body : (a : Family) (k : Kind) (n : Object) → IsKind sig context (PiKind a k) → Checks sig context n a → IsKind sig context (substitute_kind n (erase a) 0 k)
  kind_of_body a k n f g = substitute_is_kind sig typed context n a g [] k (context_sorted sig (a ∷ context) (context_is, f.0)) f.1

  -- the outermost binder is taken, below those of the kind that is left
  body_taken : (a : Family) (k : Kind) (binders : ℕ) (family : Family) (n : Object) → binders ≡ domain_count k → IsKind sig context (PiKind a k) → IsFamily sig (with_domains k (a ∷ context)) family → Checks sig context n a
      → IsFamily sig (with_domains (substitute_kind n (erase a) 0 k) context) (substitute_family n (erase a) binders family)
  body_taken a k binders family n e f h g =
      let whole : with_domains k (a ∷ context) ≡ with_domains k [] ++ (a ∷ context) = domains_append k [] (a ∷ context) in
      let count : length (with_domains k []) ≡ binders = domains_length k [] ∙ omega (arith, e) in
      let body = substitute_is_family sig typed context n a g (with_domains k []) family
      (context_sorted sig (with_domains k [] ++ (a ∷ context)) (subst (IsContext sig) whole (domains_context sig k (a ∷ context) (context_is, f.0) f.1))) (subst (λ z. IsFamily sig z family) whole h) in
      subst (λ z. IsFamily sig z (substitute_family n (erase a) binders family))
      (ap (λ z. z ++ context) (domains_map (substitute n (erase a)) k []) ∙ sym (domains_append (substitute_kind n (erase a) 0 k) [] context))
      (subst (λ z. IsFamily sig (substitute_context n (erase a) (with_domains k []) ++ context) (substitute_family n (erase a) z family)) count body)

  pub spine_taken : (family a : Family) (k : Kind) (n : Object) → FamilyTyped sig context zero family (PiKind a k) → Checks sig context n a → FamilyTyped sig context zero (family_takes family n) (substitute_kind n (erase a) 0 k)
  spine_taken family a k n (OnSpine p b f h) g = OnSpine (FamilyApp p n) refl (ap (λ z. family_takes z n) f) (record { domain = a; body = k; head_has = h; argument_has = g; is = refl })
  spine_taken family a k n (UnderBinders e h) g = absurd (omega (arith, e))

  pub binder_taken : (binders : ℕ) (family a : Family) (k : Kind) (n : Object) → FamilyTyped sig context (suc binders) family (PiKind a k) → IsKind sig context (PiKind a k) → Checks sig context n a
      → FamilyTyped sig context binders (substitute_family n (erase a) binders family) (substitute_kind n (erase a) 0 k)
  binder_taken binders family a k n (OnSpine p b f h) i g = absurd (omega (arith, b))
  binder_taken binders family a k n (UnderBinders e h) i g =
      UnderBinders (let c = domain_count_map (substitute n (erase a)) 0 k in omega (arith, e, c)) (body_taken a k binders family n (omega (arith, e)) i h g)
