-- A family that takes the variables of its kind's domains is what it stands for at that kind.
use Rattle.std.proofs.Common.{◌≡◌, ℕ, zero, suc, [], ◌∷◌, ◌++◌, length, refl, sym, ap, ap₂, subst, ◌∙◌, arith}
use Rattle.lf_meaning.specs.Terms.{Var, Family, Pi, AtFamily, AtomicFamily, FamilyApp, Kind, Ty, PiKind, Context, domain_count, with_domains}
use Rattle.lf_meaning.specs.Raising.{raise, raise_family, raise_atomic_family, raise_kind}
use Rattle.lf_meaning.specs.Erasure.{erase, erase_context}
use Rattle.lf_meaning.specs.Substitution.{substitute_family, substitute_kind}
use Rattle.lf_meaning.specs.Signatures.{Signature}
use Rattle.lf_meaning.specs.Judgements.{IsFamily, IsKind}
use Rattle.lf_meaning.specs.Sorts.{sorts_of, IsSortedFamily}
use Rattle.lf_substitution_laws.proofs.Families.{erase_map}
use Rattle.lf_typing.proofs.Regular.{erase_split, length_erased}
use Rattle.lf_typing.proofs.Typed.{family_sorted, kind_sorted}
use Rattle.eta_meaning.specs.LongTerms.{eta, eta_family}
use Rattle.eta_laws.proofs.LongFamilies.{identity_family, identity_kind}
use Rattle.translation_meaning.specs.Heads.{FamilyHead}
use Rattle.translation_typing.proofs.KindDomains.{domains_append, domains_length}
use Rattle.translation_typing.specs.FamilyHeads.{FamilyTyped, OnSpine, UnderBinders}
use Rattle.elaborate_meaning.specs.Values.{expanded_family}
use Rattle.elaborate_typing.specs.AppliedFamilies.{takes_variables, FamilyIsApplied}

module _ (sig : Signature) where
  -- the kind that is left behind a domain, where that domain's variable was taken
  rest : (context : Context) (a : Family) (k : Kind) → IsKind sig (a ∷ context) k → substitute_kind (eta (erase a) (Var 0)) (erase (raise_family 1 0 a)) 0 (raise_kind 1 1 k) ≡ k
  rest context a k h =
      ap (λ s. substitute_kind (eta (erase a) (Var 0)) s 0 (raise_kind 1 1 k)) (erase_map (raise 1) 0 a) ∙ identity_kind (sorts_of sig) (erase a) (erase_context context) [] k (kind_sorted sig (a ∷ context) k h)

  on_spine : (k : Kind) (context : Context) (p : AtomicFamily) → IsKind sig context k → takes_variables (domain_count k) (FamilyHead zero (AtFamily p) k) ≡ FamilyHead zero (AtFamily (eta_family k p)) Ty
  on_spine Ty context p h = refl
  on_spine (PiKind a k) context p h =
      let q : AtomicFamily = FamilyApp (raise_atomic_family 1 0 p) (eta (erase a) (Var 0)) in
      ap (λ z. takes_variables (domain_count k) (FamilyHead zero (AtFamily q) z)) (rest context a k h.1) ∙ on_spine k (a ∷ context) q h.1

  -- the outermost of the binders that stand for the domains of a kind
  outermost : (context : Context) (a : Family) (k : Kind) (n : ℕ) (outcome : Family) → n ≡ domain_count k → IsFamily sig (with_domains k (a ∷ context)) outcome
      → substitute_family (eta (erase a) (Var 0)) (erase (raise_family 1 0 a)) n (raise_family 1 (suc n) outcome) ≡ outcome
  outermost context a k n outcome e h =
      let after : Context = with_domains k [] in
      let count : length (erase_context after) ≡ n = length_erased after ∙ domains_length k [] ∙ omega (arith, e) in
      let sorted : IsSortedFamily (sorts_of sig) (erase_context after ++ (erase a ∷ erase_context context)) outcome = subst (λ s. IsSortedFamily (sorts_of sig) s outcome) (ap erase_context (domains_append k [] (a ∷ context)) ∙ erase_split after context a (erase a) refl) (family_sorted sig (with_domains k (a ∷ context)) outcome h) in
      ap (λ s. substitute_family (eta (erase a) (Var 0)) s n (raise_family 1 (suc n) outcome)) (erase_map (raise 1) 0 a)
      ∙ subst (λ i. substitute_family (eta (erase a) (Var 0)) (erase a) i (raise_family 1 (suc i) outcome) ≡ outcome) count (identity_family (sorts_of sig) (erase a) (erase_context context) (erase_context after) outcome sorted)

  under_binders : (k : Kind) (context : Context) (n : ℕ) (outcome : Family) → n ≡ domain_count k → IsKind sig context k → IsFamily sig (with_domains k context) outcome → takes_variables (domain_count k) (FamilyHead n outcome k) ≡ FamilyHead zero outcome Ty
  under_binders Ty context n outcome e h g = ap (λ i. FamilyHead i outcome Ty) e
  under_binders (PiKind a k) context zero outcome e h g = absurd (cc)
  under_binders (PiKind a k) context (suc n) outcome e h g =
      let same : n ≡ domain_count k = omega (arith, e) in
      ap₂ (λ b z. takes_variables (domain_count k) (FamilyHead n b z)) (outermost context a k n outcome same g) (rest context a k h.1) ∙ under_binders k (a ∷ context) n outcome same h.1 g

-- with as many binders as the kind has domains an outcome is left
left : (k : Kind) (n : ℕ) (outcome : Family) → n ≡ domain_count k → outcome ≡ expanded_family k n outcome
left k (suc n) outcome e = refl
left k zero (Pi a b) e = refl
left Ty zero (AtFamily p) e = refl
left (PiKind a k) zero (AtFamily p) e = absurd (cc)

pub family_is_applied : FamilyIsApplied
family_is_applied sig context binders outcome kind h = by h.0
  where
    by : FamilyTyped sig context binders outcome kind → takes_variables (domain_count kind) (FamilyHead binders outcome kind) ≡ FamilyHead zero (expanded_family kind binders outcome) Ty
    by (OnSpine p none q g) =
        subst (λ n. takes_variables (domain_count kind) (FamilyHead n outcome kind) ≡ FamilyHead zero (expanded_family kind n outcome) Ty) (sym none)
        (subst (λ a. takes_variables (domain_count kind) (FamilyHead zero a kind) ≡ FamilyHead zero (expanded_family kind zero a) Ty) (sym q) (on_spine sig kind context p h.1))
    by (UnderBinders n g) = under_binders sig kind context binders outcome n h.1 g ∙ ap (λ a. FamilyHead zero a Ty) (left kind binders outcome n)
