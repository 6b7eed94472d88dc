-- Long forms keep typing. The induction is on the erasure of the family: the domain of a Π, raised over its own variable, is no
-- part of the Π, but its erasure is part of the Π's.
use Rattle.std.proofs.Common.{◌≡◌, ℕ, suc, [], ◌∷◌, Some, refl, sym, ap, subst, ◌∙◌}
use Rattle.std.specs.Prelude.{slice_get}
use Rattle.lf_meaning.specs.Terms.{Object, Lam, At, Atomic, Var, App, Family, Pi, AtFamily, AtomicFamily, FamilyApp, Kind, Ty, PiKind, Simple, Base, Arrow, Context, with_domains}
use Rattle.lf_meaning.specs.Raising.{raise, raise_atomic, raise_family, raise_atomic_family, raise_kind}
use Rattle.lf_meaning.specs.Erasure.{erase, erase_context}
use Rattle.lf_meaning.specs.Substitution.{substitute_family, substitute_kind}
use Rattle.lf_meaning.specs.Signatures.{Signature}
use Rattle.lf_meaning.specs.Judgements.{Checks, Synthesises, SynthesisesKind, IsFamily, IsKind, IsContext, IsSignature}
use Rattle.lf_meaning.specs.Sorts.{sorts_of}
use Rattle.lf_substitution_laws.proofs.Families.{erase_map}
use Rattle.lf_typing.proofs.HeadTyping.{synthesised_is_family, synthesised_is_kind}
use Rattle.lf_typing.proofs.Typed.{family_sorted, kind_sorted}
use Rattle.lf_typing.proofs.Weakening.{raise_synthesises, raise_synthesises_kind}
use Rattle.eta_meaning.specs.LongTerms.{eta, eta_family, expanded}
use Rattle.eta_laws.proofs.LongFamilies.{identity_family, identity_kind}

-- a family behind a variable, raised over a new one whose long form is then substituted, is that family again
identity_body : (sig : Signature) (context : Context) (a b : Family) → IsFamily sig (a ∷ context) b → b ≡ substitute_family (eta (erase a) (Var 0)) (erase (raise_family 1 0 a)) 0 (raise_family 1 1 b)
identity_body sig context a b h =
    sym (ap (λ s. substitute_family (eta (erase a) (Var 0)) s 0 (raise_family 1 1 b)) (erase_map (raise 1) 0 a) ∙ identity_family (sorts_of sig) (erase a) (erase_context context) [] b (family_sorted sig (a ∷ context) b h))

identity_rest : (sig : Signature) (context : Context) (a : Family) (k : Kind) → IsKind sig (a ∷ context) k → k ≡ substitute_kind (eta (erase a) (Var 0)) (erase (raise_family 1 0 a)) 0 (raise_kind 1 1 k)
identity_rest sig context a k h =
    sym (ap (λ s. substitute_kind (eta (erase a) (Var 0)) s 0 (raise_kind 1 1 k)) (erase_map (raise 1) 0 a) ∙ identity_kind (sorts_of sig) (erase a) (erase_context context) [] k (kind_sorted sig (a ∷ context) k h))

-- the parts of two equal arrows
same_domain : {s t u v : Simple} → Arrow s t ≡ Arrow u v → s ≡ u
same_domain e = cc

same_codomain : {s t u v : Simple} → Arrow s t ≡ Arrow u v → t ≡ v
same_codomain e = cc

module _ (sig : Signature) (typed : IsSignature sig) where
  eta_checks_at : (t : Simple) (context : Context) → IsContext sig context → (a : Family) → erase a ≡ t → (r : Atomic) → Synthesises sig context r a → Checks sig context (eta (erase a) r) a
  eta_checks_at t context c (AtFamily p) e r h = h
  eta_checks_at (Base d) context c (Pi a b) e r h = absurd (cc)
  eta_checks_at (Arrow s t) context c (Pi a b) e r h =
      let is_family : IsFamily sig context (Pi a b) = synthesised_is_family sig typed context r (Pi a b) c h in
      let inner : IsContext sig (a ∷ context) = (c, is_family.0) in
      let same : erase (raise_family 1 0 a) ≡ erase a = erase_map (raise 1) 0 a in
      let head : Synthesises sig (a ∷ context) (raise_atomic 1 0 r) (raise_family 1 0 (Pi a b)) = raise_synthesises sig typed (a ∷ []) context [] r (Pi a b) h in
      let variable : Checks sig (a ∷ context) (eta (erase (raise_family 1 0 a)) (Var 0)) (raise_family 1 0 a) = eta_checks_at s (a ∷ context) inner (raise_family 1 0 a) (same ∙ same_domain e) (Var 0) (record { family = a; found = refl; is = refl }) in
      let argument : Checks sig (a ∷ context) (eta (erase a) (Var 0)) (raise_family 1 0 a) = subst (λ u. Checks sig (a ∷ context) (eta u (Var 0)) (raise_family 1 0 a)) same variable in
      eta_checks_at t (a ∷ context) inner b (same_codomain e) (App (raise_atomic 1 0 r) (eta (erase a) (Var 0))) (record { domain = raise_family 1 0 a; body = raise_family 1 1 b; head_has = head; argument_has = argument; is = identity_body sig context a b is_family.1 })

  pub eta_checks : (context : Context) → IsContext sig context → (r : Atomic) (a : Family) → Synthesises sig context r a → Checks sig context (eta (erase a) r) a
  eta_checks context c r a h = eta_checks_at (erase a) context c a refl r h

  pub eta_variable_checks : (context : Context) → IsContext sig context → (i : ℕ) (a : Family) → slice_get context i ≡ Some a → Checks sig context (eta (erase (raise_family (suc i) 0 a)) (Var i)) (raise_family (suc i) 0 a)
  eta_variable_checks context c i a e = eta_checks context c (Var i) (raise_family (suc i) 0 a) (record { family = a; found = e; is = refl })

  -- an atomic family behind the first domain of its kind, with that domain's variable
  pub takes_variable : (context : Context) → IsContext sig context → (p : AtomicFamily) (a : Family) (k : Kind) → SynthesisesKind sig context p (PiKind a k) → SynthesisesKind sig (a ∷ context) (FamilyApp (raise_atomic_family 1 0 p) (eta (erase a) (Var 0))) k
  takes_variable context c p a k h =
      let is_kind : IsKind sig context (PiKind a k) = synthesised_is_kind sig typed context p (PiKind a k) c h in
      let same : erase (raise_family 1 0 a) ≡ erase a = erase_map (raise 1) 0 a in
      let head : SynthesisesKind sig (a ∷ context) (raise_atomic_family 1 0 p) (raise_kind 1 0 (PiKind a k)) = raise_synthesises_kind sig typed (a ∷ []) context [] p (PiKind a k) h in
      let argument : Checks sig (a ∷ context) (eta (erase a) (Var 0)) (raise_family 1 0 a) = subst (λ u. Checks sig (a ∷ context) (eta u (Var 0)) (raise_family 1 0 a)) same (eta_variable_checks (a ∷ context) (c, is_kind.0) 0 a refl) in
      record { domain = raise_family 1 0 a; body = raise_kind 1 1 k; head_has = head; argument_has = argument; is = identity_rest sig context a k is_kind.1 }

  pub eta_family_is_family : (context : Context) → IsContext sig context → (p : AtomicFamily) (k : Kind) → SynthesisesKind sig context p k → SynthesisesKind sig (with_domains k context) (eta_family k p) Ty
  eta_family_is_family context c p Ty h = h
  eta_family_is_family context c p (PiKind a k) h =
      let is_kind : IsKind sig context (PiKind a k) = synthesised_is_kind sig typed context p (PiKind a k) c h in
      eta_family_is_family (a ∷ context) (c, is_kind.0) (FamilyApp (raise_atomic_family 1 0 p) (eta (erase a) (Var 0))) k (takes_variable context c p a k h)

  pub expanded_atomic_checks : (context : Context) → IsContext sig context → (r : Atomic) (a : Family) → Synthesises sig context r a → Checks sig context (expanded a (At r)) a
  expanded_atomic_checks context c r (AtFamily p) h = h
  expanded_atomic_checks context c r (Pi a b) h = eta_checks context c r (Pi a b) h

pub expanded_checked : (sig : Signature) (context : Context) (m : Object) (a : Family) → Checks sig context m a → expanded a m ≡ m
expanded_checked sig context m (AtFamily p) h = refl
expanded_checked sig context (Lam m) (Pi a b) h = refl
expanded_checked sig context (At r) (Pi a b) h = absurd h
