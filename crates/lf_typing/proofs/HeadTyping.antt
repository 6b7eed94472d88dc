-- What is synthesised is a family or a kind; a head that takes an argument keeps its typing.
use Rattle.std.proofs.Common.{◌≡◌, ℕ, zero, suc, [], ◌∷◌, Some, refl, sym, ap, subst, ◌∙◌, arith}
use Rattle.std.specs.Prelude.{slice_get}
use Rattle.lf_meaning.specs.Terms.{Object, Lam, At, Atomic, Var, Con, App, Family, Pi, AtFamily, AtomicFamily, FamilyCon, FamilyApp, Kind, PiKind, Context}
use Rattle.lf_meaning.specs.Raising.{raise_family}
use Rattle.lf_meaning.specs.Erasure.{erase}
use Rattle.lf_meaning.specs.Replacement.{Headed, Kept, Replaced, object_of, value_takes, takes}
use Rattle.lf_meaning.specs.Substitution.{action, substitute, substitute_family, app}
use Rattle.lf_meaning.specs.Signatures.{Signature}
use Rattle.lf_meaning.specs.Judgements.{Checks, Synthesises, SynthesisesKind, IsFamily, IsKind, IsContext, IsSignature}
use Rattle.lf_substitution_laws.proofs.Families.{erase_map, raise_family_twice}
use Rattle.lf_typing.proofs.Typed.{family_sorted, more_family, more_kind}
use Rattle.lf_typing.proofs.Closed.{class_is_family, class_is_kind}
use Rattle.lf_typing.proofs.Weakening.{raise_is_family}
use Rattle.lf_typing.proofs.Regular.{context_sorted}
use Rattle.lf_typing.proofs.SubstitutionTyping.{substitute_checks, substitute_is_family, substitute_is_kind}

module _ (sig : Signature) (typed : IsSignature sig) where
  lookup_is_family : (context : Context) (i : ℕ) (a : Family) → IsContext sig context → slice_get context i ≡ Some a → IsFamily sig context (raise_family (suc i) 0 a)
  lookup_is_family [] i a h e = absurd (cc)
  lookup_is_family (b ∷ context) zero a h e =
      let same : b ≡ a = cc in
      raise_is_family sig typed (b ∷ []) context [] a (subst (IsFamily sig context) same h.1)
  lookup_is_family (b ∷ context) (suc i) a h e =
      let twice : raise_family 1 0 (raise_family (suc i) 0 a) ≡ raise_family (suc (suc i)) 0 a = raise_family_twice (suc i) 1 0 0 a (omega arith) (omega arith) ∙ ap (λ k. raise_family k 0 a) (omega arith) in
      subst (IsFamily sig (b ∷ context)) twice (raise_is_family sig typed (b ∷ []) context [] (raise_family (suc i) 0 a) (lookup_is_family context i a h.0 e))

  pub synthesised_is_family : (context : Context) (r : Atomic) (a : Family) → IsContext sig context → Synthesises sig context r a → IsFamily sig context a
  synthesised_is_family context (Var i) a c h = subst (IsFamily sig context) (sym h.is) (lookup_is_family context i h.family c h.found)
  synthesised_is_family context (Con d) a c h = more_family sig sig (λ x k e. e) [] context a (class_is_family sig typed d a h)
  synthesised_is_family context (App r m) a c h =
      let pi_is : IsFamily sig context (Pi h.domain h.body) = synthesised_is_family context r (Pi h.domain h.body) c h.head_has in
      subst (IsFamily sig context) (sym h.is) (substitute_is_family sig typed context m h.domain h.argument_has [] h.body (context_sorted sig context c, family_sorted sig context h.domain pi_is.0) pi_is.1)

  pub synthesised_is_kind : (context : Context) (p : AtomicFamily) (k : Kind) → IsContext sig context → SynthesisesKind sig context p k → IsKind sig context k
  synthesised_is_kind context (FamilyCon d) k c h = more_kind sig sig (λ x l e. e) [] context k (class_is_kind sig typed d k h)
  synthesised_is_kind context (FamilyApp p m) k c h =
      let pi_is : IsKind sig context (PiKind h.domain h.body) = synthesised_is_kind context p (PiKind h.domain h.body) c h.head_has in
      subst (IsKind sig context) (sym h.is) (substitute_is_kind sig typed context m h.domain h.argument_has [] h.body (context_sorted sig context c, family_sorted sig context h.domain pi_is.0) pi_is.1)

-- A headed result at a family: a kept head synthesises it; a value checks against it and does with
-- its arguments what the family's erasure says.
abbrev pub HeadedHas : Signature → Context → Headed → Family → Type 0
HeadedHas sig context (Kept r) a = Synthesises sig context r a
HeadedHas sig context (Replaced v b) a = (b ≡ action (erase a)) × Checks sig context v a

pub headed_object : (sig : Signature) (context : Context) (h : Headed) (p : AtomicFamily) → HeadedHas sig context h (AtFamily p) → Checks sig context (object_of h) (AtFamily p)
headed_object sig context (Kept r) p f = f
headed_object sig context (Replaced v b) p f = f.1

module _ (sig : Signature) (typed : IsSignature sig) (context : Context) (context_is : IsContext sig context) (a b : Family) (pi_is : IsFamily sig context (Pi a b)) (m : Object) (argument : Checks sig context m a) where
  value_takes_typed : (v : Object) → Checks sig context v (Pi a b) → HeadedHas sig context (value_takes v (action (erase (Pi a b))) m) (substitute_family m (erase a) 0 b)
  value_takes_typed (Lam c) h =
      (ap action (sym (erase_map (substitute m (erase a)) 0 b)), substitute_checks sig typed context m a argument [] c b (context_sorted sig context context_is, family_sorted sig context a pi_is.0) (family_sorted sig (a ∷ context) b pi_is.1) h)
  value_takes_typed (At r) h = absurd h

  pub headed_takes : (h : Headed) → HeadedHas sig context h (Pi a b) → HeadedHas sig context (takes h m) (substitute_family m (erase a) 0 b)
  headed_takes (Kept r) f = record { domain = a; body = b; head_has = f; argument_has = argument; is = refl }
  headed_takes (Replaced v d) f = subst (λ x. HeadedHas sig context (value_takes v x m) (substitute_family m (erase a) 0 b)) (sym f.0) (value_takes_typed v f.1)

  pub app_checks : (v : Object) → Checks sig context v (Pi a b) → Checks sig context (app (erase (Pi a b)) v m).value (substitute_family m (erase a) 0 b)
  app_checks (Lam c) h = substitute_checks sig typed context m a argument [] c b (context_sorted sig context context_is, family_sorted sig context a pi_is.0) (family_sorted sig (a ∷ context) b pi_is.1) h
  app_checks (At r) h = absurd h

pub app_type : (a b : Family) (v m : Object) → (app (erase (Pi a b)) v m).type ≡ erase (substitute_family m (erase a) 0 b)
app_type a b (Lam c) m = sym (erase_map (substitute m (erase a)) 0 b)
app_type a b (At r) m = sym (erase_map (substitute m (erase a)) 0 b)
