-- A judgement stays one where variables are put into its context.
use Rattle.std.proofs.Common.{◌≡◌, ℕ, zero, suc, ◌+◌, ◌<◌, ◌≤◌, [], ◌∷◌, ◌++◌, length, Some, ⊎_elim, refl, sym, ap, subst, ◌∙◌, arith}
use Rattle.std.proofs.lemmas.Bool.{cases_lt}
use Rattle.std.specs.Prelude.{slice_get}
use Rattle.lf_meaning.specs.Terms.{Object, Lam, At, Atomic, Var, Con, App, Family, Pi, AtFamily, AtomicFamily, FamilyCon, FamilyApp, Kind, Ty, PiKind, Context}
use Rattle.lf_meaning.specs.Raising.{raised, raise, raise_atomic, map_family, raise_family, raise_atomic_family, raise_kind, map_context, raise_context}
use Rattle.lf_meaning.specs.Erasure.{erase}
use Rattle.lf_meaning.specs.Substitution.{substitute_family, substitute_kind}
use Rattle.lf_meaning.specs.Signatures.{FamilyClass, KindClass, Signature}
use Rattle.lf_meaning.specs.Judgements.{VariableHas, Checks, Synthesises, SynthesisesKind, IsFamily, IsKind, IsContext, IsTyping, IsSignature}
use Rattle.lf_substitution_laws.proofs.Indices.{raised_below, raised_above}
use Rattle.lf_substitution_laws.proofs.Below.Lookups.{get_front, get_more}
use Rattle.lf_substitution_laws.proofs.Indices.{get_raised}
use Rattle.lf_substitution_laws.proofs.Families.{erase_map, raise_family_swap, raise_family_twice, raise_above_substitution_family, raise_above_substitution_kind}
use Rattle.lf_typing.proofs.Closed.{raise_class_family, raise_class_kind}

pub length_map_context : (f : ℕ → Object → Object) (after : Context) → length (map_context f after) ≡ length after
length_map_context f [] = refl
length_map_context f (a ∷ after) = ap suc (length_map_context f after)

-- the family at place i of a context with a function done to it
pub record MappedAt (f : ℕ → Object → Object) (after : Context) (i : ℕ) (a : Family) : Type 0 where
  pub between : ℕ
  pub depth : length after ≡ between + suc i
  pub found : slice_get (map_context f after) i ≡ Some (map_family f between a)

mapped_behind : (f : ℕ → Object → Object) (b : Family) (after : Context) (i : ℕ) (a : Family) → MappedAt f after i a → MappedAt f (b ∷ after) (suc i) a
mapped_behind f b after i a h = record { between = h.between; depth = omega (arith, h.depth); found = h.found }

pub mapped_at : (f : ℕ → Object → Object) (after : Context) (i : ℕ) (a : Family) → slice_get after i ≡ Some a → MappedAt f after i a
mapped_at f [] i a h = absurd (cc)
mapped_at f (b ∷ after) zero a h = let same : b ≡ a = cc in record { between = length after; depth = omega arith; found = ap (λ x. Some (map_family f (length after) x)) same }
mapped_at f (b ∷ after) (suc i) a h = mapped_behind f b after i a (mapped_at f after i a h)

-- places behind fronts of one length
pub same_tail : (front after before : Context) (i : ℕ) → length front ≡ length after → length after ≤ i → slice_get (front ++ before) i ≡ slice_get (after ++ before) i
same_tail [] [] before i e h = refl
same_tail [] (b ∷ after) before i e h = absurd (omega (arith, e))
same_tail (a ∷ front) [] before i e h = absurd (omega (arith, e))
same_tail (a ∷ front) (b ∷ after) before zero e h = absurd (omega (arith, h))
same_tail (a ∷ front) (b ∷ after) before (suc i) e h = same_tail front after before i (omega (arith, e)) (omega (arith, h))

module _ (sig : Signature) (typed : IsSignature sig) (mid before : Context) where
  -- the context with the new variables put in
  abbrev with_mid : Context → Context
  with_mid after = raise_context (length mid) after ++ (mid ++ before)

  raise_variable_below : (after : Context) (i : ℕ) (a : Family) → i < length after → VariableHas (after ++ before) i a → VariableHas (with_mid after) (raised (length mid) (length after) i) (raise_family (length mid) (length after) a)
  raise_variable_below after i a low h =
      let k : ℕ = length mid in
      let n : ℕ = length after in
      let m : MappedAt (raise k) after i h.family = mapped_at (raise k) after i h.family (sym (get_front after before i low) ∙ h.found) in
      let found : slice_get (with_mid after) i ≡ Some (raise_family k m.between h.family) = get_more (raise_context k after) (mid ++ before) i (raise_family k m.between h.family) m.found in
      let is : raise_family k n a ≡ raise_family (suc i) 0 (raise_family k m.between h.family) = ap (raise_family k n) h.is ∙ raise_family_swap (suc i) k 0 m.between n h.family (omega arith) m.depth in
      subst (λ j. VariableHas (with_mid after) j (raise_family k n a)) (sym (raised_below k n i low)) (record { family = raise_family k m.between h.family; found = found; is = is })

  raise_variable_above : (after : Context) (i : ℕ) (a : Family) → length after ≤ i → VariableHas (after ++ before) i a → VariableHas (with_mid after) (raised (length mid) (length after) i) (raise_family (length mid) (length after) a)
  raise_variable_above after i a high h =
      let k : ℕ = length mid in
      let n : ℕ = length after in
      let same_length : length (raise_context k after) ≡ n = length_map_context (raise k) after in
      let there : slice_get (with_mid after) (i + k) ≡ slice_get (raise_context k after ++ before) i = ap (λ j. slice_get (with_mid after) j) (sym (raised_above k n i high)) ∙ ap (λ x. slice_get (with_mid after) (raised k x i)) (sym same_length) ∙ get_raised (raise_context k after) mid before i in
      let found : slice_get (with_mid after) (i + k) ≡ Some h.family = there ∙ same_tail (raise_context k after) after before i same_length high ∙ h.found in
      let is : raise_family k n a ≡ raise_family (suc (i + k)) 0 h.family = ap (raise_family k n) h.is ∙ raise_family_twice (suc i) k 0 n h.family (omega arith) (omega (arith, high)) ∙ ap (λ j. raise_family j 0 h.family) (omega arith) in
      subst (λ j. VariableHas (with_mid after) j (raise_family k n a)) (sym (raised_above k n i high)) (record { family = h.family; found = found; is = is })

  raise_variable : (after : Context) (i : ℕ) (a : Family) → VariableHas (after ++ before) i a → VariableHas (with_mid after) (raised (length mid) (length after) i) (raise_family (length mid) (length after) a)
  raise_variable after i a h = ⊎_elim (λ low. raise_variable_below after i a low h) (λ high. raise_variable_above after i a high h) (cases_lt i (length after))

  mutual
    pub raise_checks : (after : Context) (m : Object) (a : Family) → Checks sig (after ++ before) m a → Checks sig (with_mid after) (raise (length mid) (length after) m) (raise_family (length mid) (length after) a)
    raise_checks after (Lam m) (Pi a b) h = raise_checks (a ∷ after) m b h
    raise_checks after (Lam m) (AtFamily p) h = h
    raise_checks after (At r) (Pi a b) h = h
    raise_checks after (At r) (AtFamily p) h = raise_synthesises after r (AtFamily p) h

    pub raise_synthesises : (after : Context) (r : Atomic) (a : Family) → Synthesises sig (after ++ before) r a → Synthesises sig (with_mid after) (raise_atomic (length mid) (length after) r) (raise_family (length mid) (length after) a)
    raise_synthesises after (Var i) a h = raise_variable after i a h
    raise_synthesises after (Con c) a h = h ∙ ap (λ x. Some (FamilyClass x)) (sym (raise_class_family sig typed c a h (length mid) (length after)))
    raise_synthesises after (App r m) a h = record {
      domain = raise_family (length mid) (length after) h.domain;
      body = raise_family (length mid) (suc (length after)) h.body;
      head_has = raise_synthesises after r (Pi h.domain h.body) h.head_has;
      argument_has = raise_checks after m h.domain h.argument_has;
      is = ap (raise_family (length mid) (length after)) h.is ∙ raise_above_substitution_family (length mid) (length after) m (erase h.domain) 0 (length after) h.body (omega arith) ∙ ap (λ t. substitute_family (raise (length mid) (length after) m) t 0 (raise_family (length mid) (suc (length after)) h.body)) (sym (erase_map (raise (length mid)) (length after) h.domain));
    }

  pub raise_synthesises_kind : (after : Context) (p : AtomicFamily) (k : Kind) → SynthesisesKind sig (after ++ before) p k → SynthesisesKind sig (with_mid after) (raise_atomic_family (length mid) (length after) p) (raise_kind (length mid) (length after) k)
  raise_synthesises_kind after (FamilyCon c) k h = h ∙ ap (λ x. Some (KindClass x)) (sym (raise_class_kind sig typed c k h (length mid) (length after)))
  raise_synthesises_kind after (FamilyApp p m) k h = record {
    domain = raise_family (length mid) (length after) h.domain;
    body = raise_kind (length mid) (suc (length after)) h.body;
    head_has = raise_synthesises_kind after p (PiKind h.domain h.body) h.head_has;
    argument_has = raise_checks after m h.domain h.argument_has;
    is = ap (raise_kind (length mid) (length after)) h.is ∙ raise_above_substitution_kind (length mid) (length after) m (erase h.domain) 0 (length after) h.body (omega arith) ∙ ap (λ t. substitute_kind (raise (length mid) (length after) m) t 0 (raise_kind (length mid) (suc (length after)) h.body)) (sym (erase_map (raise (length mid)) (length after) h.domain));
  }

  pub raise_is_family : (after : Context) (a : Family) → IsFamily sig (after ++ before) a → IsFamily sig (with_mid after) (raise_family (length mid) (length after) a)
  raise_is_family after (Pi a b) h = (raise_is_family after a h.0, raise_is_family (a ∷ after) b h.1)
  raise_is_family after (AtFamily p) h = raise_synthesises_kind after p Ty h

  pub raise_is_kind : (after : Context) (k : Kind) → IsKind sig (after ++ before) k → IsKind sig (with_mid after) (raise_kind (length mid) (length after) k)
  raise_is_kind after Ty h = tt
  raise_is_kind after (PiKind a k) h = (raise_is_family after a h.0, raise_is_kind (a ∷ after) k h.1)

  pub raise_is_context : IsContext sig (mid ++ before) → (after : Context) → IsContext sig (after ++ before) → IsContext sig (with_mid after)
  raise_is_context mid_is [] h = mid_is
  raise_is_context mid_is (a ∷ after) h = (raise_is_context mid_is after h.0, raise_is_family after a h.1)

  pub raise_is_typing : IsContext sig (mid ++ before) → (after : Context) (m : Object) (a : Family) → IsTyping sig (after ++ before) m a → IsTyping sig (with_mid after) (raise (length mid) (length after) m) (raise_family (length mid) (length after) a)
  raise_is_typing mid_is after m a h = record { context_is = raise_is_context mid_is after h.context_is; family_is = raise_is_family after a h.family_is; object_checks = raise_checks after m a h.object_checks }
