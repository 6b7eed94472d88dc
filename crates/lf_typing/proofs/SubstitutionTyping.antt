-- Substitution keeps typing.
use Rattle.std.proofs.Common.{◌≡◌, ℕ, suc, ◌<◌, ◌≤◌, [], ◌∷◌, ◌++◌, length, Some, refl, sym, ap, ap₂, subst, subst₂, ◌∙◌, arith}
use Rattle.lf_meaning.specs.Terms.{Constant, Object, Lam, At, Atomic, Var, Con, App, Family, Pi, AtFamily, AtomicFamily, FamilyCon, FamilyApp, Kind, Ty, PiKind, Simple, Arrow, Context}
use Rattle.lf_meaning.specs.Raising.{raise, raise_family}
use Rattle.lf_meaning.specs.Erasure.{erase, erase_context}
use Rattle.lf_meaning.specs.Replacement.{Headed, Kept, Replaced, object_of, value_takes, takes, replace_head}
use Rattle.lf_meaning.specs.Substitution.{substituted, substitution, action, substitute, substitute_family, substitute_atomic_family, substitute_kind, substitute_context}
use Rattle.lf_meaning.specs.Signatures.{FamilyClass, KindClass, Signature, class_of}
use Rattle.lf_meaning.specs.Judgements.{VariableHas, Checks, Synthesises, SynthesisesKind, IsFamily, IsKind, IsContext, IsTyping, IsSignature}
use Rattle.lf_meaning.specs.Sorts.{HasSort, IsSortedFamily, IsSortedKind, sorts_of}
use Rattle.lf_substitution_laws.proofs.Indices.{Position, below, at, above, position}
use Rattle.lf_substitution_laws.proofs.Below.Lookups.{get_at, get_above, get_front, get_more}
use Rattle.lf_substitution_laws.proofs.Domains.{AllDomains, by_domains}
use Rattle.lf_substitution_laws.proofs.Below.Substituted.{substituted_below, substituted_at, substituted_above}
use Rattle.lf_substitution_laws.proofs.Families.{erase_map, raise_below_substitution_family, substitute_raised_family}
use Rattle.lf_substitution_laws.proofs.Commutation.{substitutions_commute_family, substitutions_commute_kind}
use Rattle.lf_typing.proofs.Typed.{checks_sort, family_sorted}
use Rattle.lf_typing.proofs.Closed.{substitute_class_family, substitute_class_kind}
use Rattle.lf_typing.proofs.Weakening.{raise_checks, length_map_context, MappedAt, mapped_at, same_tail}
use Rattle.lf_typing.proofs.Regular.{IsSortedContext, context_sorted, synthesised_sorted, synthesised_kind_sorted, erase_split, length_erased, erase_mapped, substitute_sorted_context}
use Rattle.lf_substitution_laws.proofs.SortedFamilies.{substitute_keeps_sorted}
use Rattle.std.proofs.lemmas.Option.{same_Some}

-- substitution at the simple type keeps typing
abbrev pub KeepsTyping : Simple → Type 0
KeepsTyping s = (sig : Signature) → IsSignature sig → (after before : Context) (v : Object) (a : Family) (m : Object) (b : Family) → erase a ≡ s → IsSortedContext (sorts_of sig) (after ++ (a ∷ before)) → Checks sig before v a → IsSortedFamily (sorts_of sig) (erase_context (after ++ (a ∷ before))) b → Checks sig (after ++ (a ∷ before)) m b → Checks sig (substitute_context v s after ++ before) (substitute v s (length after) m) (substitute_family v s (length after) b)

-- A headed result at a family: a kept head synthesises it; a value checks against it and does at
-- its arguments what the family's erasure says, with substitution at each of its domains keeping
-- typing.
abbrev HeadedTyped : Signature → Context → Headed → Family → Type 0
HeadedTyped sig context (Kept r) a = Synthesises sig context r a
HeadedTyped sig context (Replaced w b) a = (b ≡ action (erase a)) × Checks sig context w a × AllDomains KeepsTyping (erase a)

typed_object : (sig : Signature) (context : Context) (h : Headed) (p : AtomicFamily) → HeadedTyped sig context h (AtFamily p) → Checks sig context (object_of h) (AtFamily p)
typed_object sig context (Kept r) p f = f
typed_object sig context (Replaced w b) p f = f.1

typed_value_takes : (sig : Signature) → IsSignature sig → (context : Context) (w m : Object) (a b : Family) → IsSortedContext (sorts_of sig) context → IsSortedFamily (sorts_of sig) (erase_context context) (Pi a b) → Checks sig context w (Pi a b) → AllDomains KeepsTyping (Arrow (erase a) (erase b)) → Checks sig context m a → HeadedTyped sig context (value_takes w (action (Arrow (erase a) (erase b))) m) (substitute_family m (erase a) 0 b)
typed_value_takes sig typed context (Lam c) m a b sorted family_sorted h all g =
    let same : erase b ≡ erase (substitute_family m (erase a) 0 b) = sym (erase_map (substitute m (erase a)) 0 b) in
    (ap action same, all.0 sig typed [] context m a c b refl (sorted, family_sorted.0) g family_sorted.1 h, subst (AllDomains KeepsTyping) same all.1)
typed_value_takes sig typed context (At r) m a b sorted family_sorted h all g = absurd h

typed_takes : (sig : Signature) → IsSignature sig → (context : Context) (h : Headed) (m : Object) (a b : Family) → IsSortedContext (sorts_of sig) context → IsSortedFamily (sorts_of sig) (erase_context context) (Pi a b) → HeadedTyped sig context h (Pi a b) → Checks sig context m a → HeadedTyped sig context (takes h m) (substitute_family m (erase a) 0 b)
typed_takes sig typed context (Kept r) m a b sorted family_sorted f g = record { domain = a; body = b; head_has = f; argument_has = g; is = refl }
typed_takes sig typed context (Replaced w d) m a b sorted family_sorted f g =
    subst (λ x. HeadedTyped sig context (value_takes w x m) (substitute_family m (erase a) 0 b)) (sym f.0) (typed_value_takes sig typed context w m a b sorted family_sorted f.1 f.2 g)

module _ (sig : Signature) (typed : IsSignature sig) (before : Context) (v : Object) (a : Family) (s : Simple) (erased : erase a ≡ s) (value : Checks sig before v a) where
  value_sort : HasSort (sorts_of sig) (erase_context before) v s
  value_sort = subst (HasSort (sorts_of sig) (erase_context before) v) erased (checks_sort sig before v a value)

  abbrev whole : Context → Context
  whole after = after ++ (a ∷ before)

  abbrev done : Context → Context
  done after = substitute_context v s after ++ before

  -- the two orders of a substitution at an argument and the one at hand, on what an application
  -- synthesises
  two_orders : (after : Context) (m : Object) (d b : Family) → HasSort (sorts_of sig) (erase_context (whole after)) m (erase d) → IsSortedFamily (sorts_of sig) (erase d ∷ erase_context (whole after)) b → substitute_family v s (length after) (substitute_family m (erase d) 0 b) ≡ substitute_family (substitute v s (length after) m) (erase (substitute_family v s (length after) d)) 0 (substitute_family v s (suc (length after)) b)
  two_orders after m d b hm hb =
      let hm' : HasSort (sorts_of sig) (erase_context after ++ (s ∷ erase_context before)) m (erase d) = subst (λ D. HasSort (sorts_of sig) D m (erase d)) (erase_split after before a s erased) hm in
      let hb' : IsSortedFamily (sorts_of sig) (erase d ∷ (erase_context after ++ (s ∷ erase_context before))) b = subst (λ D. IsSortedFamily (sorts_of sig) (erase d ∷ D) b) (erase_split after before a s erased) hb in
      substitutions_commute_family (sorts_of sig) (erase_context after) (erase_context before) v s m (erase d) value_sort hm' [] (length after) b (omega (arith, length_erased after)) hb' ∙ ap₂ (λ n t. substitute_family (substitute v s n m) t 0 (substitute_family v s (suc (length after)) b)) (length_erased after) (sym (erase_map (substitute v s) (length after) d))

  two_orders_kind : (after : Context) (m : Object) (d : Family) (b : Kind) → HasSort (sorts_of sig) (erase_context (whole after)) m (erase d) → IsSortedKind (sorts_of sig) (erase d ∷ erase_context (whole after)) b → substitute_kind v s (length after) (substitute_kind m (erase d) 0 b) ≡ substitute_kind (substitute v s (length after) m) (erase (substitute_family v s (length after) d)) 0 (substitute_kind v s (suc (length after)) b)
  two_orders_kind after m d b hm hb =
      let hm' : HasSort (sorts_of sig) (erase_context after ++ (s ∷ erase_context before)) m (erase d) = subst (λ D. HasSort (sorts_of sig) D m (erase d)) (erase_split after before a s erased) hm in
      let hb' : IsSortedKind (sorts_of sig) (erase d ∷ (erase_context after ++ (s ∷ erase_context before))) b = subst (λ D. IsSortedKind (sorts_of sig) (erase d ∷ D) b) (erase_split after before a s erased) hb in
      substitutions_commute_kind (sorts_of sig) (erase_context after) (erase_context before) v s m (erase d) value_sort hm' [] (length after) b (omega (arith, length_erased after)) hb' ∙ ap₂ (λ n t. substitute_kind (substitute v s n m) t 0 (substitute_kind v s (suc (length after)) b)) (length_erased after) (sym (erase_map (substitute v s) (length after) d))

  substituted_context_sorted : (after : Context) → IsSortedContext (sorts_of sig) (whole after) → IsSortedContext (sorts_of sig) (done after)
  substituted_context_sorted after h = substitute_sorted_context (sorts_of sig) after before v a s erased value_sort h

  substituted_family_sorted : (after : Context) (b : Family) → IsSortedFamily (sorts_of sig) (erase_context (whole after)) b → IsSortedFamily (sorts_of sig) (erase_context (done after)) (substitute_family v s (length after) b)
  substituted_family_sorted after b h =
      let there : IsSortedFamily (sorts_of sig) (erase_context after ++ (s ∷ erase_context before)) b = subst (λ D. IsSortedFamily (sorts_of sig) D b) (erase_split after before a s erased) h in
      subst₂ (λ n D. IsSortedFamily (sorts_of sig) D (substitute_family v s n b)) (length_erased after) (sym (erase_mapped (substitute v s) after before)) (substitute_keeps_sorted (sorts_of sig) v s (erase_context before) value_sort (erase_context after) b there)

  module _ (all : AllDomains KeepsTyping s) where
    -- a variable below the substituted one
    variable_below : (after : Context) (i : ℕ) (b : Family) → i < length after → VariableHas (whole after) i b → VariableHas (done after) i (substitute_family v s (length after) b)
    variable_below after i b low h =
        let m : MappedAt (substitute v s) after i h.family = mapped_at (substitute v s) after i h.family (sym (get_front after (a ∷ before) i low) ∙ h.found) in
        record { family = substitute_family v s m.between h.family; found = get_more (substitute_context v s after) before i (substitute_family v s m.between h.family) m.found; is = ap (substitute_family v s (length after)) h.is ∙ sym (raise_below_substitution_family (suc i) v s m.between 0 (length after) h.family (omega arith) m.depth) }

    -- the substituted variable
    variable_at : (after : Context) (b : Family) → VariableHas (whole after) (length after) b → HeadedTyped sig (done after) (Replaced (raise (length after) 0 v) (action s)) (substitute_family v s (length after) b)
    variable_at after b h =
        let n : ℕ = length after in
        let same : a ≡ h.family = same_Some _ _ (sym (get_at after before a) ∙ h.found) in
        let is : substitute_family v s n b ≡ raise_family n 0 a = ap (substitute_family v s n) (h.is ∙ ap (raise_family (suc n) 0) (sym same)) ∙ substitute_raised_family n v s n 0 a (omega arith) (omega arith) in
        let sort_is : s ≡ erase (raise_family n 0 a) = sym erased ∙ sym (erase_map (raise n) 0 a) in
        let checks : Checks sig (done after) (raise n 0 v) (raise_family n 0 a) = subst (λ k. Checks sig (done after) (raise k 0 v) (raise_family k 0 a)) (length_map_context (substitute v s) after) (raise_checks sig typed (substitute_context v s after) before [] v a value) in
        subst (HeadedTyped sig (done after) (Replaced (raise n 0 v) (action s))) (sym is) (ap action sort_is, checks, subst (AllDomains KeepsTyping) sort_is all)

    -- a variable above it
    variable_above : (after : Context) (j : ℕ) (b : Family) → length after ≤ j → VariableHas (whole after) (suc j) b → VariableHas (done after) j (substitute_family v s (length after) b)
    variable_above after j b high h =
        record { family = h.family; found = same_tail (substitute_context v s after) after before j (length_map_context (substitute v s) after) high ∙ sym (get_above after before a j high) ∙ h.found; is = ap (substitute_family v s (length after)) h.is ∙ substitute_raised_family (suc j) v s (length after) 0 h.family (omega arith) (omega (arith, high)) }

    variable_typed : (after : Context) (n i : ℕ) (b : Family) → n ≡ length after → Position n i → VariableHas (whole after) i b → HeadedTyped sig (done after) (substituted v (action s) n i) (substitute_family v s n b)
    variable_typed after n i b e (below low) h =
        subst (λ x. HeadedTyped sig (done after) x (substitute_family v s n b)) (sym (substituted_below v (action s) n i low)) (subst (λ k. VariableHas (done after) i (substitute_family v s k b)) (sym e) (variable_below after i b (omega (arith, e, low)) h))
    variable_typed after n i b e at h =
        subst (λ x. HeadedTyped sig (done after) x (substitute_family v s n b)) (sym (substituted_at v (action s) n)) (subst (λ k. HeadedTyped sig (done after) (Replaced (raise k 0 v) (action s)) (substitute_family v s k b)) (sym e) (variable_at after b (subst (λ k. VariableHas (whole after) k b) e h)))
    variable_typed after n i b e (above {i = j} high) h =
        subst (λ x. HeadedTyped sig (done after) x (substitute_family v s n b)) (sym (substituted_above v (action s) n j high)) (subst (λ k. VariableHas (done after) j (substitute_family v s k b)) (sym e) (variable_above after j b (omega (arith, e, high)) h))

    application_typed : (after : Context) (r : Atomic) (m : Object) (d b c : Family) → IsSortedContext (sorts_of sig) (whole after) → Synthesises sig (whole after) r (Pi d b) → Checks sig (whole after) m d → c ≡ substitute_family m (erase d) 0 b → HeadedTyped sig (done after) (replace_head (substitution v (action s)) (length after) r) (substitute_family v s (length after) (Pi d b)) → Checks sig (done after) (substitute v s (length after) m) (substitute_family v s (length after) d) → HeadedTyped sig (done after) (replace_head (substitution v (action s)) (length after) (App r m)) (substitute_family v s (length after) c)
    application_typed after r m d b c sorted hr hm e head argument =
        let pi_sorted : IsSortedFamily (sorts_of sig) (erase_context (whole after)) (Pi d b) = synthesised_sorted sig typed (whole after) r (Pi d b) sorted hr in
        let is : substitute_family v s (length after) c ≡ substitute_family (substitute v s (length after) m) (erase (substitute_family v s (length after) d)) 0 (substitute_family v s (suc (length after)) b) = ap (substitute_family v s (length after)) e ∙ two_orders after m d b (checks_sort sig (whole after) m d hm) pi_sorted.1 in
        subst (HeadedTyped sig (done after) (replace_head (substitution v (action s)) (length after) (App r m))) (sym is) (typed_takes sig typed (done after) (replace_head (substitution v (action s)) (length after) r) (substitute v s (length after) m) (substitute_family v s (length after) d) (substitute_family v s (suc (length after)) b) (substituted_context_sorted after sorted) (substituted_family_sorted after (Pi d b) pi_sorted) head argument)

    more_constant : (after : Context) (c : Constant) (b : Family) → class_of sig c ≡ Some (FamilyClass b) → class_of sig c ≡ Some (FamilyClass (substitute_family v s (length after) b))
    more_constant after c b h = h ∙ ap (λ x. Some (FamilyClass x)) (sym (substitute_class_family sig typed c b h v s (length after)))

    mutual
      checks_in : (after : Context) (m : Object) (b : Family) → IsSortedContext (sorts_of sig) (whole after) → IsSortedFamily (sorts_of sig) (erase_context (whole after)) b → Checks sig (whole after) m b → Checks sig (done after) (substitute v s (length after) m) (substitute_family v s (length after) b)
      checks_in after (Lam m) (Pi c b) sorted hb h = checks_in (c ∷ after) m b (sorted, hb.0) hb.1 h
      checks_in after (Lam m) (AtFamily p) sorted hb h = absurd h
      checks_in after (At r) (Pi c b) sorted hb h = absurd h
      checks_in after (At r) (AtFamily p) sorted hb h = typed_object sig (done after) (replace_head (substitution v (action s)) (length after) r) (substitute_atomic_family v s (length after) p) (synthesises_in after r (AtFamily p) sorted h)

      synthesises_in : (after : Context) (r : Atomic) (b : Family) → IsSortedContext (sorts_of sig) (whole after) → Synthesises sig (whole after) r b → HeadedTyped sig (done after) (replace_head (substitution v (action s)) (length after) r) (substitute_family v s (length after) b)
      synthesises_in after (Var i) b sorted h = variable_typed after (length after) i b refl (position (length after) i) h
      synthesises_in after (Con c) b sorted h = more_constant after c b h
      synthesises_in after (App r m) b sorted h =
          application_typed after r m h.domain h.body b sorted h.head_has h.argument_has h.is (synthesises_in after r (Pi h.domain h.body) sorted h.head_has) (checks_in after m h.domain sorted (synthesised_sorted sig typed (whole after) r (Pi h.domain h.body) sorted h.head_has).0 h.argument_has)

keeps_typing_step : (s : Simple) → AllDomains KeepsTyping s → KeepsTyping s
keeps_typing_step s all sig typed after before v a m b erased sorted value hb h = checks_in sig typed before v a s erased value all after m b sorted hb h

pub keeps_typing : (s : Simple) → KeepsTyping s
keeps_typing = by_domains KeepsTyping keeps_typing_step

-- objects, families, kinds and contexts
module _ (sig : Signature) (typed : IsSignature sig) (before : Context) (v : Object) (a : Family) (value : Checks sig before v a) where
  pub substitute_checks : (after : Context) (m : Object) (b : Family) → IsSortedContext (sorts_of sig) (after ++ (a ∷ before)) → IsSortedFamily (sorts_of sig) (erase_context (after ++ (a ∷ before))) b → Checks sig (after ++ (a ∷ before)) m b → Checks sig (substitute_context v (erase a) after ++ before) (substitute v (erase a) (length after) m) (substitute_family v (erase a) (length after) b)
  substitute_checks after m b sorted hb h = keeps_typing (erase a) sig typed after before v a m b refl sorted value hb h

  pub substitute_synthesises_kind : (after : Context) (p : AtomicFamily) (k : Kind) → IsSortedContext (sorts_of sig) (after ++ (a ∷ before)) → SynthesisesKind sig (after ++ (a ∷ before)) p k → SynthesisesKind sig (substitute_context v (erase a) after ++ before) (substitute_atomic_family v (erase a) (length after) p) (substitute_kind v (erase a) (length after) k)
  substitute_synthesises_kind after (FamilyCon c) k sorted h = h ∙ ap (λ x. Some (KindClass x)) (sym (substitute_class_kind sig typed c k h v (erase a) (length after)))
  substitute_synthesises_kind after (FamilyApp p m) k sorted h =
      let pi_sorted : IsSortedKind (sorts_of sig) (erase_context (after ++ (a ∷ before))) (PiKind h.domain h.body) = synthesised_kind_sorted sig typed (after ++ (a ∷ before)) p (PiKind h.domain h.body) sorted h.head_has in
      record {
        domain = substitute_family v (erase a) (length after) h.domain;
        body = substitute_kind v (erase a) (suc (length after)) h.body;
        head_has = substitute_synthesises_kind after p (PiKind h.domain h.body) sorted h.head_has;
        argument_has = substitute_checks after m h.domain sorted pi_sorted.0 h.argument_has;
        is = ap (substitute_kind v (erase a) (length after)) h.is ∙ two_orders_kind sig typed before v a (erase a) refl value after m h.domain h.body (checks_sort sig (after ++ (a ∷ before)) m h.domain h.argument_has) pi_sorted.1;
      }

  pub substitute_is_family : (after : Context) (b : Family) → IsSortedContext (sorts_of sig) (after ++ (a ∷ before)) → IsFamily sig (after ++ (a ∷ before)) b → IsFamily sig (substitute_context v (erase a) after ++ before) (substitute_family v (erase a) (length after) b)
  substitute_is_family after (Pi c b) sorted h = (substitute_is_family after c sorted h.0, substitute_is_family (c ∷ after) b (sorted, family_sorted sig (after ++ (a ∷ before)) c h.0) h.1)
  substitute_is_family after (AtFamily p) sorted h = substitute_synthesises_kind after p Ty sorted h

  pub substitute_is_kind : (after : Context) (k : Kind) → IsSortedContext (sorts_of sig) (after ++ (a ∷ before)) → IsKind sig (after ++ (a ∷ before)) k → IsKind sig (substitute_context v (erase a) after ++ before) (substitute_kind v (erase a) (length after) k)
  substitute_is_kind after Ty sorted h = tt
  substitute_is_kind after (PiKind c k) sorted h = (substitute_is_family after c sorted h.0, substitute_is_kind (c ∷ after) k (sorted, family_sorted sig (after ++ (a ∷ before)) c h.0) h.1)

  pub substitute_is_context : (after : Context) → IsContext sig (after ++ (a ∷ before)) → IsContext sig (substitute_context v (erase a) after ++ before)
  substitute_is_context [] h = h.0
  substitute_is_context (c ∷ after) h = (substitute_is_context after h.0, substitute_is_family after c (context_sorted sig (after ++ (a ∷ before)) h.0) h.1)

  pub substitute_is_typing : (after : Context) (m : Object) (b : Family) → IsTyping sig (after ++ (a ∷ before)) m b → IsTyping sig (substitute_context v (erase a) after ++ before) (substitute v (erase a) (length after) m) (substitute_family v (erase a) (length after) b)
  substitute_is_typing after m b h = record {
    context_is = substitute_is_context after h.context_is;
    family_is = substitute_is_family after b (context_sorted sig (after ++ (a ∷ before)) h.context_is) h.family_is;
    object_checks = substitute_checks after m b (context_sorted sig (after ++ (a ∷ before)) h.context_is) (family_sorted sig (after ++ (a ∷ before)) b h.family_is) h.object_checks;
  }
