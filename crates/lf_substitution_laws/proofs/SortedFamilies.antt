-- Well-sorted families and kinds, under raising and substitution.
use Rattle.std.proofs.Common.{◌≡◌, ℕ, suc, ◌∷◌, ◌++◌, length, Some, refl, sym, ap, subst}
use Rattle.lf_meaning.specs.Terms.{Constant, Object, Lam, At, Atomic, Var, Con, App, Family, Pi, AtFamily, AtomicFamily, FamilyCon, FamilyApp, Kind, Ty, PiKind, Simple, Base, Arrow, SimpleContext}
use Rattle.lf_meaning.specs.Raising.{raise, map_family, map_atomic_family, map_kind, raise_family, raise_kind}
use Rattle.lf_meaning.specs.Erasure.{erase}
use Rattle.lf_meaning.specs.Substitution.{substitute, substitute_family, substitute_kind}
use Rattle.lf_meaning.specs.Sorts.{Sorts, HasSort, SynthesisesSort, IsSortedAtomicFamily, IsSortedFamily, IsSortedKind}
use Rattle.lf_substitution_laws.proofs.Families.{erase_map}
use Rattle.lf_term_laws.proofs.Lookups.{get_more}
use Rattle.lf_substitution_laws.proofs.Sorting.{raise_keeps_sort, keeps_sorts, Substituting, substituting, substituting_under}

-- what keeps the sorts of objects keeps those of families
module _ (sorts sorts' : Sorts) (f : ℕ → Object → Object) (Place : ℕ → SimpleContext → SimpleContext → Type 0) (under : (n : ℕ) (D D' : SimpleContext) (s : Simple) → Place n D D' → Place (suc n) (s ∷ D) (s ∷ D')) (on : (n : ℕ) (D D' : SimpleContext) (m : Object) (t : Simple) → Place n D D' → HasSort sorts D m t → HasSort sorts' D' (f n m) t) where
  pub map_keeps_sorted_atomic : (n : ℕ) (D D' : SimpleContext) (p : AtomicFamily) → Place n D D' → IsSortedAtomicFamily sorts D p → IsSortedAtomicFamily sorts' D' (map_atomic_family f n p)
  map_keeps_sorted_atomic n D D' (FamilyCon c) q h = tt
  map_keeps_sorted_atomic n D D' (FamilyApp p m) q h = (map_keeps_sorted_atomic n D D' p q h.0, record { sort = h.1.sort; has = on n D D' m h.1.sort q h.1.has })

  pub map_keeps_sorted : (n : ℕ) (D D' : SimpleContext) (a : Family) → Place n D D' → IsSortedFamily sorts D a → IsSortedFamily sorts' D' (map_family f n a)
  map_keeps_sorted n D D' (Pi a b) q h = (map_keeps_sorted n D D' a q h.0, subst (λ s. IsSortedFamily sorts' (s ∷ D') (map_family f (suc n) b)) (sym (erase_map f n a)) (map_keeps_sorted (suc n) (erase a ∷ D) (erase a ∷ D') b (under n D D' (erase a) q) h.1))
  map_keeps_sorted n D D' (AtFamily p) q h = map_keeps_sorted_atomic n D D' p q h

  pub map_keeps_sorted_kind : (n : ℕ) (D D' : SimpleContext) (k : Kind) → Place n D D' → IsSortedKind sorts D k → IsSortedKind sorts' D' (map_kind f n k)
  map_keeps_sorted_kind n D D' Ty q h = tt
  map_keeps_sorted_kind n D D' (PiKind a k) q h = (map_keeps_sorted n D D' a q h.0, subst (λ s. IsSortedKind sorts' (s ∷ D') (map_kind f (suc n) k)) (sym (erase_map f n a)) (map_keeps_sorted_kind (suc n) (erase a ∷ D) (erase a ∷ D') k (under n D D' (erase a) q) h.1))

-- the place of a raising over the variables `mid`, which stand behind those of D
record Raised (mid before : SimpleContext) (n : ℕ) (D D' : SimpleContext) : Type 0 where
  after : SimpleContext
  depth : n ≡ length after
  from : D ≡ after ++ before
  to : D' ≡ after ++ (mid ++ before)

module _ (sorts : Sorts) (mid before : SimpleContext) where
  raised_under : (n : ℕ) (D D' : SimpleContext) (s : Simple) → Raised mid before n D D' → Raised mid before (suc n) (s ∷ D) (s ∷ D')
  raised_under n D D' s p = record { after = s ∷ p.after; depth = ap suc p.depth; from = ap (λ x. s ∷ x) p.from; to = ap (λ x. s ∷ x) p.to }

  raised_on : (n : ℕ) (D D' : SimpleContext) (m : Object) (t : Simple) → Raised mid before n D D' → HasSort sorts D m t → HasSort sorts D' (raise (length mid) n m) t
  raised_on n D D' m t p h =
      let inner : HasSort sorts (p.after ++ before) m t = subst (λ E. HasSort sorts E m t) p.from h in
      let done : HasSort sorts (p.after ++ (mid ++ before)) (raise (length mid) (length p.after) m) t = raise_keeps_sort sorts p.after mid before m t inner in
      subst (λ E. HasSort sorts E (raise (length mid) n m) t) (sym p.to) (subst (λ x. HasSort sorts (p.after ++ (mid ++ before)) (raise (length mid) x m) t) (sym p.depth) done)

  raised_place : (after : SimpleContext) → Raised mid before (length after) (after ++ before) (after ++ (mid ++ before))
  raised_place after = record { after = after; depth = refl; from = refl; to = refl }

  pub raise_keeps_sorted : (after : SimpleContext) (a : Family) → IsSortedFamily sorts (after ++ before) a → IsSortedFamily sorts (after ++ (mid ++ before)) (raise_family (length mid) (length after) a)
  raise_keeps_sorted after a h = map_keeps_sorted sorts sorts (raise (length mid)) (Raised mid before) raised_under raised_on (length after) (after ++ before) (after ++ (mid ++ before)) a (raised_place after) h

  pub raise_keeps_sorted_kind : (after : SimpleContext) (k : Kind) → IsSortedKind sorts (after ++ before) k → IsSortedKind sorts (after ++ (mid ++ before)) (raise_kind (length mid) (length after) k)
  raise_keeps_sorted_kind after k h = map_keeps_sorted_kind sorts sorts (raise (length mid)) (Raised mid before) raised_under raised_on (length after) (after ++ before) (after ++ (mid ++ before)) k (raised_place after) h

module _ (sorts : Sorts) (v : Object) (s : Simple) (before : SimpleContext) (sorted : HasSort sorts before v s) where
  substituted_on : (n : ℕ) (D D' : SimpleContext) (m : Object) (t : Simple) → Substituting s before n D D' → HasSort sorts D m t → HasSort sorts D' (substitute v s n m) t
  substituted_on n D D' m t p h =
      let inner : HasSort sorts (p.after ++ (s ∷ before)) m t = subst (λ E. HasSort sorts E m t) p.from h in
      let done : HasSort sorts (p.after ++ before) (substitute v s (length p.after) m) t = keeps_sorts s sorts p.after before v m t sorted inner in
      subst (λ E. HasSort sorts E (substitute v s n m) t) (sym p.to) (subst (λ x. HasSort sorts (p.after ++ before) (substitute v s x m) t) (sym p.depth) done)

  pub substitute_keeps_sorted : (after : SimpleContext) (a : Family) → IsSortedFamily sorts (after ++ (s ∷ before)) a → IsSortedFamily sorts (after ++ before) (substitute_family v s (length after) a)
  substitute_keeps_sorted after a h = map_keeps_sorted sorts sorts (substitute v s) (Substituting s before) (substituting_under s before) substituted_on (length after) (after ++ (s ∷ before)) (after ++ before) a (substituting s after before) h

  pub substitute_keeps_sorted_kind : (after : SimpleContext) (k : Kind) → IsSortedKind sorts (after ++ (s ∷ before)) k → IsSortedKind sorts (after ++ before) (substitute_kind v s (length after) k)
  substitute_keeps_sorted_kind after k h = map_keeps_sorted_kind sorts sorts (substitute v s) (Substituting s before) (substituting_under s before) substituted_on (length after) (after ++ (s ∷ before)) (after ++ before) k (substituting s after before) h

-- A term keeps its sort where further variables stand before those of its context and further
-- constants are known.
module _ (sorts sorts' : Sorts) (more : (c : Constant) (t : Simple) → sorts c ≡ Some t → sorts' c ≡ Some t) where
  mutual
    pub more_sort : (D E : SimpleContext) (m : Object) (t : Simple) → HasSort sorts D m t → HasSort sorts' (D ++ E) m t
    more_sort D E (Lam m) (Arrow s t) h = more_sort (s ∷ D) E m t h
    more_sort D E (Lam m) (Base c) h = h
    more_sort D E (At r) (Arrow s t) h = h
    more_sort D E (At r) (Base c) h = more_atomic_sort D E r (Base c) h

    pub more_atomic_sort : (D E : SimpleContext) (r : Atomic) (t : Simple) → SynthesisesSort sorts D r t → SynthesisesSort sorts' (D ++ E) r t
    more_atomic_sort D E (Var i) t h = get_more D E i t h
    more_atomic_sort D E (Con c) t h = more c t h
    more_atomic_sort D E (App r m) t h = record { domain = h.domain; head_has = more_atomic_sort D E r (Arrow h.domain t) h.head_has; argument_has = more_sort D E m h.domain h.argument_has }

  pub more_sorted_atomic_family : (D E : SimpleContext) (p : AtomicFamily) → IsSortedAtomicFamily sorts D p → IsSortedAtomicFamily sorts' (D ++ E) p
  more_sorted_atomic_family D E (FamilyCon c) h = tt
  more_sorted_atomic_family D E (FamilyApp p m) h = (more_sorted_atomic_family D E p h.0, record { sort = h.1.sort; has = more_sort D E m h.1.sort h.1.has })

  pub more_sorted_family : (D E : SimpleContext) (a : Family) → IsSortedFamily sorts D a → IsSortedFamily sorts' (D ++ E) a
  more_sorted_family D E (Pi a b) h = (more_sorted_family D E a h.0, more_sorted_family (erase a ∷ D) E b h.1)
  more_sorted_family D E (AtFamily p) h = more_sorted_atomic_family D E p h

  pub more_sorted_kind : (D E : SimpleContext) (k : Kind) → IsSortedKind sorts D k → IsSortedKind sorts' (D ++ E) k
  more_sorted_kind D E Ty h = tt
  more_sorted_kind D E (PiKind a k) h = (more_sorted_family D E a h.0, more_sorted_kind (erase a ∷ D) E k h.1)
