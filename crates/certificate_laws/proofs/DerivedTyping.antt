-- Derivations of all that holds of typed terms: raising and erasure of any term, substitution into well-sorted ones, and the judgements.
use Rattle.std.proofs.Common.{◌≡◌, ℕ, suc, [], ◌∷◌, ◌++◌, length, Some, None, refl, sym, ap, subst, ◌∙◌, arith}
use Rattle.std.specs.Prelude.{slice_get}
use Rattle.std.proofs.lemmas.Option.{same_Some}
use Rattle.lf_meaning.specs.Terms.{Object, Lam, At, Atomic, Var, Con, App, Family, Pi, AtFamily, AtomicFamily, FamilyCon, FamilyApp, Kind, Ty, PiKind, Simple, Base, Arrow, Context, SimpleContext}
use Rattle.lf_meaning.specs.Raising.{raised, raise, raise_atomic, raise_family, raise_atomic_family}
use Rattle.lf_meaning.specs.Erasure.{erase, erase_context}
use Rattle.lf_meaning.specs.Replacement.{Headed, Kept, Replaced, takes, value_takes, replace_head, object_of}
use Rattle.lf_meaning.specs.Substitution.{substitution, substituted, action, substitute, substitute_family, substitute_atomic_family, substitute_kind}
use Rattle.lf_meaning.specs.Signatures.{Signature}
use Rattle.lf_meaning.specs.Judgements.{Checks, Synthesises, SynthesisesKind, IsFamily, IsKind, IsSignature}
use Rattle.lf_meaning.specs.Sorts.{Sorts, HasSort, SynthesisesSort, IsSortedAtomicFamily, IsSortedFamily, IsSortedKind, sorts_of}
use Rattle.lf_term_laws.proofs.Substituted.{substituted_below, substituted_at, substituted_above}
use Rattle.lf_term_laws.proofs.Lookups.{get_at}
use Rattle.lf_substitution_laws.proofs.Indices.{Position, below, at, above, position, raised_below, raised_above}
use Rattle.lf_substitution_laws.proofs.Domains.{AllDomains, by_domains, itself, itself_retypes}
use Rattle.lf_substitution_laws.proofs.Sorting.{HeadedFits, keeps_sorts, replace_head_fits, Substituting, substituting, substituting_under, substituted_fits}
use Rattle.lf_typing.proofs.Typed.{checks_sort, family_sorted}
use Rattle.lf_typing.proofs.Regular.{IsSortedContext, synthesised_sorted, synthesised_kind_sorted}
use Rattle.certificate_meaning.specs.Statements.{KindTerm, FamilyTerm, ObjectTerm, AtomicTerm, Statement, Raises, Erases, Substitutes, SubstitutesAtHead, KindIn, FamilyIn, SynthesisesKindIn, ChecksIn, SynthesisesIn}
use Rattle.certificate_meaning.specs.Steps.{raise_pi, raise_family_constant, raise_family_application, raise_lambda, raise_at, raise_variable_below, raise_variable, raise_constant, raise_application, erase_pi, erase_atomic, substitute_type, substitute_kind_pi, substitute_pi, substitute_family_constant, substitute_family_application, substitute_lambda, substitute_at, head_is_variable, head_is_below, head_is_above, head_is_constant, head_stays, head_goes, apply_lambda, kind_type, kind_pi, family_pi, family_atomic, constant_kind, application_kind, check_lambda, check_atomic, variable_family, constant_family, application_family}
use Rattle.certificate_laws.proofs.Derivations.{Derivable, by, AllDerivable, none, also}

module _ (sig : Signature) where
  one : {p : Statement} → Derivable sig p → AllDerivable sig (p ∷ [])
  one d = also d none

  two : {p q : Statement} → Derivable sig p → Derivable sig q → AllDerivable sig (p ∷ q ∷ [])
  two d e = also d (one e)

  three : {p q r : Statement} → Derivable sig p → Derivable sig q → Derivable sig r → AllDerivable sig (p ∷ q ∷ r ∷ [])
  three d e f = also d (two e f)

  four : {p q r s : Statement} → Derivable sig p → Derivable sig q → Derivable sig r → Derivable sig s → AllDerivable sig (p ∷ q ∷ r ∷ s ∷ [])
  four d e f g = also d (three e f g)

  raises_variable : (k n i : ℕ) → Position n i → Derivable sig (Raises k n (AtomicTerm (Var i)) (AtomicTerm (Var (raised k n i))))
  raises_variable k n i (below h) = subst (λ x. Derivable sig (Raises k n (AtomicTerm (Var i)) (AtomicTerm (Var x)))) (sym (raised_below k n i h)) (by (raise_variable_below h) none)
  raises_variable k n i at = subst (λ x. Derivable sig (Raises k n (AtomicTerm (Var i)) (AtomicTerm (Var x)))) (sym (raised_above k n i (omega arith))) (by (raise_variable (omega arith)) none)
  raises_variable k n i (above {i = j} h) = subst (λ x. Derivable sig (Raises k n (AtomicTerm (Var (suc j))) (AtomicTerm (Var x)))) (sym (raised_above k n (suc j) (omega (arith, h)))) (by (raise_variable (omega (arith, h))) none)

  mutual
    raises : (k n : ℕ) (m : Object) → Derivable sig (Raises k n (ObjectTerm m) (ObjectTerm (raise k n m)))
    raises k n (Lam m) = by raise_lambda (one (raises k (suc n) m))
    raises k n (At r) = by raise_at (one (raises_atomic k n r))

    raises_atomic : (k n : ℕ) (r : Atomic) → Derivable sig (Raises k n (AtomicTerm r) (AtomicTerm (raise_atomic k n r)))
    raises_atomic k n (Var i) = raises_variable k n i (position n i)
    raises_atomic k n (Con c) = by raise_constant none
    raises_atomic k n (App r m) = by raise_application (two (raises_atomic k n r) (raises k n m))

  raises_atomic_family : (k n : ℕ) (p : AtomicFamily) → Derivable sig (Raises k n (FamilyTerm (AtFamily p)) (FamilyTerm (AtFamily (raise_atomic_family k n p))))
  raises_atomic_family k n (FamilyCon c) = by raise_family_constant none
  raises_atomic_family k n (FamilyApp p m) = by raise_family_application (two (raises_atomic_family k n p) (raises k n m))

  raises_family : (k n : ℕ) (a : Family) → Derivable sig (Raises k n (FamilyTerm a) (FamilyTerm (raise_family k n a)))
  raises_family k n (Pi a b) = by raise_pi (two (raises_family k n a) (raises_family k (suc n) b))
  raises_family k n (AtFamily p) = raises_atomic_family k n p

  erases : (a : Family) → Derivable sig (Erases a (erase a))
  erases (Pi a b) = by erase_pi (two (erases a) (erases b))
  erases (AtFamily p) = by erase_atomic none

-- a substitution at this simple type into a well-sorted object has a derivation
abbrev pub Derives : Simple → Type 0
Derives s = (sig : Signature) (sorts : Sorts) (after before : SimpleContext) (v m : Object) (t : Simple) → HasSort sorts before v s → HasSort sorts (after ++ (s ∷ before)) m t → Derivable sig (Substitutes v s (length after) (ObjectTerm m) (ObjectTerm (substitute v s (length after) m)))

-- a derivation of this headed result, where the atomic object has the simple type t
abbrev HeadDerives : Signature → Object → Simple → ℕ → Atomic → Headed → Simple → Type 0
HeadDerives sig v s n r (Kept q) t = Derivable sig (SubstitutesAtHead v s n r (At q) None)
HeadDerives sig v s n r (Replaced w a) t = Derivable sig (SubstitutesAtHead v s n r w (Some t))

module _ (s : Simple) (all : AllDomains Derives s) (sig : Signature) (sorts : Sorts) (before : SimpleContext) (v : Object) (sorted : HasSort sorts before v s) where
  value_applies : (context : SimpleContext) (n : ℕ) (r : Atomic) (m o w : Object) (d t : Simple) → Derivable sig (SubstitutesAtHead v s n r w (Some (Arrow d t))) → Derivable sig (Substitutes v s n (ObjectTerm m) (ObjectTerm o)) → HasSort sorts context w (Arrow d t) → HasSort sorts context o d → Derives d → HeadDerives sig v s n (App r m) (value_takes w (action (Arrow d t)) o) t
  value_applies context n r m o (Lam b) d t hr hm hw ho derives = by (head_goes (Lam b) (Arrow d t)) (three sig hr hm (by apply_lambda (one sig (derives sig sorts [] context o b t ho hw))))
  value_applies context n r m o (At q) d t hr hm hw ho derives = absurd hw

  application : (context : SimpleContext) (n : ℕ) (r : Atomic) (m o : Object) (d t : Simple) (h : Headed) → HeadDerives sig v s n r h (Arrow d t) → Derivable sig (Substitutes v s n (ObjectTerm m) (ObjectTerm o)) → HeadedFits Derives sorts context h (Arrow d t) → HasSort sorts context o d → HeadDerives sig v s n (App r m) (takes h o) t
  application context n r m o d t (Kept q) hr hm f ho = by head_stays (two sig hr hm)
  application context n r m o d t (Replaced w a) hr hm f ho = subst (λ b. HeadDerives sig v s n (App r m) (value_takes w b o) t) (sym f.0) (value_applies context n r m o w d t hr hm f.1 ho f.2.0)

  head_fits : (after : SimpleContext) (r : Atomic) (t : Simple) → SynthesisesSort sorts (after ++ (s ∷ before)) r t → HeadedFits Derives sorts (after ++ before) (replace_head (substitution v (action s)) (length after) r) t
  head_fits after r t h = replace_head_fits Derives (λ u k. keeps_sorts u) (substitution v (action s)) sorts sorts itself itself_retypes (Substituting s before) (substituting_under s before) (substituted_fits Derives sorts v s before sorted all) (λ n D D' c u p e. e) (length after) (after ++ (s ∷ before)) (after ++ before) r t (substituting s after before) h

  variable : (after : SimpleContext) (n i : ℕ) (t : Simple) → n ≡ length after → Position n i → slice_get (after ++ (s ∷ before)) i ≡ Some t → HeadDerives sig v s n (Var i) (substituted v (action s) n i) t
  variable after n i t e (below h) f = subst (λ x. HeadDerives sig v s n (Var i) x t) (sym (substituted_below v (action s) n i h)) (by (head_is_below h) none)
  variable after n i t e at f =
      let same : s ≡ t = same_Some _ _ (sym (get_at after before s) ∙ ap (slice_get (after ++ (s ∷ before))) (sym e) ∙ f) in
      subst (λ x. HeadDerives sig v s n (Var n) x t) (sym (substituted_at v (action s) n)) (subst (λ u. Derivable sig (SubstitutesAtHead v s n (Var n) (raise n 0 v) (Some u))) same (by head_is_variable (one sig (raises sig n 0 v))))
  variable after n i t e (above {i = j} h) f = subst (λ x. HeadDerives sig v s n (Var (suc j)) x t) (sym (substituted_above v (action s) n j h)) (by (head_is_above h) none)

  object_derives : (n : ℕ) (r : Atomic) (h : Headed) (t : Simple) → HeadDerives sig v s n r h t → Derivable sig (Substitutes v s n (ObjectTerm (At r)) (ObjectTerm (object_of h)))
  object_derives n r (Kept q) t d = by (substitute_at None) (one sig d)
  object_derives n r (Replaced w a) t d = by (substitute_at (Some t)) (one sig d)

  mutual
    derives_object : (after : SimpleContext) (m : Object) (t : Simple) → HasSort sorts (after ++ (s ∷ before)) m t → Derivable sig (Substitutes v s (length after) (ObjectTerm m) (ObjectTerm (substitute v s (length after) m)))
    derives_object after (Lam m) (Arrow d t) h = by substitute_lambda (one sig (derives_object (d ∷ after) m t h))
    derives_object after (Lam m) (Base c) h = absurd h
    derives_object after (At r) (Arrow d t) h = absurd h
    derives_object after (At r) (Base c) h = object_derives (length after) r (replace_head (substitution v (action s)) (length after) r) (Base c) (derives_head after r (Base c) h)

    derives_head : (after : SimpleContext) (r : Atomic) (t : Simple) → SynthesisesSort sorts (after ++ (s ∷ before)) r t → HeadDerives sig v s (length after) r (replace_head (substitution v (action s)) (length after) r) t
    derives_head after (Var i) t h = variable after (length after) i t refl (position (length after) i) h
    derives_head after (Con c) t h = by head_is_constant none
    derives_head after (App r m) t h = application (after ++ before) (length after) r m (substitute v s (length after) m) h.domain t (replace_head (substitution v (action s)) (length after) r) (derives_head after r (Arrow h.domain t) h.head_has) (derives_object after m h.domain h.argument_has) (head_fits after r (Arrow h.domain t) h.head_has) (keeps_sorts s sorts after before v m h.domain sorted h.argument_has)

derives_step : (s : Simple) → AllDomains Derives s → Derives s
derives_step s all sig sorts after before v m t sorted h = derives_object s all sig sorts before v sorted after m t h

pub derives : (s : Simple) → Derives s
derives = by_domains Derives derives_step

module _ (sig : Signature) (sorts : Sorts) (before : SimpleContext) (v : Object) (s : Simple) (sorted : HasSort sorts before v s) where
  derives_atomic_family : (after : SimpleContext) (p : AtomicFamily) → IsSortedAtomicFamily sorts (after ++ (s ∷ before)) p → Derivable sig (Substitutes v s (length after) (FamilyTerm (AtFamily p)) (FamilyTerm (AtFamily (substitute_atomic_family v s (length after) p))))
  derives_atomic_family after (FamilyCon c) h = by substitute_family_constant none
  derives_atomic_family after (FamilyApp p m) h = by substitute_family_application (two sig (derives_atomic_family after p h.0) (derives s sig sorts after before v m h.1.sort sorted h.1.has))

  derives_family : (after : SimpleContext) (a : Family) → IsSortedFamily sorts (after ++ (s ∷ before)) a → Derivable sig (Substitutes v s (length after) (FamilyTerm a) (FamilyTerm (substitute_family v s (length after) a)))
  derives_family after (Pi a b) h = by substitute_pi (two sig (derives_family after a h.0) (derives_family (erase a ∷ after) b h.1))
  derives_family after (AtFamily p) h = derives_atomic_family after p h

  derives_kind : (after : SimpleContext) (k : Kind) → IsSortedKind sorts (after ++ (s ∷ before)) k → Derivable sig (Substitutes v s (length after) (KindTerm k) (KindTerm (substitute_kind v s (length after) k)))
  derives_kind after Ty h = by substitute_type none
  derives_kind after (PiKind a k) h = by substitute_kind_pi (two sig (derives_family after a h.0) (derives_kind (erase a ∷ after) k h.1))

module _ (sig : Signature) (typed : IsSignature sig) where
  applies : (g : Context) (r : Atomic) (m : Object) (a c b : Family) → Derivable sig (SynthesisesIn g r (Pi a c)) → Derivable sig (ChecksIn g m a) → Checks sig g m a → IsSortedFamily (sorts_of sig) (erase a ∷ erase_context g) c → b ≡ substitute_family m (erase a) 0 c → Derivable sig (SynthesisesIn g (App r m) b)
  applies g r m a c b hr hm checks sorted e = subst (λ x. Derivable sig (SynthesisesIn g (App r m) x)) (sym e) (by (application_family a c (erase a)) (four sig hr hm (erases sig a) (derives_family sig (sorts_of sig) (erase_context g) m (erase a) (checks_sort sig g m a checks) [] c sorted)))

  applies_kind : (g : Context) (p : AtomicFamily) (m : Object) (a : Family) (l k : Kind) → Derivable sig (SynthesisesKindIn g p (PiKind a l)) → Derivable sig (ChecksIn g m a) → Checks sig g m a → IsSortedKind (sorts_of sig) (erase a ∷ erase_context g) l → k ≡ substitute_kind m (erase a) 0 l → Derivable sig (SynthesisesKindIn g (FamilyApp p m) k)
  applies_kind g p m a l k hp hm checks sorted e = subst (λ x. Derivable sig (SynthesisesKindIn g (FamilyApp p m) x)) (sym e) (by (application_kind a l (erase a)) (four sig hp hm (erases sig a) (derives_kind sig (sorts_of sig) (erase_context g) m (erase a) (checks_sort sig g m a checks) [] l sorted)))

  mutual
    pub derives_checks : (g : Context) (m : Object) (a : Family) → IsSortedContext (sorts_of sig) g → IsSortedFamily (sorts_of sig) (erase_context g) a → Checks sig g m a → Derivable sig (ChecksIn g m a)
    derives_checks g (Lam m) (Pi a b) hg ha h = by check_lambda (one sig (derives_checks (a ∷ g) m b (hg, ha.0) ha.1 h))
    derives_checks g (Lam m) (AtFamily p) hg ha h = absurd h
    derives_checks g (At r) (Pi a b) hg ha h = absurd h
    derives_checks g (At r) (AtFamily p) hg ha h = by check_atomic (one sig (derives_synthesis g r (AtFamily p) hg h))

    pub derives_synthesis : (g : Context) (r : Atomic) (a : Family) → IsSortedContext (sorts_of sig) g → Synthesises sig g r a → Derivable sig (SynthesisesIn g r a)
    derives_synthesis g (Var i) a hg h = subst (λ x. Derivable sig (SynthesisesIn g (Var i) x)) (sym h.is) (by (variable_family h.family h.found) (one sig (raises_family sig (suc i) 0 h.family)))
    derives_synthesis g (Con c) a hg h = by (constant_family h) none
    derives_synthesis g (App r m) a hg h =
        let pi = synthesised_sorted sig typed g r (Pi h.domain h.body) hg h.head_has in
        applies g r m h.domain h.body a (derives_synthesis g r (Pi h.domain h.body) hg h.head_has) (derives_checks g m h.domain hg pi.0 h.argument_has) h.argument_has pi.1 h.is

  pub derives_kind_of : (g : Context) (p : AtomicFamily) (k : Kind) → IsSortedContext (sorts_of sig) g → SynthesisesKind sig g p k → Derivable sig (SynthesisesKindIn g p k)
  derives_kind_of g (FamilyCon c) k hg h = by (constant_kind h) none
  derives_kind_of g (FamilyApp p m) k hg h =
      let pi = synthesised_kind_sorted sig typed g p (PiKind h.domain h.body) hg h.head_has in
      applies_kind g p m h.domain h.body k (derives_kind_of g p (PiKind h.domain h.body) hg h.head_has) (derives_checks g m h.domain hg pi.0 h.argument_has) h.argument_has pi.1 h.is

  pub derives_is_family : (g : Context) (a : Family) → IsSortedContext (sorts_of sig) g → IsFamily sig g a → Derivable sig (FamilyIn g a)
  derives_is_family g (Pi a b) hg h = by family_pi (two sig (derives_is_family g a hg h.0) (derives_is_family (a ∷ g) b (hg, family_sorted sig g a h.0) h.1))
  derives_is_family g (AtFamily p) hg h = by family_atomic (one sig (derives_kind_of g p Ty hg h))

  pub derives_is_kind : (g : Context) (k : Kind) → IsSortedContext (sorts_of sig) g → IsKind sig g k → Derivable sig (KindIn g k)
  derives_is_kind g Ty hg h = by kind_type none
  derives_is_kind g (PiKind a k) hg h = by kind_pi (two sig (derives_is_family g a hg h.0) (derives_is_kind (a ∷ g) k (hg, family_sorted sig g a h.0) h.1))
