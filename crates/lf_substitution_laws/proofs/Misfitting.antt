-- No step of a substitution into a well-sorted term meets a misfit.
use Rattle.std.proofs.Common.{◌≡◌, ℕ, [], ◌∷◌, ◌++◌, length, refl, ap, ◌∙◌}
use Rattle.lf_meaning.specs.Terms.{Object, Lam, At, Atomic, Var, Con, App, Family, Pi, AtFamily, AtomicFamily, FamilyCon, FamilyApp, Simple, Base, Arrow, SimpleContext}
use Rattle.lf_meaning.specs.Erasure.{erase}
use Rattle.lf_meaning.specs.Replacement.{Headed, Kept, Replaced, replace_head}
use Rattle.lf_meaning.specs.Substitution.{substitution, action, substitute}
use Rattle.lf_meaning.specs.Sorts.{Sorts, HasSort, SynthesisesSort, IsSortedAtomicFamily, IsSortedFamily}
use Rattle.lf_meaning.specs.Misfits.{NoMisfit, in_body, in_atomic, NoHeadMisfit, at_variable, at_constant, head_kept, goes_on, NoMisfitInAtomicFamily, NoMisfitInFamily}
use Rattle.lf_substitution_laws.proofs.Domains.{AllDomains, by_domains, itself, itself_retypes}
use Rattle.lf_substitution_laws.proofs.Sorting.{HeadedFits, keeps_sorts, replace_head_fits, Substituting, substituting, substituting_under, substituted_fits}

-- substitution at the simple type meets no misfit in a well-sorted term
abbrev pub MeetsNoMisfit : Simple → Type 0
MeetsNoMisfit s = (sorts : Sorts) (after before : SimpleContext) (v m : Object) (t : Simple) → HasSort sorts before v s → HasSort sorts (after ++ (s ∷ before)) m t → NoMisfit v s (length after) m

module _ (s : Simple) (all : AllDomains MeetsNoMisfit s) (sorts : Sorts) (before : SimpleContext) (v : Object) (sorted : HasSort sorts before v s) where
  value_goes_on : (context : SimpleContext) (n : ℕ) (r : Atomic) (m w : Object) (d t : Simple) → NoHeadMisfit v s n r → NoMisfit v s n m → replace_head (substitution v (action s)) n r ≡ Replaced w (action (Arrow d t)) → HasSort sorts context w (Arrow d t) → HasSort sorts context (substitute v s n m) d → MeetsNoMisfit d → NoHeadMisfit v s n (App r m)
  value_goes_on context n r m (Lam b) d t hr hm e hw hs meets = goes_on t hr hm e (meets sorts [] context (substitute v s n m) b t hs hw)
  value_goes_on context n r m (At q) d t hr hm e hw hs meets = absurd hw

  application : (context : SimpleContext) (n : ℕ) (r : Atomic) (m : Object) (d t : Simple) (h : Headed) → NoHeadMisfit v s n r → NoMisfit v s n m → replace_head (substitution v (action s)) n r ≡ h → HeadedFits MeetsNoMisfit sorts context h (Arrow d t) → HasSort sorts context (substitute v s n m) d → NoHeadMisfit v s n (App r m)
  application context n r m d t (Kept q) hr hm e f hs = head_kept hr hm e
  application context n r m d t (Replaced w a) hr hm e f hs = value_goes_on context n r m w d t hr hm (e ∙ ap (Replaced w) f.0) f.1 hs f.2.0

  substituted_head_fits : (after : SimpleContext) (r : Atomic) (t : Simple) → SynthesisesSort sorts (after ++ (s ∷ before)) r t → HeadedFits MeetsNoMisfit sorts (after ++ before) (replace_head (substitution v (action s)) (length after) r) t
  substituted_head_fits after r t h = replace_head_fits MeetsNoMisfit (λ u k. keeps_sorts u) (substitution v (action s)) sorts sorts itself itself_retypes (Substituting s before) (substituting_under s before) (substituted_fits MeetsNoMisfit sorts v s before sorted all) (λ n D D' c u p e. e) (length after) (after ++ (s ∷ before)) (after ++ before) r t (substituting s after before) h

  mutual
    meets_no_misfit : (after : SimpleContext) (m : Object) (t : Simple) → HasSort sorts (after ++ (s ∷ before)) m t → NoMisfit v s (length after) m
    meets_no_misfit after (Lam m) (Arrow d t) h = in_body (meets_no_misfit (d ∷ after) m t h)
    meets_no_misfit after (Lam m) (Base c) h = absurd h
    meets_no_misfit after (At r) (Arrow d t) h = absurd h
    meets_no_misfit after (At r) (Base c) h = in_atomic (meets_no_head_misfit after r (Base c) h)

    meets_no_head_misfit : (after : SimpleContext) (r : Atomic) (t : Simple) → SynthesisesSort sorts (after ++ (s ∷ before)) r t → NoHeadMisfit v s (length after) r
    meets_no_head_misfit after (Var i) t h = at_variable
    meets_no_head_misfit after (Con c) t h = at_constant
    meets_no_head_misfit after (App r m) t h = application (after ++ before) (length after) r m h.domain t (replace_head (substitution v (action s)) (length after) r) (meets_no_head_misfit after r (Arrow h.domain t) h.head_has) (meets_no_misfit after m h.domain h.argument_has) refl (substituted_head_fits after r (Arrow h.domain t) h.head_has) (keeps_sorts s sorts after before v m h.domain sorted h.argument_has)

no_misfit_step : (s : Simple) → AllDomains MeetsNoMisfit s → MeetsNoMisfit s
no_misfit_step s all sorts after before v m t sorted h = meets_no_misfit s all sorts before v sorted after m t h

pub no_misfit : (s : Simple) → MeetsNoMisfit s
no_misfit = by_domains MeetsNoMisfit no_misfit_step

module _ (sorts : Sorts) (before : SimpleContext) (v : Object) (s : Simple) (sorted : HasSort sorts before v s) where
  pub no_misfit_in_atomic_family : (after : SimpleContext) (p : AtomicFamily) → IsSortedAtomicFamily sorts (after ++ (s ∷ before)) p → NoMisfitInAtomicFamily v s (length after) p
  no_misfit_in_atomic_family after (FamilyCon c) h = tt
  no_misfit_in_atomic_family after (FamilyApp p m) h = (no_misfit_in_atomic_family after p h.0, no_misfit s sorts after before v m h.1.sort sorted h.1.has)

  pub no_misfit_in_family : (after : SimpleContext) (a : Family) → IsSortedFamily sorts (after ++ (s ∷ before)) a → NoMisfitInFamily v s (length after) a
  no_misfit_in_family after (Pi a b) h = (no_misfit_in_family after a h.0, no_misfit_in_family (erase a ∷ after) b h.1)
  no_misfit_in_family after (AtFamily p) h = no_misfit_in_atomic_family after p h
