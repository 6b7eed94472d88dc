-- Substitutions commute at all simple types, and with them every well-sorted replacement.
use Rattle.std.proofs.Common.{◌≡◌, ℕ, suc, ◌+◌, [], ◌∷◌, ◌++◌, length, Some, refl, ap, ap₂, ◌∙◌, arith}
use Rattle.std.specs.Prelude.{slice_get}
use Rattle.lf_meaning.specs.Terms.{Constant, Object, Family, Pi, AtFamily, AtomicFamily, FamilyCon, FamilyApp, Kind, Ty, PiKind, Simple, SimpleContext}
use Rattle.lf_meaning.specs.Raising.{map_family, map_atomic_family, map_kind}
use Rattle.lf_meaning.specs.Erasure.{erase}
use Rattle.lf_meaning.specs.Replacement.{Headed, Kept, Replaced, Replacement, replace}
use Rattle.lf_meaning.specs.Substitution.{substituted, substitution, action, substitute, substitute_family, substitute_atomic_family, substitute_kind}
use Rattle.lf_meaning.specs.Sorts.{Sorts, HasSort, IsSortedAtomicFamily, IsSortedFamily, IsSortedKind}
use Rattle.lf_substitution_laws.specs.Uniform.{IsUniform, HeadedHasSort}
use Rattle.lf_substitution_laws.proofs.Substituting.{uniform_substitution}
use Rattle.lf_substitution_laws.proofs.Domains.{AllDomains, by_domains, everywhere, map_domains, IsRetyping, retyped_action, itself, itself_retypes}
use Rattle.lf_substitution_laws.proofs.Sorting.{HeadedFits, Substituting, substituting, substituting_under, substituted_fits, keeps_sorts, replace_keeps_sort}
use Rattle.lf_substitution_laws.proofs.Commuting.{Passes, SubstitutionPasses, commute_object}

passes_step : (sorts : Sorts) (t u : Simple) → AllDomains (SubstitutionPasses sorts t) u → AllDomains (SubstitutionPasses sorts u) t → SubstitutionPasses sorts t u
passes_step sorts t u at_inner at_outer outer before sorted p D D' place v m s hv hm =
    commute_object sorts sorts (substitution outer (action t)) (uniform_substitution outer t) itself itself_retypes (Substituting t before) (substituting_under t before) u (substituted_fits (SubstitutionPasses sorts u) sorts outer t before sorted at_outer) (λ n E E' c r q f. f) (map_domains (SubstitutionPasses sorts t) (Passes sorts (substitution outer (action t)) (Substituting t before)) (λ r q. q outer before sorted) u at_inner) p D D' place v hv [] p m s (omega arith) hm

-- two simple types at which substitutions commute, whichever of them is substituted first
BothPass : Sorts → Simple → Simple → Type 0
BothPass sorts t u = SubstitutionPasses sorts t u × SubstitutionPasses sorts u t

both_inner : (sorts : Sorts) (t : Simple) → AllDomains (λ s. (u : Simple) → BothPass sorts s u) t → (u : Simple) → AllDomains (BothPass sorts t) u → BothPass sorts t u
unfolding BothPass
both_inner sorts t smaller u smaller_inner = (
  passes_step sorts t u (map_domains (BothPass sorts t) (SubstitutionPasses sorts t) (λ s q. q.0) u smaller_inner) (map_domains (λ s. (u : Simple) → BothPass sorts s u) (SubstitutionPasses sorts u) (λ s q. (q u).1) t smaller),
  passes_step sorts u t (map_domains (λ s. (u : Simple) → BothPass sorts s u) (SubstitutionPasses sorts u) (λ s q. (q u).1) t smaller) (map_domains (BothPass sorts t) (SubstitutionPasses sorts t) (λ s q. q.0) u smaller_inner),
)

both_pass : (sorts : Sorts) (t u : Simple) → BothPass sorts t u
both_pass sorts = by_domains (λ s. (u : Simple) → BothPass sorts s u) (λ t smaller. by_domains (BothPass sorts t) (both_inner sorts t smaller))

pub substitution_passes : (sorts : Sorts) (t u : Simple) → SubstitutionPasses sorts t u
unfolding BothPass
substitution_passes sorts t u = (both_pass sorts t u).0

-- a headed result that fits a simple type, with nothing said of the type's domains
abbrev pub Anything : Simple → Type 0
Anything s = Unit {0}

pub fits_with : (P : Simple → Type 0) → ((s : Simple) → P s) → (sorts : Sorts) (D : SimpleContext) (h : Headed) (t : Simple) → HeadedHasSort sorts D h t → HeadedFits P sorts D h t
fits_with P all sorts D (Kept r) t f = f
fits_with P all sorts D (Replaced v a) t f = (f.0, f.1, everywhere P all t)

pub fits_sort : (sorts : Sorts) (D : SimpleContext) (h : Headed) (t : Simple) → HeadedFits Anything sorts D h t → HeadedHasSort sorts D h t
fits_sort sorts D (Kept r) t f = f
fits_sort sorts D (Replaced v a) t f = (f.0, f.1)

-- A uniform replacement whose variables and constants have their sorts, up to a function on simple
-- types that keeps arrows, commutes with substitution.
module _ (sorts sorts' : Sorts) (by : Replacement) (uniform : IsUniform by) (re : Simple → Simple) (retypes : IsRetyping re) (Place : ℕ → SimpleContext → SimpleContext → Type 0) (under : (n : ℕ) (D D' : SimpleContext) (s : Simple) → Place n D D' → Place (suc n) (s ∷ D) (re s ∷ D')) (variables : (n : ℕ) (D D' : SimpleContext) (i : ℕ) (t : Simple) → Place n D D' → slice_get D i ≡ Some t → HeadedHasSort sorts' D' (by.variable n i) (re t)) (constants : (n : ℕ) (D D' : SimpleContext) (c : Constant) (t : Simple) → Place n D D' → sorts c ≡ Some t → HeadedHasSort sorts' D' (by.constant c) (re t)) where
  strong_variables : (u : Simple) (n : ℕ) (D D' : SimpleContext) (i : ℕ) (t : Simple) → Place n D D' → slice_get D i ≡ Some t → HeadedFits (SubstitutionPasses sorts' (re u)) sorts' D' (by.variable n i) (re t)
  strong_variables u n D D' i t p e = fits_with (SubstitutionPasses sorts' (re u)) (substitution_passes sorts' (re u)) sorts' D' (by.variable n i) (re t) (variables n D D' i t p e)

  strong_constants : (u : Simple) (n : ℕ) (D D' : SimpleContext) (c : Constant) (t : Simple) → Place n D D' → sorts c ≡ Some t → HeadedFits (SubstitutionPasses sorts' (re u)) sorts' D' (by.constant c) (re t)
  strong_constants u n D D' c t p e = fits_with (SubstitutionPasses sorts' (re u)) (substitution_passes sorts' (re u)) sorts' D' (by.constant c) (re t) (constants n D D' c t p e)

  pub sorted_replacement : (n : ℕ) (D D' : SimpleContext) (m : Object) (t : Simple) → Place n D D' → HasSort sorts D m t → HasSort sorts' D' (replace by n m) (re t)
  sorted_replacement = replace_keeps_sort Anything (λ s h. keeps_sorts s) by sorts sorts' re retypes Place under (λ n D D' i t p e. fits_with Anything (λ s. tt) sorts' D' (by.variable n i) (re t) (variables n D D' i t p e)) (λ n D D' c t p e. fits_with Anything (λ s. tt) sorts' D' (by.constant c) (re t) (constants n D D' c t p e))

  retyped_substitute : (v : Object) (u : Simple) (n : ℕ) (m : Object) → substitute v (re u) n m ≡ substitute v u n m
  retyped_substitute v u n m = ap (λ a. replace (substitution v a) n m) (retyped_action re retypes u)

  replacement_passes_step : (u : Simple) → AllDomains (Passes sorts by Place) u → Passes sorts by Place u
  replacement_passes_step u smaller p D D' place v m s hv hm =
      commute_object sorts sorts' by uniform re retypes Place under u (strong_variables u) (strong_constants u) smaller p D D' place v hv [] p m s (omega arith) hm ∙ retyped_substitute (replace by p v) u 0 (replace by (suc p) m)

  pub replacement_passes : (u : Simple) → Passes sorts by Place u
  replacement_passes = by_domains (Passes sorts by Place) replacement_passes_step

  module _ (k : ℕ) (D D' : SimpleContext) (place : Place k D D') (u : Simple) (inner : Object) (sorted : HasSort sorts D inner u) where
    pub replacement_commutes : (after : SimpleContext) (p : ℕ) (m : Object) (t : Simple) → p ≡ k + length after → HasSort sorts (after ++ (u ∷ D)) m t → replace by p (substitute inner u (length after) m) ≡ substitute (replace by k inner) (re u) (length after) (replace by (suc p) m)
    replacement_commutes = commute_object sorts sorts' by uniform re retypes Place under u (strong_variables u) (strong_constants u) (everywhere (Passes sorts by Place) replacement_passes u) k D D' place inner sorted

    pub replacement_commutes_atomic_family : (after : SimpleContext) (p : ℕ) (q : AtomicFamily) → p ≡ k + length after → IsSortedAtomicFamily sorts (after ++ (u ∷ D)) q → map_atomic_family (replace by) p (substitute_atomic_family inner u (length after) q) ≡ substitute_atomic_family (replace by k inner) (re u) (length after) (map_atomic_family (replace by) (suc p) q)
    replacement_commutes_atomic_family after p (FamilyCon c) e h = refl
    replacement_commutes_atomic_family after p (FamilyApp q m) e h = ap₂ FamilyApp (replacement_commutes_atomic_family after p q e h.0) (replacement_commutes after p m h.1.sort e h.1.has)

    pub replacement_commutes_family : (after : SimpleContext) (p : ℕ) (a : Family) → p ≡ k + length after → IsSortedFamily sorts (after ++ (u ∷ D)) a → map_family (replace by) p (substitute_family inner u (length after) a) ≡ substitute_family (replace by k inner) (re u) (length after) (map_family (replace by) (suc p) a)
    replacement_commutes_family after p (Pi a b) e h = ap₂ Pi (replacement_commutes_family after p a e h.0) (replacement_commutes_family (erase a ∷ after) (suc p) b (omega (arith, e)) h.1)
    replacement_commutes_family after p (AtFamily q) e h = ap AtFamily (replacement_commutes_atomic_family after p q e h)

    pub replacement_commutes_kind : (after : SimpleContext) (p : ℕ) (c : Kind) → p ≡ k + length after → IsSortedKind sorts (after ++ (u ∷ D)) c → map_kind (replace by) p (substitute_kind inner u (length after) c) ≡ substitute_kind (replace by k inner) (re u) (length after) (map_kind (replace by) (suc p) c)
    replacement_commutes_kind after p Ty e h = refl
    replacement_commutes_kind after p (PiKind a c) e h = ap₂ PiKind (replacement_commutes_family after p a e h.0) (replacement_commutes_kind (erase a ∷ after) (suc p) c (omega (arith, e)) h.1)

substituted_has_sort : (sorts : Sorts) (v : Object) (s : Simple) (before : SimpleContext) → HasSort sorts before v s → (n : ℕ) (D D' : SimpleContext) (i : ℕ) (t : Simple) → Substituting s before n D D' → slice_get D i ≡ Some t → HeadedHasSort sorts D' (substituted v (action s) n i) t
substituted_has_sort sorts v s before h n D D' i t p e = fits_sort sorts D' (substituted v (action s) n i) t (substituted_fits Anything sorts v s before h (everywhere Anything (λ r. tt) s) n D D' i t p e)

-- Substitutions commute, at any depth: `inner` in the context between ++ x ∷ D, and `outer` in D.
module _ (sorts : Sorts) (between before : SimpleContext) (outer : Object) (t : Simple) (inner : Object) (u : Simple) (outer_sorted : HasSort sorts before outer t) (inner_sorted : HasSort sorts (between ++ (t ∷ before)) inner u) where
  pub substitutions_commute : (after : SimpleContext) (p : ℕ) (m : Object) (s : Simple) → p ≡ length between + length after → HasSort sorts (after ++ (u ∷ (between ++ (t ∷ before)))) m s → substitute outer t p (substitute inner u (length after) m) ≡ substitute (substitute outer t (length between) inner) u (length after) (substitute outer t (suc p) m)
  substitutions_commute = replacement_commutes sorts sorts (substitution outer (action t)) (uniform_substitution outer t) itself itself_retypes (Substituting t before) (substituting_under t before) (substituted_has_sort sorts outer t before outer_sorted) (λ n E E' c r q f. f) (length between) (between ++ (t ∷ before)) (between ++ before) (substituting t between before) u inner inner_sorted

  pub substitutions_commute_family : (after : SimpleContext) (p : ℕ) (a : Family) → p ≡ length between + length after → IsSortedFamily sorts (after ++ (u ∷ (between ++ (t ∷ before)))) a → substitute_family outer t p (substitute_family inner u (length after) a) ≡ substitute_family (substitute outer t (length between) inner) u (length after) (substitute_family outer t (suc p) a)
  substitutions_commute_family = replacement_commutes_family sorts sorts (substitution outer (action t)) (uniform_substitution outer t) itself itself_retypes (Substituting t before) (substituting_under t before) (substituted_has_sort sorts outer t before outer_sorted) (λ n E E' c r q f. f) (length between) (between ++ (t ∷ before)) (between ++ before) (substituting t between before) u inner inner_sorted

  pub substitutions_commute_kind : (after : SimpleContext) (p : ℕ) (k : Kind) → p ≡ length between + length after → IsSortedKind sorts (after ++ (u ∷ (between ++ (t ∷ before)))) k → substitute_kind outer t p (substitute_kind inner u (length after) k) ≡ substitute_kind (substitute outer t (length between) inner) u (length after) (substitute_kind outer t (suc p) k)
  substitutions_commute_kind = replacement_commutes_kind sorts sorts (substitution outer (action t)) (uniform_substitution outer t) itself itself_retypes (Substituting t before) (substituting_under t before) (substituted_has_sort sorts outer t before outer_sorted) (λ n E E' c r q f. f) (length between) (between ++ (t ∷ before)) (between ++ before) (substituting t between before) u inner inner_sorted
