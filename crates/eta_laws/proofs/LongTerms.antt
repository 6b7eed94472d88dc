-- Raising and replacement pass through a long form to the atomic object.
use Rattle.std.proofs.Common.{◌≡◌, ℕ, suc, ◌+◌, ◌≤◌, [], ◌∷◌, refl, sym, ap, ap₂, ◌∙◌, arith}
use Rattle.lf_meaning.specs.Terms.{Object, Lam, Atomic, Var, App, Simple, Base, Arrow, SimpleContext}
use Rattle.lf_meaning.specs.Raising.{raised, raise, raise_atomic}
use Rattle.lf_meaning.specs.Replacement.{Kept, object_of, takes, raise_headed, Replacement, replace, replace_head}
use Rattle.lf_meaning.specs.Substitution.{substitution, action, substitute}
use Rattle.lf_meaning.specs.Sorts.{Sorts, HasSort, SynthesisesSort}
use Rattle.lf_substitution_laws.specs.Uniform.{IsUniform}
use Rattle.lf_substitution_laws.proofs.Domains.{IsRetyping}
use Rattle.lf_substitution_laws.proofs.Indices.{raised_below, raised_above}
use Rattle.lf_substitution_laws.proofs.Raising.{raise_atomic_swap}
use Rattle.lf_substitution_laws.proofs.Replacing.{raise_replace_head}
use Rattle.lf_substitution_laws.proofs.Sorting.{raise_keeps_atomic_sort}
use Rattle.lf_substitution_laws.proofs.Substituting.{natural_uniform, uniform_substitution}
use Rattle.eta_meaning.specs.LongTerms.{eta}

pub raise_eta : (k n : ℕ) (t : Simple) (r : Atomic) → raise k n (eta t r) ≡ eta t (raise_atomic k n r)
raise_eta k n (Base c) r = refl
raise_eta k n (Arrow s t) r =
    let head : raise_atomic k (suc n) (raise_atomic 1 0 r) ≡ raise_atomic 1 0 (raise_atomic k n r) = raise_atomic_swap 1 k 0 n (suc n) r (omega arith) (omega arith) in
    let variable : raise k (suc n) (eta s (Var 0)) ≡ eta s (Var 0) = raise_eta k (suc n) s (Var 0) ∙ ap (λ i. eta s (Var i)) (raised_below k (suc n) 0 (omega arith)) in
    ap Lam (raise_eta k (suc n) t (App (raise_atomic 1 0 r) (eta s (Var 0))) ∙ ap (eta t) (ap₂ App head variable))

-- a variable of the λs that a raising passes stays, and the innermost one becomes the one that it is raised to
pub raise_own_variable : (k n : ℕ) (t : Simple) → raise k (suc n) (eta t (Var 0)) ≡ eta t (Var 0)
raise_own_variable k n t = raise_eta k (suc n) t (Var 0) ∙ ap (λ i. eta t (Var i)) (raised_below k (suc n) 0 (omega arith))

pub raise_free_variable : (k : ℕ) (t : Simple) → raise k 0 (eta t (Var 0)) ≡ eta t (Var k)
raise_free_variable k t =
    let same : raised k 0 0 ≡ k = raised_above k 0 0 (omega arith) ∙ omega arith in
    raise_eta k 0 t (Var 0) ∙ ap (λ i. eta t (Var i)) same

pub eta_sort : (sorts : Sorts) (context : SimpleContext) (t : Simple) (r : Atomic) → SynthesisesSort sorts context r t → HasSort sorts context (eta t r) t
eta_sort sorts context (Base c) r h = h
eta_sort sorts context (Arrow s t) r h =
    let head : SynthesisesSort sorts (s ∷ context) (raise_atomic 1 0 r) (Arrow s t) = raise_keeps_atomic_sort sorts [] (s ∷ []) context r (Arrow s t) h in
    eta_sort sorts (s ∷ context) t (App (raise_atomic 1 0 r) (eta s (Var 0))) (record { domain = s; head_has = head; argument_has = eta_sort sorts (s ∷ context) s (Var 0) refl })

-- a long form depends on the arrows alone
pub eta_retyped : (re : Simple → Simple) → IsRetyping re → (t : Simple) (r : Atomic) → eta (re t) r ≡ eta t r
eta_retyped re retypes (Base c) r = ap (λ t. eta t r) ((retypes.base c).1)
eta_retyped re retypes (Arrow s t) r =
    let domain : eta (re s) (Var 0) ≡ eta s (Var 0) = eta_retyped re retypes s (Var 0) in
    ap (λ u. eta u r) (retypes.arrow s t) ∙ ap Lam (ap (λ m. eta (re t) (App (raise_atomic 1 0 r) m)) domain ∙ eta_retyped re retypes t (App (raise_atomic 1 0 r) (eta s (Var 0))))

-- one binder further in: n and q are the binders passed before and after, and p is where the raising begins
record OneFurther (n p q r : ℕ) : Type 0 where
  within : p ≤ n
  grows : q ≡ n + 1
  same : p ≡ r

module _ (by : Replacement) (uniform : IsUniform by) where
  variable_further : (n p q r i : ℕ) → OneFurther n p q r → raise_headed 1 p (by.variable n i) ≡ by.variable q (raised 1 r i)
  variable_further n p q r i o = uniform.deeper 1 n p q i o.within o.grows ∙ ap (λ x. by.variable q (raised 1 x i)) o.same

  -- what stands in place of a head, one binder further in
  pub replace_raised_head : (n : ℕ) (r : Atomic) → replace_head by (suc n) (raise_atomic 1 0 r) ≡ raise_headed 1 0 (replace_head by n r)
  replace_raised_head n r = sym (raise_replace_head 1 by by OneFurther (natural_uniform by uniform) (λ n p q r o. record { within = omega (arith, o.within); grows = omega (arith, o.grows); same = ap suc o.same }) variable_further (λ n p q r c o. uniform.closed 1 p c) n 0 (suc n) 0 r (record { within = omega arith; grows = omega arith; same = refl }))

  -- A replacement that keeps an atomic object passes through its long form.
  pub replace_kept_eta : (t : Simple) (n : ℕ) (r kept : Atomic) → replace_head by n r ≡ Kept kept → replace by n (eta t r) ≡ eta t kept
  replace_kept_eta (Base c) n r kept e = ap object_of e
  replace_kept_eta (Arrow s t) n r kept e =
      let head : replace_head by (suc n) (raise_atomic 1 0 r) ≡ Kept (raise_atomic 1 0 kept) = replace_raised_head n r ∙ ap (raise_headed 1 0) e in
      let variable : replace by (suc n) (eta s (Var 0)) ≡ eta s (Var 0) = replace_kept_eta s (suc n) (Var 0) (Var 0) (uniform.below_depth (suc n) 0 (omega arith)) in
      ap Lam (replace_kept_eta t (suc n) (App (raise_atomic 1 0 r) (eta s (Var 0))) (App (raise_atomic 1 0 kept) (eta s (Var 0))) (ap₂ takes head variable))

  -- the long form of the variable of a binder that it passed stays
  pub replace_own_variable : (t : Simple) (n : ℕ) → replace by (suc n) (eta t (Var 0)) ≡ eta t (Var 0)
  replace_own_variable t n = replace_kept_eta t (suc n) (Var 0) (Var 0) (uniform.below_depth (suc n) 0 (omega arith))

pub substitute_kept_eta : (v : Object) (u : Simple) (n : ℕ) (t : Simple) (r kept : Atomic) → replace_head (substitution v (action u)) n r ≡ Kept kept → substitute v u n (eta t r) ≡ eta t kept
substitute_kept_eta v u n t r kept = replace_kept_eta (substitution v (action u)) (uniform_substitution v u) t n r kept

pub substitute_own_variable : (v : Object) (u : Simple) (n : ℕ) (t : Simple) → substitute v u (suc n) (eta t (Var 0)) ≡ eta t (Var 0)
substitute_own_variable v u n t = replace_own_variable (substitution v (action u)) (uniform_substitution v u) t n
