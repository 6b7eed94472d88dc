-- A replacement commutes with substitution; two substitutions commute.
use Rattle.std.proofs.Common.{◌≡◌, ℕ, suc, ◌+◌, [], ◌∷◌, ◌++◌, length, map, Some, refl, sym, ap, ap₂, subst, ◌∙◌, arith}
use Rattle.std.specs.Prelude.{slice_get}
use Rattle.lf_term_laws.proofs.Lookups.{length_map}
use Rattle.lf_meaning.specs.Terms.{Constant, Object, Lam, At, Atomic, Var, Con, App, Simple, Base, Arrow, SimpleContext}
use Rattle.lf_meaning.specs.Replacement.{Action, Headed, Kept, Replaced, object_of, value_takes, takes, raise_headed, Replacement, replace, replace_head, replace_headed}
use Rattle.lf_meaning.specs.Substitution.{substituted, substitution, action, substitute}
use Rattle.lf_meaning.specs.Sorts.{Sorts, HasSort, SynthesisesSort}
use Rattle.lf_substitution_laws.specs.Uniform.{IsUniform}
use Rattle.lf_substitution_laws.proofs.Indices.{raised_above, Position, below, at, above, position}
use Rattle.lf_substitution_laws.proofs.Raising.{raise_by_zero, raise_atomic_by_zero}
use Rattle.lf_term_laws.proofs.Substituted.{substituted_below, substituted_at, substituted_above}
use Rattle.lf_substitution_laws.proofs.Substituting.{raise_below_replacement, substitute_raised_headed}
use Rattle.lf_substitution_laws.proofs.Domains.{AllDomains, IsRetyping, retyped_action, itself, itself_retypes}
use Rattle.lf_substitution_laws.proofs.Sorting.{HeadedFits, keeps_sorts, replace_keeps_sort, replace_head_fits, Substituting, substituting, substituting_under, substituted_fits}

-- At depth p, over terms in the context D: the replacement passes through substitution at s for the
-- innermost variable.
abbrev pub PassesAt : Sorts → Replacement → ℕ → SimpleContext → Simple → Type 0
PassesAt sorts by p D s = (v m : Object) (t : Simple) → HasSort sorts D v s → HasSort sorts (s ∷ D) m t → replace by p (substitute v s 0 m) ≡ substitute (replace by p v) s 0 (replace by (suc p) m)

-- the same at each place of the replacement
abbrev pub Passes : Sorts → Replacement → (ℕ → SimpleContext → SimpleContext → Type 0) → Simple → Type 0
Passes sorts by Place s = (p : ℕ) (D D' : SimpleContext) → Place p D D' → PassesAt sorts by p D s

-- a substitution at u passes through substitution at s
abbrev pub SubstitutionPasses : Sorts → Simple → Simple → Type 0
SubstitutionPasses sorts u s = (outer : Object) (D : SimpleContext) → HasSort sorts D outer u → Passes sorts (substitution outer (action u)) (Substituting u D) s

pub replace_object_of : (by : Replacement) (p : ℕ) (h : Headed) → replace by p (object_of h) ≡ object_of (replace_headed by p h)
replace_object_of by p (Kept r) = refl
replace_object_of by p (Replaced v a) = refl

replace_value_takes : (P : Simple → Type 0) (sorts : Sorts) (by : Replacement) (p : ℕ) (D : SimpleContext) (v m : Object) (s t : Simple) → PassesAt sorts by p D s → HasSort sorts D v (Arrow s t) → HasSort sorts D m s → replace_headed by p (value_takes v (action (Arrow s t)) m) ≡ value_takes (replace by p v) (action (Arrow s t)) (replace by p m)
replace_value_takes P sorts by p D (Lam b) m s t passes h g = ap (λ x. Replaced x (action t)) (passes m b t g h)
replace_value_takes P sorts by p D (At r) m s t passes h g = absurd h

-- a replacement passes through a head that takes an argument
pub replace_takes : (P : Simple → Type 0) (sorts : Sorts) (by : Replacement) (p : ℕ) (D : SimpleContext) (h : Headed) (m : Object) (s t : Simple) → (P s → PassesAt sorts by p D s) → HeadedFits P sorts D h (Arrow s t) → HasSort sorts D m s → replace_headed by p (takes h m) ≡ takes (replace_headed by p h) (replace by p m)
replace_takes P sorts by p D (Kept r) m s t passes f g = refl
replace_takes P sorts by p D (Replaced v a) m s t passes f g =
    subst (λ b. replace_headed by p (value_takes v b m) ≡ value_takes (replace by p v) b (replace by p m)) (sym f.0) (replace_value_takes P sorts by p D v m s t (passes f.2.0) f.1 g)

-- a place further in
pub place_within : (re : Simple → Simple) (Place : ℕ → SimpleContext → SimpleContext → Type 0) → ((n : ℕ) (D D' : SimpleContext) (s : Simple) → Place n D D' → Place (suc n) (s ∷ D) (re s ∷ D')) → (after : SimpleContext) (k p : ℕ) (D D' : SimpleContext) → p ≡ k + length after → Place k D D' → Place p (after ++ D) (map re after ++ D')
place_within re Place under [] k p D D' e h = let f : k ≡ p = omega (arith, e) in subst (λ x. Place x D D') f h
place_within re Place under (s ∷ after) k p D D' e h =
    let f : suc (k + length after) ≡ p = omega (arith, e) in
    subst (λ x. Place x (s ∷ (after ++ D)) (re s ∷ (map re after ++ D'))) f (under (k + length after) (after ++ D) (map re after ++ D') s (place_within re Place under after k (k + length after) D D' refl h))

pub raise_headed_by_zero : (n : ℕ) (h : Headed) → raise_headed 0 n h ≡ h
raise_headed_by_zero n (Kept r) = ap Kept (raise_atomic_by_zero n r)
raise_headed_by_zero n (Replaced v a) = ap (λ w. Replaced w a) (raise_by_zero n v)

-- substitution for a variable over which a headed result was raised
substitute_lifted : (v : Object) (a : Action) (n : ℕ) (h : Headed) → replace_headed (substitution v a) n (raise_headed 1 n h) ≡ h
substitute_lifted v a n h = substitute_raised_headed v a 0 n n h (omega arith) (omega arith) ∙ raise_headed_by_zero n h

-- the two orders at a variable
commute_variable : (by : Replacement) → IsUniform by → (inner : Object) (a : Action) (k n p i : ℕ) → p ≡ k + n → Position n i → replace_headed by p (substituted inner a n i) ≡ replace_headed (substitution (replace by k inner) a) n (by.variable (suc p) i)
commute_variable by uniform inner a k n p i e (below h) =
    ap (replace_headed by p) (substituted_below inner a n i h) ∙ uniform.below_depth p i (omega (arith, e, h)) ∙ sym (ap (replace_headed (substitution (replace by k inner) a) n) (uniform.below_depth (suc p) i (omega (arith, e, h))) ∙ substituted_below (replace by k inner) a n i h)
commute_variable by uniform inner a k n p i e at =
    ap (replace_headed by p) (substituted_at inner a n) ∙ ap (λ x. Replaced x a) (sym (raise_below_replacement by uniform n k 0 p inner (omega arith) e)) ∙ sym (ap (replace_headed (substitution (replace by k inner) a) n) (uniform.below_depth (suc p) n (omega (arith, e))) ∙ substituted_at (replace by k inner) a n)
commute_variable by uniform inner a k n p i e (above {i = j} h) =
    let lifted : raise_headed 1 n (by.variable p j) ≡ by.variable (suc p) (suc j) = uniform.deeper 1 p n (suc p) j (omega (arith, e)) (omega arith) ∙ ap (by.variable (suc p)) (raised_above 1 n j h ∙ omega arith) in
    ap (replace_headed by p) (substituted_above inner a n j h) ∙ sym (ap (replace_headed (substitution (replace by k inner) a) n) (sym lifted) ∙ substitute_lifted (replace by k inner) a n (by.variable p j))

-- the two orders at a constant
commute_constant : (by : Replacement) → IsUniform by → (v : Object) (a : Action) (n : ℕ) (c : Constant) → by.constant c ≡ replace_headed (substitution v a) n (by.constant c)
commute_constant by uniform v a n c = sym (ap (replace_headed (substitution v a) n) (sym (uniform.closed 1 n c)) ∙ substitute_lifted v a n (by.constant c))

-- A replacement commutes with substitution at u, where it passes through substitution at the
-- domains of u, and substitution at u passes through substitution at the domains of the types of
-- what it puts in.
module _ (sorts sorts' : Sorts) (by : Replacement) (uniform : IsUniform by) (re : Simple → Simple) (retypes : IsRetyping re) (Place : ℕ → SimpleContext → SimpleContext → Type 0) (under : (n : ℕ) (D D' : SimpleContext) (s : Simple) → Place n D D' → Place (suc n) (s ∷ D) (re s ∷ D')) (u : Simple) (variables : (n : ℕ) (D D' : SimpleContext) (i : ℕ) (t : Simple) → Place n D D' → slice_get D i ≡ Some t → HeadedFits (SubstitutionPasses sorts' (re u)) sorts' D' (by.variable n i) (re t)) (constants : (n : ℕ) (D D' : SimpleContext) (c : Constant) (t : Simple) → Place n D D' → sorts c ≡ Some t → HeadedFits (SubstitutionPasses sorts' (re u)) sorts' D' (by.constant c) (re t)) (passes : AllDomains (Passes sorts by Place) u) (k : ℕ) (D D' : SimpleContext) (place : Place k D D') (inner : Object) (sorted : HasSort sorts D inner u) where
  replaced_sorted : HasSort sorts' D' (replace by k inner) (re u)
  replaced_sorted = replace_keeps_sort (SubstitutionPasses sorts' (re u)) (λ s h. keeps_sorts s) by sorts sorts' re retypes Place under variables constants k D D' inner u place sorted

  first_head_fits : (after : SimpleContext) (r : Atomic) (t : Simple) → SynthesisesSort sorts (after ++ (u ∷ D)) r t → HeadedFits (Passes sorts by Place) sorts (after ++ D) (replace_head (substitution inner (action u)) (length after) r) t
  first_head_fits after r t h = replace_head_fits (Passes sorts by Place) (λ s q. keeps_sorts s) (substitution inner (action u)) sorts sorts itself itself_retypes (Substituting u D) (substituting_under u D) (substituted_fits (Passes sorts by Place) sorts inner u D sorted passes) (λ n E E' c s q f. f) (length after) (after ++ (u ∷ D)) (after ++ D) r t (substituting u after D) h

  inside_place : (after : SimpleContext) (p : ℕ) → p ≡ k + length after → Place (suc p) (after ++ (u ∷ D)) (map re after ++ (re u ∷ D'))
  inside_place after p e = place_within re Place under after (suc k) (suc p) (u ∷ D) (re u ∷ D') (omega (arith, e)) (under k D D' u place)

  second_head_fits : (after : SimpleContext) (p : ℕ) (r : Atomic) (t : Simple) → p ≡ k + length after → SynthesisesSort sorts (after ++ (u ∷ D)) r t → HeadedFits (SubstitutionPasses sorts' (re u)) sorts' (map re after ++ (re u ∷ D')) (replace_head by (suc p) r) (re t)
  second_head_fits after p r t e h = replace_head_fits (SubstitutionPasses sorts' (re u)) (λ s q. keeps_sorts s) by sorts sorts' re retypes Place under variables constants (suc p) (after ++ (u ∷ D)) (map re after ++ (re u ∷ D')) r t (inside_place after p e) h

  second_argument_has : (after : SimpleContext) (p : ℕ) (m : Object) (t : Simple) → p ≡ k + length after → HasSort sorts (after ++ (u ∷ D)) m t → HasSort sorts' (map re after ++ (re u ∷ D')) (replace by (suc p) m) (re t)
  second_argument_has after p m t e h = replace_keeps_sort (SubstitutionPasses sorts' (re u)) (λ s q. keeps_sorts s) by sorts sorts' re retypes Place under variables constants (suc p) (after ++ (u ∷ D)) (map re after ++ (re u ∷ D')) m t (inside_place after p e) h

  -- the replacement that comes second in the other order
  abbrev outside : Replacement
  outside = substitution (replace by k inner) (action (re u))

  -- it passes through a head that takes an argument
  outside_takes : (after : SimpleContext) (p : ℕ) (r : Atomic) (m : Object) (s t : Simple) → p ≡ k + length after → SynthesisesSort sorts (after ++ (u ∷ D)) r (Arrow s t) → HasSort sorts (after ++ (u ∷ D)) m s → replace_headed outside (length after) (takes (replace_head by (suc p) r) (replace by (suc p) m)) ≡ takes (replace_headed outside (length after) (replace_head by (suc p) r)) (replace outside (length after) (replace by (suc p) m))
  outside_takes after p r m s t e hr hm =
      let head_fits : HeadedFits (SubstitutionPasses sorts' (re u)) sorts' (map re after ++ (re u ∷ D')) (replace_head by (suc p) r) (Arrow (re s) (re t)) = subst (HeadedFits (SubstitutionPasses sorts' (re u)) sorts' (map re after ++ (re u ∷ D')) (replace_head by (suc p) r)) (retypes.arrow s t) (second_head_fits after p r (Arrow s t) e hr) in
      let place_here : Substituting (re u) D' (length after) (map re after ++ (re u ∷ D')) (map re after ++ D') = record { after = map re after; depth = sym (length_map re after); from = refl; to = refl } in
      replace_takes (SubstitutionPasses sorts' (re u)) sorts' outside (length after) (map re after ++ (re u ∷ D')) (replace_head by (suc p) r) (replace by (suc p) m) (re s) (re t) (λ q. q (replace by k inner) D' replaced_sorted (length after) (map re after ++ (re u ∷ D')) (map re after ++ D') place_here) head_fits (second_argument_has after p m s e hm)

  commute_application : (after : SimpleContext) (p : ℕ) (r : Atomic) (m : Object) (s t : Simple) → p ≡ k + length after → SynthesisesSort sorts (after ++ (u ∷ D)) r (Arrow s t) → HasSort sorts (after ++ (u ∷ D)) m s → replace_headed by p (replace_head (substitution inner (action u)) (length after) r) ≡ replace_headed outside (length after) (replace_head by (suc p) r) → replace by p (substitute inner u (length after) m) ≡ replace outside (length after) (replace by (suc p) m) → replace_headed by p (replace_head (substitution inner (action u)) (length after) (App r m)) ≡ replace_headed outside (length after) (replace_head by (suc p) (App r m))
  commute_application after p r m s t e hr hm same_head same_argument =
      let first : Headed = replace_head (substitution inner (action u)) (length after) r in
      let left : replace_headed by p (takes first (substitute inner u (length after) m)) ≡ takes (replace_headed by p first) (replace by p (substitute inner u (length after) m)) = replace_takes (Passes sorts by Place) sorts by p (after ++ D) first (substitute inner u (length after) m) s t (λ q. q p (after ++ D) (map re after ++ D') (place_within re Place under after k p D D' e place)) (first_head_fits after r (Arrow s t) hr) (keeps_sorts u sorts after D inner m s sorted hm) in
      left ∙ ap₂ takes same_head same_argument ∙ sym (outside_takes after p r m s t e hr hm)

  mutual
    pub commute_object : (after : SimpleContext) (p : ℕ) (m : Object) (t : Simple) → p ≡ k + length after → HasSort sorts (after ++ (u ∷ D)) m t → replace by p (substitute inner u (length after) m) ≡ substitute (replace by k inner) (re u) (length after) (replace by (suc p) m)
    commute_object after p (Lam m) (Arrow s t) e h = ap Lam (commute_object (s ∷ after) (suc p) m t (omega (arith, e)) h)
    commute_object after p (Lam m) (Base c) e h = absurd h
    commute_object after p (At r) (Arrow s t) e h = absurd h
    commute_object after p (At r) (Base c) e h =
        replace_object_of by p (replace_head (substitution inner (action u)) (length after) r) ∙ ap object_of (commute_head after p r (Base c) e h) ∙ sym (replace_object_of outside (length after) (replace_head by (suc p) r))

    pub commute_head : (after : SimpleContext) (p : ℕ) (r : Atomic) (t : Simple) → p ≡ k + length after → SynthesisesSort sorts (after ++ (u ∷ D)) r t → replace_headed by p (replace_head (substitution inner (action u)) (length after) r) ≡ replace_headed outside (length after) (replace_head by (suc p) r)
    commute_head after p (Var i) t e h = commute_variable by uniform inner (action u) k (length after) p i e (position (length after) i) ∙ ap (λ a. replace_headed (substitution (replace by k inner) a) (length after) (by.variable (suc p) i)) (sym (retyped_action re retypes u))
    commute_head after p (Con c) t e h = commute_constant by uniform (replace by k inner) (action (re u)) (length after) c
    commute_head after p (App r m) t e h =
        commute_application after p r m h.domain t e h.head_has h.argument_has (commute_head after p r (Arrow h.domain t) e h.head_has) (commute_object after p m h.domain e h.argument_has)
