-- Substitution and raising.
use Rattle.std.proofs.Common.{◌≡◌, ℕ, suc, ◌+◌, ◌≤◌, refl, sym, ap, ap₂, subst, ◌∙◌, ⊎_elim, arith}
use Rattle.lf_meaning.specs.Terms.{Object, Lam, At, Atomic, Var, Con, App, Simple, Base, Arrow}
use Rattle.lf_meaning.specs.Raising.{raised, raise, raise_atomic}
use Rattle.lf_meaning.specs.Replacement.{Action, Headed, Kept, Replaced, object_of, takes, raise_headed, Replacement, replace, replace_head, replace_headed}
use Rattle.lf_meaning.specs.Substitution.{substituted, substitution, action}
use Rattle.lf_substitution_laws.specs.Uniform.{HasType, IsUniform}
use Rattle.lf_substitution_laws.proofs.Indices.{raised_below, raised_above, raised_suc, raised_grows, raised_over, raised_stays, raised_suc_above, raised_over_depth, Position, below, at, above, position}
use Rattle.lf_substitution_laws.proofs.Raising.{raise_swap, raise_twice}
use Rattle.lf_substitution_laws.proofs.Replacing.{NaturalAction, NaturalHeaded, IsNatural, raise_replace}
use Rattle.lf_term_laws.proofs.Substituted.{substituted_below, substituted_at, substituted_above}

natural_substituted : (v : Object) (a : Action) → NaturalAction a → (n i : ℕ) → Position n i → NaturalHeaded (substituted v a n i)
natural_substituted v a h n i (below low) = subst NaturalHeaded (sym (substituted_below v a n i low)) tt
natural_substituted v a h n i at = subst NaturalHeaded (sym (substituted_at v a n)) h
natural_substituted v a h n i (above {i = j} high) = subst NaturalHeaded (sym (substituted_above v a n j high)) tt

pub natural_substitution : (v : Object) (a : Action) → NaturalAction a → IsNatural (substitution v a)
natural_substitution v a h = record { variable = λ n i. natural_substituted v a h n i (position n i); constant = λ c. tt }

-- raising from below the substituted variable's place outside: from `c` in the context of the value
record Outside (c n p q r : ℕ) : Type 0 where
  begins : p ≡ n + c
  same : q ≡ n
  behind : r ≡ suc p

outside_variable : (k c : ℕ) (v : Object) (a : Action) (n p q r i : ℕ) → Outside c n p q r → Position n i → raise_headed k p (substituted v a n i) ≡ substituted (raise k c v) a q (raised k r i)
outside_variable k c v a n p q r i o (below low) =
    let e : raised k r i ≡ i = raised_below k r i (omega (arith, o.begins, o.behind)) in
    let f : raised k p i ≡ i = raised_below k p i (omega (arith, o.begins)) in
    rw (substituted_below v a n i low, e, o.same, substituted_below (raise k c v) a n i low, f) refl
outside_variable k c v a n p q r i o at =
    let e : raised k r n ≡ n = raised_below k r n (omega (arith, o.begins, o.behind)) in
    rw (substituted_at v a n, e, o.same, substituted_at (raise k c v) a n) (ap (λ x. Replaced x a) (raise_swap n k 0 c p v (omega arith) (omega (arith, o.begins))))
outside_variable k c v a n p q r i o (above {i = j} high) =
    let e : raised k r (suc j) ≡ suc (raised k p j) = raised_suc k p r j o.behind in
    rw (substituted_above v a n j high, e, o.same, substituted_above (raise k c v) a n (raised k p j) (raised_grows k p j n high)) refl

-- raising above: `[V/t at n] M` raised from n + c is V raised from c, substituted into M raised
-- from n + c + 1
pub raise_above_substitution : (k c : ℕ) (v : Object) (a : Action) → NaturalAction a → (n p : ℕ) (m : Object) → p ≡ n + c → raise k p (replace (substitution v a) n m) ≡ replace (substitution (raise k c v) a) n (raise k (suc p) m)
raise_above_substitution k c v a h n p m e = raise_replace k (substitution v a) (substitution (raise k c v) a) (Outside c) (natural_substitution v a h) (λ n p q r o. record { begins = omega (arith, o.begins); same = ap suc o.same; behind = ap suc o.behind }) (λ n p q r i o. outside_variable k c v a n p q r i o (position n i)) (λ n p q r c o. refl) n p n (suc p) m (record { begins = e; same = refl; behind = refl })

-- what every simple type's values do with their arguments is natural
pub natural_action : (t : Simple) → NaturalAction (action t)
natural_action (Base c) = tt
natural_action (Arrow s t) = (λ k c v m. raise_above_substitution k c v (action s) (natural_action s) 0 c m (omega arith), natural_action t)

natural_typed : (h : Headed) → HasType h → NaturalHeaded h
natural_typed (Kept r) f = tt
natural_typed (Replaced v a) f = subst NaturalAction (sym f.1) (natural_action f.0)

pub natural_uniform : (by : Replacement) → IsUniform by → IsNatural by
natural_uniform by h = record { variable = λ n i. natural_typed (by.variable n i) (h.variable_typed n i); constant = λ c. natural_typed (by.constant c) (h.constant_typed c) }

record Within (k n p q r : ℕ) : Type 0 where
  low : p ≤ n
  grows : q ≡ n + k
  same : p ≡ r

within_under : (k n p q r : ℕ) → Within k n p q r → Within k (suc n) (suc p) (suc q) (suc r)
within_under k n p q r o = record { low = omega (arith, o.low); grows = omega (arith, o.grows); same = ap suc o.same }

module _ (by : Replacement) (uniform : IsUniform by) where
  within_variable : (k n p q r i : ℕ) → Within k n p q r → raise_headed k p (by.variable n i) ≡ by.variable q (raised k r i)
  within_variable k n p q r i o = uniform.deeper k n p q i o.low o.grows ∙ ap (λ x. by.variable q (raised k x i)) o.same

  -- raising below: from p, which is not above the depth
  pub raise_below_replacement : (k n p q : ℕ) (m : Object) → p ≤ n → q ≡ n + k → raise k p (replace by n m) ≡ replace by q (raise k p m)
  raise_below_replacement k n p q m low e = raise_replace k by by (Within k) (natural_uniform by uniform) (within_under k) (within_variable k) (λ n p q r c o. uniform.closed k p c) n p q p m (record { low = low; grows = e; same = refl })

deeper_substituted : (v : Object) (a : Action) (k n p q i : ℕ) → p ≤ n → q ≡ n + k → Position n i → raise_headed k p (substituted v a n i) ≡ substituted v a q (raised k p i)
deeper_substituted v a k n p q i low e (below h) =
    rw (substituted_below v a n i h, substituted_below v a q (raised k p i) (raised_stays k p n q i h e)) refl
deeper_substituted v a k n p q i low e at =
    let f : raised k p n ≡ q = raised_above k p n low ∙ sym e in
    rw (substituted_at v a n, f, substituted_at v a q) (ap (λ x. Replaced x a) (raise_twice n k 0 p v (omega arith) (omega arith) ∙ ap (λ x. raise x 0 v) (sym e)))
deeper_substituted v a k n p q i low e (above {i = j} h) =
    let f : raised k p (suc j) ≡ suc (raised k p j) = raised_suc_above k p j (omega arith) in
    let g : q ≤ raised k p j = raised_over_depth k p n q j low h e in
    rw (substituted_above v a n j h, f, substituted_above v a q (raised k p j) g) refl

typed_substituted : (v : Object) (t : Simple) (n i : ℕ) → Position n i → HasType (substituted v (action t) n i)
typed_substituted v t n i (below low) = subst HasType (sym (substituted_below v (action t) n i low)) tt
typed_substituted v t n i at = subst HasType (sym (substituted_at v (action t) n)) (t, refl)
typed_substituted v t n i (above {i = j} high) = subst HasType (sym (substituted_above v (action t) n j high)) tt

pub uniform_substitution : (v : Object) (t : Simple) → IsUniform (substitution v (action t))
uniform_substitution v t = record { variable_typed = λ n i. typed_substituted v t n i (position n i); constant_typed = λ c. tt; below_depth = substituted_below v (action t); deeper = λ k n p q i low e. deeper_substituted v (action t) k n p q i low e (position n i); closed = λ k p c. refl }

-- substitution into a term that was raised over the variable
module _ (v : Object) (a : Action) where
  over_variable : (k n p i : ℕ) → p ≤ n → n ≤ p + k → substituted v a n (raised (suc k) p i) ≡ Kept (Var (raised k p i))
  over_variable k n p i low high = ⊎_elim (λ h. rw (h.1, h.3) (substituted_below v a n i h.2)) (λ h. rw (h.1, h.3) (substituted_above v a n (i + k) h.2)) (raised_over k p n i low high)

  mutual
    pub substitute_raised : (k n p : ℕ) (m : Object) → p ≤ n → n ≤ p + k → replace (substitution v a) n (raise (suc k) p m) ≡ raise k p m
    substitute_raised k n p (Lam m) low high = ap Lam (substitute_raised k (suc n) (suc p) m (omega arith) (omega arith))
    substitute_raised k n p (At r) low high = ap object_of (substitute_raised_head k n p r low high)

    pub substitute_raised_head : (k n p : ℕ) (r : Atomic) → p ≤ n → n ≤ p + k → replace_head (substitution v a) n (raise_atomic (suc k) p r) ≡ Kept (raise_atomic k p r)
    substitute_raised_head k n p (Var i) low high = over_variable k n p i low high
    substitute_raised_head k n p (Con c) low high = refl
    substitute_raised_head k n p (App r m) low high = ap₂ takes (substitute_raised_head k n p r low high) (substitute_raised k n p m low high)

  pub substitute_raised_headed : (k n p : ℕ) (h : Headed) → p ≤ n → n ≤ p + k → replace_headed (substitution v a) n (raise_headed (suc k) p h) ≡ raise_headed k p h
  substitute_raised_headed k n p (Kept r) low high = substitute_raised_head k n p r low high
  substitute_raised_headed k n p (Replaced w b) low high = ap (λ x. Replaced x b) (substitute_raised k n p w low high)
