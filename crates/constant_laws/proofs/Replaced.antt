-- Raising, replacement and substitution bring no other constants and variables.
use Rattle.std.proofs.Common.{◌≡◌, ℕ, suc, ◌+◌, ◌<◌, refl, sym, ap, subst, arith}
use Rattle.std.specs.Prelude.{⊤}
use Rattle.lf_meaning.specs.Terms.{Constant, Object, Lam, At, Atomic, Var, Con, App, Family, Pi, AtFamily, AtomicFamily, FamilyCon, FamilyApp, Kind, Ty, PiKind, Simple, Base, Arrow, family_argument_count}
use Rattle.lf_meaning.specs.Erasure.{head_constant}
use Rattle.lf_meaning.specs.Raising.{raised, raise, raise_atomic, map_family, map_atomic_family, map_kind}
use Rattle.lf_meaning.specs.Replacement.{Action, Stay, Step, Headed, Kept, Replaced, object_of, value_takes, takes, Replacement, replace, replace_head}
use Rattle.lf_meaning.specs.Substitution.{substituted, substitution, action, substitute, app}
use Rattle.lf_meaning.specs.Signatures.{Signature}
use Rattle.lf_term_laws.proofs.Substituted.{substituted_below, substituted_at, substituted_above}
use Rattle.lf_substitution_laws.proofs.Indices.{Position, below, at, above, position, raised_below, raised_above}
use Rattle.lf_substitution_laws.proofs.Families.{head_constant_map}
use Rattle.library_meaning.specs.Holding.{IsObjectConstant, IsFamilyConstant, ObjectHolds, AtomicHolds, ArgumentsHold, FamilyHolds, KindHolds}

raised_within : (k n i v w : ℕ) → i < v → w ≡ v + k → raised k n i < w
raised_within k n i v w l e = by (position n i) l
  where
    by : {j : ℕ} → Position n j → j < v → raised k n j < w
    by (below {i = j} h) l = subst (λ z. z < w) (sym (raised_below k n j h)) (omega (arith, l, e))
    by at l = subst (λ z. z < w) (sym (raised_above k n n (omega arith))) (omega (arith, l, e))
    by (above {i = j} h) l = subst (λ z. z < w) (sym (raised_above k n (suc j) (omega (arith, h)))) (omega (arith, l, e))

module _ (signature : Signature) where
  mutual
    pub raise_holds : (k n v w : ℕ) (m : Object) → w ≡ v + k → ObjectHolds signature v m → ObjectHolds signature w (raise k n m)
    raise_holds k n v w (Lam m) e h = raise_holds k (suc n) (suc v) (suc w) m (omega (arith, e)) h
    raise_holds k n v w (At r) e h = raise_atomic_holds k n v w r e h

    pub raise_atomic_holds : (k n v w : ℕ) (r : Atomic) → w ≡ v + k → AtomicHolds signature v r → AtomicHolds signature w (raise_atomic k n r)
    raise_atomic_holds k n v w (Var i) e h = raised_within k n i v w h e
    raise_atomic_holds k n v w (Con c) e h = h
    raise_atomic_holds k n v w (App r m) e h = (raise_atomic_holds k n v w r e h.0, raise_holds k n v w m e h.1)

  -- ---- headed results

  abbrev pub ActionHolds : Action → Type 0
  ActionHolds Stay = ⊤
  ActionHolds (Step s a) = ((v : ℕ) (m body : Object) → ObjectHolds signature v m → ObjectHolds signature (suc v) body → ObjectHolds signature v (s m 0 body)) × ActionHolds a

  abbrev pub HeadedHolds : ℕ → Headed → Type 0
  HeadedHolds v (Kept r) = AtomicHolds signature v r
  HeadedHolds v (Replaced m a) = ObjectHolds signature v m × ActionHolds a

  value_takes_holds : (v : ℕ) (value : Object) (a : Action) (m : Object) → ObjectHolds signature v value → ActionHolds a → ObjectHolds signature v m → HeadedHolds v (value_takes value a m)
  value_takes_holds v (Lam n) (Step s a) m h k g = (k.0 v m n g h, k.1)
  value_takes_holds v (At r) (Step s a) m h k g = ((h, g), k.1)
  value_takes_holds v (At r) Stay m h k g = ((h, g), tt)
  value_takes_holds v (Lam n) Stay m h k g = (h, tt)

  pub takes_holds : (v : ℕ) (headed : Headed) (m : Object) → HeadedHolds v headed → ObjectHolds signature v m → HeadedHolds v (takes headed m)
  takes_holds v (Kept r) m h g = (h, g)
  takes_holds v (Replaced value a) m h g = value_takes_holds v value a m h.0 h.1 g

  pub object_of_holds : (v : ℕ) (headed : Headed) → HeadedHolds v headed → ObjectHolds signature v (object_of headed)
  object_of_holds v (Kept r) h = h
  object_of_holds v (Replaced value a) h = h.0

-- `Place n v w`: with n binders passed there are v variables around the term, and w around the result
module _ (from to : Signature) (by : Replacement) (Place : ℕ → ℕ → ℕ → Type 0) (under : (n v w : ℕ) → Place n v w → Place (suc n) (suc v) (suc w)) (variables : (n v w i : ℕ) → Place n v w → i < v → HeadedHolds to w (by.variable n i)) (constants : (n v w : ℕ) (c : Constant) → Place n v w → IsObjectConstant from c → HeadedHolds to w (by.constant c)) where
  mutual
    pub replace_holds : (m : Object) (n v w : ℕ) → Place n v w → ObjectHolds from v m → ObjectHolds to w (replace by n m)
    replace_holds (Lam m) n v w p h = replace_holds m (suc n) (suc v) (suc w) (under n v w p) h
    replace_holds (At r) n v w p h = object_of_holds to w (replace_head by n r) (replace_head_holds r n v w p h)

    pub replace_head_holds : (r : Atomic) (n v w : ℕ) → Place n v w → AtomicHolds from v r → HeadedHolds to w (replace_head by n r)
    replace_head_holds (Var i) n v w p h = variables n v w i p h
    replace_head_holds (Con c) n v w p h = constants n v w c p h
    replace_head_holds (App r m) n v w p h = takes_holds to w (replace_head by n r) (replace by n m) (replace_head_holds r n v w p h.0) (replace_holds m n v w p h.1)

-- ---- families and kinds

-- a family has as many arguments, whatever is done to them
pub argument_count_map : (f : ℕ → Object → Object) (n : ℕ) (p : AtomicFamily) → family_argument_count (map_atomic_family f n p) ≡ family_argument_count p
argument_count_map f n (FamilyCon c) = refl
argument_count_map f n (FamilyApp p m) = ap suc (argument_count_map f n p)

module _ (signature : Signature) (f : ℕ → Object → Object) (Place : ℕ → ℕ → ℕ → Type 0) (under : (n v w : ℕ) → Place n v w → Place (suc n) (suc v) (suc w)) (objects : (m : Object) (n v w : ℕ) → Place n v w → ObjectHolds signature v m → ObjectHolds signature w (f n m)) where
  pub arguments_map : (p : AtomicFamily) (n v w : ℕ) → Place n v w → ArgumentsHold signature v p → ArgumentsHold signature w (map_atomic_family f n p)
  arguments_map (FamilyCon c) n v w p h = tt
  arguments_map (FamilyApp q m) n v w p h = (arguments_map q n v w p h.0, objects m n v w p h.1)

  pub family_map : (a : Family) (n v w : ℕ) → Place n v w → FamilyHolds signature v a → FamilyHolds signature w (map_family f n a)
  family_map (Pi domain body) n v w p h = (family_map domain n v w p h.0, family_map body (suc n) (suc v) (suc w) (under n v w p) h.1)
  family_map (AtFamily q) n v w p h =
      let k = h.0 in
      let c = head_constant_map f n q in
      let g : IsFamilyConstant signature (head_constant (map_atomic_family f n q)) (family_argument_count q) = subst (λ z. IsFamilyConstant signature z (family_argument_count q)) (sym c) k in
      (subst (IsFamilyConstant signature (head_constant (map_atomic_family f n q))) (sym (argument_count_map f n q)) g, arguments_map q n v w p h.1)

  pub kind_map : (k : Kind) (n v w : ℕ) → Place n v w → KindHolds signature v k → KindHolds signature w (map_kind f n k)
  kind_map Ty n v w p h = tt
  kind_map (PiKind domain kind) n v w p h = (family_map domain n v w p h.0, kind_map kind (suc n) (suc v) (suc w) (under n v w p) h.1)

-- ---- substitution

-- outside the variable stand so many others
abbrev pub Substituting : ℕ → ℕ → ℕ → ℕ → Type 0
Substituting outside n v w = (v ≡ suc w) × (w ≡ outside + n)

module _ (signature : Signature) where
  deeper : (outside n v w : ℕ) → Substituting outside n v w → Substituting outside (suc n) (suc v) (suc w)
  deeper outside n v w p = let e = p.0 in let g = p.1 in (omega (arith, e), omega (arith, g))

  substituted_holds : (value : Object) (a : Action) (outside n v w i : ℕ) → ObjectHolds signature outside value → ActionHolds signature a → Substituting outside n v w → i < v → HeadedHolds signature w (substituted value a n i)
  substituted_holds value a outside n v w i h k p l = by (position n i) l
    where
      by : {j : ℕ} → Position n j → j < v → HeadedHolds signature w (substituted value a n j)
      by (below {i = j} q) l = subst (HeadedHolds signature w) (sym (substituted_below value a n j q)) (let g = p.1 in omega (arith, q, g))
      by at l = subst (HeadedHolds signature w) (sym (substituted_at value a n)) (raise_holds signature n 0 outside w value p.1 h, k)
      by (above {i = j} q) l = subst (HeadedHolds signature w) (sym (substituted_above value a n j q)) (let e = p.0 in omega (arith, l, e))

  substitution_holds : (value : Object) (a : Action) (outside : ℕ) → ObjectHolds signature outside value → ActionHolds signature a → (m : Object) (n v w : ℕ) → Substituting outside n v w → ObjectHolds signature v m → ObjectHolds signature w (replace (substitution value a) n m)
  substitution_holds value a outside h k =
      replace_holds signature signature (substitution value a) (Substituting outside) (deeper outside) (λ n v w i p l. substituted_holds value a outside n v w i h k p l) (λ n v w c p g. g)

  pub action_holds : (t : Simple) → ActionHolds signature (action t)
  action_holds (Base c) = tt
  action_holds (Arrow s t) = ((λ v m body h g. substitution_holds m (action s) v h (action_holds s) body 0 (suc v) v (refl, omega arith) g), action_holds t)

  pub substitute_holds : (value : Object) (t : Simple) (outside : ℕ) → ObjectHolds signature outside value → (m : Object) (n v w : ℕ) → Substituting outside n v w → ObjectHolds signature v m → ObjectHolds signature w (substitute value t n m)
  substitute_holds value t outside h = substitution_holds value (action t) outside h (action_holds t)

  pub substitute_family_holds : (value : Object) (t : Simple) (outside : ℕ) → ObjectHolds signature outside value → (a : Family) (n v w : ℕ) → Substituting outside n v w → FamilyHolds signature v a → FamilyHolds signature w (map_family (substitute value t) n a)
  substitute_family_holds value t outside h = family_map signature (substitute value t) (Substituting outside) (deeper outside) (substitute_holds value t outside h)

  pub substitute_kind_holds : (value : Object) (t : Simple) (outside : ℕ) → ObjectHolds signature outside value → (k : Kind) (n v w : ℕ) → Substituting outside n v w → KindHolds signature v k → KindHolds signature w (map_kind (substitute value t) n k)
  substitute_kind_holds value t outside h = kind_map signature (substitute value t) (Substituting outside) (deeper outside) (substitute_holds value t outside h)

  pub raise_arguments_hold : (k : ℕ) (p : AtomicFamily) (n v w : ℕ) → w ≡ v + k → ArgumentsHold signature v p → ArgumentsHold signature w (map_atomic_family (raise k) n p)
  raise_arguments_hold k p n v w e h = arguments_map signature (raise k) (λ n v w. w ≡ v + k) (λ n v w e. omega (arith, e)) (λ m n v w e h. raise_holds signature k n v w m e h) p n v w e h

  pub raise_family_holds : (k : ℕ) (a : Family) (n v w : ℕ) → w ≡ v + k → FamilyHolds signature v a → FamilyHolds signature w (map_family (raise k) n a)
  raise_family_holds k a n v w e h = family_map signature (raise k) (λ n v w. w ≡ v + k) (λ n v w e. omega (arith, e)) (λ m n v w e h. raise_holds signature k n v w m e h) a n v w e h

  pub app_holds : (t : Simple) (value m : Object) (v : ℕ) → ObjectHolds signature v value → ObjectHolds signature v m → ObjectHolds signature v ((app t value m).value)
  app_holds (Arrow s t) (Lam n) m v h g = substitute_holds m s v g n 0 (suc v) v (refl, omega arith) h
  app_holds (Arrow s t) (At r) m v h g = (h, g)
  app_holds (Base c) (At r) m v h g = (h, g)
  app_holds (Base c) (Lam n) m v h g = h
