-- Laws of raising and substitution for families and kinds, from those for objects.
use Rattle.std.proofs.Common.{◌≡◌, ℕ, suc, ◌+◌, ◌≤◌, refl, sym, ap, ap₂, ◌∙◌, arith}
use Rattle.lf_meaning.specs.Terms.{Object, Family, Pi, AtFamily, AtomicFamily, FamilyCon, FamilyApp, Kind, Ty, PiKind, Simple, Base, Arrow}
use Rattle.lf_meaning.specs.Raising.{raise, map_family, map_atomic_family, map_kind, raise_family, raise_kind}
use Rattle.lf_meaning.specs.Erasure.{erase, head_constant}
use Rattle.lf_meaning.specs.Substitution.{substitution, action, substitute, substitute_family, substitute_kind}
use Rattle.lf_substitution_laws.proofs.Raising.{raise_by_zero, raise_twice, raise_swap}
use Rattle.lf_substitution_laws.proofs.Substituting.{natural_action, uniform_substitution, raise_above_substitution, raise_below_replacement, substitute_raised}

-- what is done to the arguments leaves the constant at the head, and so the erasure
module _ (f : ℕ → Object → Object) where
  pub head_constant_map : (n : ℕ) (p : AtomicFamily) → head_constant (map_atomic_family f n p) ≡ head_constant p
  head_constant_map n (FamilyCon c) = refl
  head_constant_map n (FamilyApp p m) = head_constant_map n p

  pub erase_map : (n : ℕ) (a : Family) → erase (map_family f n a) ≡ erase a
  erase_map n (Pi a b) = ap₂ Arrow (erase_map n a) (erase_map (suc n) b)
  erase_map n (AtFamily p) = ap Base (head_constant_map n p)

-- a function that leaves every object leaves every family
module _ (f : ℕ → Object → Object) (same : (n : ℕ) (m : Object) → f n m ≡ m) where
  pub same_map_atomic_family : (n : ℕ) (p : AtomicFamily) → map_atomic_family f n p ≡ p
  same_map_atomic_family n (FamilyCon c) = refl
  same_map_atomic_family n (FamilyApp p m) = ap₂ FamilyApp (same_map_atomic_family n p) (same n m)

  pub same_map_family : (n : ℕ) (a : Family) → map_family f n a ≡ a
  same_map_family n (Pi a b) = ap₂ Pi (same_map_family n a) (same_map_family (suc n) b)
  same_map_family n (AtFamily p) = ap AtFamily (same_map_atomic_family n p)

  pub same_map_kind : (n : ℕ) (k : Kind) → map_kind f n k ≡ k
  same_map_kind n Ty = refl
  same_map_kind n (PiKind a k) = ap₂ PiKind (same_map_family n a) (same_map_kind (suc n) k)

-- two functions after another are two others after another on families, where they are on objects
module _ (f g f' g' : ℕ → Object → Object) (Place : ℕ → ℕ → ℕ → ℕ → Type 0) (under : (n p q r : ℕ) → Place n p q r → Place (suc n) (suc p) (suc q) (suc r)) (on : (n p q r : ℕ) (m : Object) → Place n p q r → f p (g n m) ≡ f' q (g' r m)) where
  pub both_map_atomic_family : (n p q r : ℕ) (b : AtomicFamily) → Place n p q r → map_atomic_family f p (map_atomic_family g n b) ≡ map_atomic_family f' q (map_atomic_family g' r b)
  both_map_atomic_family n p q r (FamilyCon c) h = refl
  both_map_atomic_family n p q r (FamilyApp b m) h = ap₂ FamilyApp (both_map_atomic_family n p q r b h) (on n p q r m h)

  pub both_map_family : (n p q r : ℕ) (a : Family) → Place n p q r → map_family f p (map_family g n a) ≡ map_family f' q (map_family g' r a)
  both_map_family n p q r (Pi a b) h = ap₂ Pi (both_map_family n p q r a h) (both_map_family (suc n) (suc p) (suc q) (suc r) b (under n p q r h))
  both_map_family n p q r (AtFamily b) h = ap AtFamily (both_map_atomic_family n p q r b h)

  pub both_map_kind : (n p q r : ℕ) (k : Kind) → Place n p q r → map_kind f p (map_kind g n k) ≡ map_kind f' q (map_kind g' r k)
  both_map_kind n p q r Ty h = refl
  both_map_kind n p q r (PiKind a k) h = ap₂ PiKind (both_map_family n p q r a h) (both_map_kind (suc n) (suc p) (suc q) (suc r) k (under n p q r h))

pub raise_family_by_zero : (n : ℕ) (a : Family) → raise_family 0 n a ≡ a
raise_family_by_zero n a = same_map_family (raise 0) raise_by_zero n a

pub raise_kind_by_zero : (n : ℕ) (k : Kind) → raise_kind 0 n k ≡ k
raise_kind_by_zero n k = same_map_kind (raise 0) raise_by_zero n k

-- nothing is done to an object
still : ℕ → Object → Object
still n m = m

still_is : (n : ℕ) (m : Object) → still n m ≡ m
unfolding still
still_is n m = refl

record Overlaps (k n p q r : ℕ) : Type 0 where
  low : n ≤ p
  high : p ≤ n + k
  same : n ≡ q

overlaps_under : (k n p q r : ℕ) → Overlaps k n p q r → Overlaps k (suc n) (suc p) (suc q) (suc r)
overlaps_under k n p q r o = record { low = omega (arith, o.low); high = omega (arith, o.high); same = ap suc o.same }

overlaps_on : (k l n p q r : ℕ) (m : Object) → Overlaps k n p q r → raise l p (raise k n m) ≡ raise (k + l) q (still r m)
overlaps_on k l n p q r m o = raise_twice k l n p m o.low o.high ∙ ap₂ (raise (k + l)) o.same (sym (still_is r m))

pub raise_family_twice : (k l n p : ℕ) (a : Family) → n ≤ p → p ≤ n + k → raise_family l p (raise_family k n a) ≡ raise_family (k + l) n a
raise_family_twice k l n p a low high = both_map_family (raise l) (raise k) (raise (k + l)) still (Overlaps k) (overlaps_under k) (overlaps_on k l) n p n 0 a (record { low = low; high = high; same = refl }) ∙ ap (raise_family (k + l) n) (same_map_family still still_is 0 a)

pub raise_kind_twice : (k l n p : ℕ) (c : Kind) → n ≤ p → p ≤ n + k → raise_kind l p (raise_kind k n c) ≡ raise_kind (k + l) n c
raise_kind_twice k l n p c low high = both_map_kind (raise l) (raise k) (raise (k + l)) still (Overlaps k) (overlaps_under k) (overlaps_on k l) n p n 0 c (record { low = low; high = high; same = refl }) ∙ ap (raise_kind (k + l) n) (same_map_kind still still_is 0 c)

record Apart (k n p q r : ℕ) : Type 0 where
  low : n ≤ r
  grows : p ≡ r + k
  same : n ≡ q

apart_under : (k n p q r : ℕ) → Apart k n p q r → Apart k (suc n) (suc p) (suc q) (suc r)
apart_under k n p q r o = record { low = omega (arith, o.low); grows = omega (arith, o.grows); same = ap suc o.same }

apart_on : (k l n p q r : ℕ) (m : Object) → Apart k n p q r → raise l p (raise k n m) ≡ raise k q (raise l r m)
apart_on k l n p q r m o = raise_swap k l n r p m o.low o.grows ∙ ap (λ x. raise k x (raise l r m)) o.same

pub raise_family_swap : (k l n p q : ℕ) (a : Family) → n ≤ p → q ≡ p + k → raise_family l q (raise_family k n a) ≡ raise_family k n (raise_family l p a)
raise_family_swap k l n p q a low e = both_map_family (raise l) (raise k) (raise k) (raise l) (Apart k) (apart_under k) (apart_on k l) n q n p a (record { low = low; grows = e; same = refl })

pub raise_kind_swap : (k l n p q : ℕ) (c : Kind) → n ≤ p → q ≡ p + k → raise_kind l q (raise_kind k n c) ≡ raise_kind k n (raise_kind l p c)
raise_kind_swap k l n p q c low e = both_map_kind (raise l) (raise k) (raise k) (raise l) (Apart k) (apart_under k) (apart_on k l) n q n p c (record { low = low; grows = e; same = refl })

record OutsideOf (c n p q r : ℕ) : Type 0 where
  begins : p ≡ n + c
  same : n ≡ q
  behind : suc p ≡ r

outside_under : (c n p q r : ℕ) → OutsideOf c n p q r → OutsideOf c (suc n) (suc p) (suc q) (suc r)
outside_under c n p q r o = record { begins = omega (arith, o.begins); same = ap suc o.same; behind = ap suc o.behind }

module _ (k c : ℕ) (v : Object) (t : Simple) where
  outside_on : (n p q r : ℕ) (m : Object) → OutsideOf c n p q r → raise k p (substitute v t n m) ≡ substitute (raise k c v) t q (raise k r m)
  outside_on n p q r m o = raise_above_substitution k c v (action t) (natural_action t) n p m o.begins ∙ ap₂ (λ x y. substitute (raise k c v) t x (raise k y m)) o.same o.behind

  pub raise_above_substitution_family : (n p : ℕ) (a : Family) → p ≡ n + c → raise_family k p (substitute_family v t n a) ≡ substitute_family (raise k c v) t n (raise_family k (suc p) a)
  raise_above_substitution_family n p a e = both_map_family (raise k) (substitute v t) (substitute (raise k c v) t) (raise k) (OutsideOf c) (outside_under c) outside_on n p n (suc p) a (record { begins = e; same = refl; behind = refl })

  pub raise_above_substitution_kind : (n p : ℕ) (b : Kind) → p ≡ n + c → raise_kind k p (substitute_kind v t n b) ≡ substitute_kind (raise k c v) t n (raise_kind k (suc p) b)
  raise_above_substitution_kind n p b e = both_map_kind (raise k) (substitute v t) (substitute (raise k c v) t) (raise k) (OutsideOf c) (outside_under c) outside_on n p n (suc p) b (record { begins = e; same = refl; behind = refl })

record InsideOf (k n p q r : ℕ) : Type 0 where
  low : p ≤ n
  grows : q ≡ n + k
  same : p ≡ r

inside_under : (k n p q r : ℕ) → InsideOf k n p q r → InsideOf k (suc n) (suc p) (suc q) (suc r)
inside_under k n p q r o = record { low = omega (arith, o.low); grows = omega (arith, o.grows); same = ap suc o.same }

module _ (k : ℕ) (v : Object) (t : Simple) where
  pub raise_below_substitution : (n p q : ℕ) (m : Object) → p ≤ n → q ≡ n + k → raise k p (substitute v t n m) ≡ substitute v t q (raise k p m)
  raise_below_substitution n p q m low e = raise_below_replacement (substitution v (action t)) (uniform_substitution v t) k n p q m low e

  inside_on : (n p q r : ℕ) (m : Object) → InsideOf k n p q r → raise k p (substitute v t n m) ≡ substitute v t q (raise k r m)
  inside_on n p q r m o = raise_below_substitution n p q m o.low o.grows ∙ ap (λ x. substitute v t q (raise k x m)) o.same

  pub raise_below_substitution_family : (n p q : ℕ) (a : Family) → p ≤ n → q ≡ n + k → raise_family k p (substitute_family v t n a) ≡ substitute_family v t q (raise_family k p a)
  raise_below_substitution_family n p q a low e = both_map_family (raise k) (substitute v t) (substitute v t) (raise k) (InsideOf k) (inside_under k) inside_on n p q p a (record { low = low; grows = e; same = refl })

  pub raise_below_substitution_kind : (n p q : ℕ) (b : Kind) → p ≤ n → q ≡ n + k → raise_kind k p (substitute_kind v t n b) ≡ substitute_kind v t q (raise_kind k p b)
  raise_below_substitution_kind n p q b low e = both_map_kind (raise k) (substitute v t) (substitute v t) (raise k) (InsideOf k) (inside_under k) inside_on n p q p b (record { low = low; grows = e; same = refl })

record Over (k n p q r : ℕ) : Type 0 where
  low : n ≤ p
  high : p ≤ n + k
  same : n ≡ q

over_under : (k n p q r : ℕ) → Over k n p q r → Over k (suc n) (suc p) (suc q) (suc r)
over_under k n p q r o = record { low = omega (arith, o.low); high = omega (arith, o.high); same = ap suc o.same }

module _ (k : ℕ) (v : Object) (t : Simple) where
  over_on : (n p q r : ℕ) (m : Object) → Over k n p q r → substitute v t p (raise (suc k) n m) ≡ raise k q (still r m)
  over_on n p q r m o = substitute_raised v (action t) k p n m o.low o.high ∙ ap₂ (raise k) o.same (sym (still_is r m))

  pub substitute_raised_family : (n p : ℕ) (a : Family) → p ≤ n → n ≤ p + k → substitute_family v t n (raise_family (suc k) p a) ≡ raise_family k p a
  substitute_raised_family n p a low high = both_map_family (substitute v t) (raise (suc k)) (raise k) still (Over k) (over_under k) over_on p n p 0 a (record { low = low; high = high; same = refl }) ∙ ap (raise_family k p) (same_map_family still still_is 0 a)

  pub substitute_raised_kind : (n p : ℕ) (b : Kind) → p ≤ n → n ≤ p + k → substitute_kind v t n (raise_kind (suc k) p b) ≡ raise_kind k p b
  substitute_raised_kind n p b low high = both_map_kind (substitute v t) (raise (suc k)) (raise k) still (Over k) (over_under k) over_on p n p 0 b (record { low = low; high = high; same = refl }) ∙ ap (raise_kind k p) (same_map_kind still still_is 0 b)
