-- Replacement and raising.
use Rattle.std.proofs.Common.{◌≡◌, ℕ, suc, refl, ap, ap₂, ◌∙◌}
use Rattle.lf_meaning.specs.Terms.{Constant, Object, Lam, At, Atomic, Var, Con, App}
use Rattle.lf_meaning.specs.Raising.{raised, raise, raise_atomic}
use Rattle.lf_meaning.specs.Replacement.{Action, Stay, Step, Headed, Kept, Replaced, object_of, takes, raise_headed, Replacement, replace, replace_head}

-- an action at whose domains raising passes through the substitution for the outermost variable
abbrev pub NaturalAction : Action → Type 0
NaturalAction Stay = Unit {0}
NaturalAction (Step s a) = ((k c : ℕ) (v m : Object) → raise k c (s v 0 m) ≡ s (raise k c v) 0 (raise k (suc c) m)) × NaturalAction a

abbrev pub NaturalHeaded : Headed → Type 0
NaturalHeaded (Kept r) = Unit {0}
NaturalHeaded (Replaced v a) = NaturalAction a

pub natural_takes : (h : Headed) (m : Object) → NaturalHeaded h → NaturalHeaded (takes h m)
natural_takes (Kept r) m h = tt
natural_takes (Replaced (Lam n) Stay) m h = tt
natural_takes (Replaced (At r) Stay) m h = tt
natural_takes (Replaced (Lam n) (Step s a)) m h = h.1
natural_takes (Replaced (At r) (Step s a)) m h = h.1

-- raising passes through a head that takes an argument
pub raise_takes : (k c : ℕ) (h : Headed) (m : Object) → NaturalHeaded h → raise_headed k c (takes h m) ≡ takes (raise_headed k c h) (raise k c m)
raise_takes k c (Kept r) m h = refl
raise_takes k c (Replaced (Lam n) Stay) m h = refl
raise_takes k c (Replaced (At r) Stay) m h = refl
raise_takes k c (Replaced (Lam n) (Step s a)) m h = ap (λ x. Replaced x a) (h.0 k c m n)
raise_takes k c (Replaced (At r) (Step s a)) m h = refl

pub raise_object_of : (k c : ℕ) (h : Headed) → raise k c (object_of h) ≡ object_of (raise_headed k c h)
raise_object_of k c (Kept r) = refl
raise_object_of k c (Replaced v a) = refl

-- a replacement all of whose actions are natural
pub record IsNatural (by : Replacement) : Type 0 where
  pub variable : (n i : ℕ) → NaturalHeaded (by.variable n i)
  pub constant : (c : Constant) → NaturalHeaded (by.constant c)

pub natural_head : (by : Replacement) → IsNatural by → (n : ℕ) (r : Atomic) → NaturalHeaded (replace_head by n r)
natural_head by h n (Var i) = h.variable n i
natural_head by h n (Con c) = h.constant c
natural_head by h n (App r m) = natural_takes (replace_head by n r) (replace by n m) (natural_head by h n r)

-- Raising after one replacement is another replacement after raising, wherever this holds of
-- variables and constants. `Place n p q r` says: the first replacement has passed n binders and the
-- second q; the raising begins at p after the first and at r before the second.
module _ (k : ℕ) (by by' : Replacement) (Place : ℕ → ℕ → ℕ → ℕ → Type 0) (natural : IsNatural by) (under : (n p q r : ℕ) → Place n p q r → Place (suc n) (suc p) (suc q) (suc r)) (variables : (n p q r i : ℕ) → Place n p q r → raise_headed k p (by.variable n i) ≡ by'.variable q (raised k r i)) (constants : (n p q r : ℕ) (c : Constant) → Place n p q r → raise_headed k p (by.constant c) ≡ by'.constant c) where
  mutual
    pub raise_replace : (n p q r : ℕ) (m : Object) → Place n p q r → raise k p (replace by n m) ≡ replace by' q (raise k r m)
    raise_replace n p q r (Lam m) h = ap Lam (raise_replace (suc n) (suc p) (suc q) (suc r) m (under n p q r h))
    raise_replace n p q r (At a) h = raise_object_of k p (replace_head by n a) ∙ ap object_of (raise_replace_head n p q r a h)

    pub raise_replace_head : (n p q r : ℕ) (a : Atomic) → Place n p q r → raise_headed k p (replace_head by n a) ≡ replace_head by' q (raise_atomic k r a)
    raise_replace_head n p q r (Var i) h = variables n p q r i h
    raise_replace_head n p q r (Con c) h = constants n p q r c h
    raise_replace_head n p q r (App a m) h = raise_takes k p (replace_head by n a) (replace by n m) (natural_head by natural n a) ∙ ap₂ takes (raise_replace_head n p q r a h) (raise_replace n p q r m h)
