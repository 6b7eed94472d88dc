-- Laws of raising, and of raising with substitution, for all terms.
use Rattle.std.specs.Prelude.{◌≡◌, ℕ, suc, ◌+◌, ◌≤◌}
use Rattle.lf_meaning.specs.Terms.{Object, Family, Kind, Simple}
use Rattle.lf_meaning.specs.Raising.{raise, raise_family, raise_kind}
use Rattle.lf_meaning.specs.Substitution.{substitute, substitute_family, substitute_kind}

-- Raising by 0 does nothing.
abbrev pub RaiseByZero : Type 0
RaiseByZero = (n : ℕ) (m : Object) → raise 0 n m ≡ m

abbrev pub RaiseFamilyByZero : Type 0
RaiseFamilyByZero = (n : ℕ) (a : Family) → raise_family 0 n a ≡ a

abbrev pub RaiseKindByZero : Type 0
RaiseKindByZero = (n : ℕ) (k : Kind) → raise_kind 0 n k ≡ k

-- A second raising that begins within the reach of the first adds up.
abbrev pub RaiseTwice : Type 0
RaiseTwice = (k l n p : ℕ) (m : Object) → n ≤ p → p ≤ n + k → raise l p (raise k n m) ≡ raise (k + l) n m

abbrev pub RaiseFamilyTwice : Type 0
RaiseFamilyTwice = (k l n p : ℕ) (a : Family) → n ≤ p → p ≤ n + k → raise_family l p (raise_family k n a) ≡ raise_family (k + l) n a

abbrev pub RaiseKindTwice : Type 0
RaiseKindTwice = (k l n p : ℕ) (b : Kind) → n ≤ p → p ≤ n + k → raise_kind l p (raise_kind k n b) ≡ raise_kind (k + l) n b

-- Two raisings in either order: the outer variables can be raised after the inner ones or before.
abbrev pub RaiseSwap : Type 0
RaiseSwap = (k l n p : ℕ) (m : Object) → n ≤ p → raise l (p + k) (raise k n m) ≡ raise k n (raise l p m)

abbrev pub RaiseFamilySwap : Type 0
RaiseFamilySwap = (k l n p : ℕ) (a : Family) → n ≤ p → raise_family l (p + k) (raise_family k n a) ≡ raise_family k n (raise_family l p a)

abbrev pub RaiseKindSwap : Type 0
RaiseKindSwap = (k l n p : ℕ) (b : Kind) → n ≤ p → raise_kind l (p + k) (raise_kind k n b) ≡ raise_kind k n (raise_kind l p b)

-- Raising of variables that stand outside of the substituted one: the value is raised too.
abbrev pub RaiseAbove : Type 0
RaiseAbove = (k c : ℕ) (v : Object) (t : Simple) (n : ℕ) (m : Object) → raise k (n + c) (substitute v t n m) ≡ substitute (raise k c v) t n (raise k (suc (n + c)) m)

abbrev pub RaiseFamilyAbove : Type 0
RaiseFamilyAbove = (k c : ℕ) (v : Object) (t : Simple) (n : ℕ) (a : Family) → raise_family k (n + c) (substitute_family v t n a) ≡ substitute_family (raise k c v) t n (raise_family k (suc (n + c)) a)

abbrev pub RaiseKindAbove : Type 0
RaiseKindAbove = (k c : ℕ) (v : Object) (t : Simple) (n : ℕ) (b : Kind) → raise_kind k (n + c) (substitute_kind v t n b) ≡ substitute_kind (raise k c v) t n (raise_kind k (suc (n + c)) b)

-- Raising of variables that stand inside of the substituted one.
abbrev pub RaiseBelow : Type 0
RaiseBelow = (k : ℕ) (v : Object) (t : Simple) (n p : ℕ) (m : Object) → p ≤ n → raise k p (substitute v t n m) ≡ substitute v t (n + k) (raise k p m)

abbrev pub RaiseFamilyBelow : Type 0
RaiseFamilyBelow = (k : ℕ) (v : Object) (t : Simple) (n p : ℕ) (a : Family) → p ≤ n → raise_family k p (substitute_family v t n a) ≡ substitute_family v t (n + k) (raise_family k p a)

abbrev pub RaiseKindBelow : Type 0
RaiseKindBelow = (k : ℕ) (v : Object) (t : Simple) (n p : ℕ) (b : Kind) → p ≤ n → raise_kind k p (substitute_kind v t n b) ≡ substitute_kind v t (n + k) (raise_kind k p b)

-- Substitution into a term that was raised over the variable lowers it by one.
abbrev pub SubstituteRaised : Type 0
SubstituteRaised = (k : ℕ) (v : Object) (t : Simple) (n p : ℕ) (m : Object) → p ≤ n → n ≤ p + k → substitute v t n (raise (suc k) p m) ≡ raise k p m

abbrev pub SubstituteRaisedFamily : Type 0
SubstituteRaisedFamily = (k : ℕ) (v : Object) (t : Simple) (n p : ℕ) (a : Family) → p ≤ n → n ≤ p + k → substitute_family v t n (raise_family (suc k) p a) ≡ raise_family k p a

abbrev pub SubstituteRaisedKind : Type 0
SubstituteRaisedKind = (k : ℕ) (v : Object) (t : Simple) (n p : ℕ) (b : Kind) → p ≤ n → n ≤ p + k → substitute_kind v t n (raise_kind (suc k) p b) ≡ raise_kind k p b
