-- Raising: by nothing, twice, and in either order.
use Rattle.std.proofs.Common.{◌≡◌, ℕ, suc, ◌+◌, ◌≤◌, refl, ap, ap₂, arith}
use Rattle.lf_meaning.specs.Terms.{Object, Lam, At, Atomic, Var, Con, App}
use Rattle.lf_meaning.specs.Raising.{raise, raise_atomic}
use Rattle.lf_substitution_laws.proofs.Indices.{raised_zero, raised_twice, raised_swap}

mutual
  pub raise_by_zero : (n : ℕ) (m : Object) → raise 0 n m ≡ m
  raise_by_zero n (Lam m) = ap Lam (raise_by_zero (suc n) m)
  raise_by_zero n (At r) = ap At (raise_atomic_by_zero n r)

  pub raise_atomic_by_zero : (n : ℕ) (r : Atomic) → raise_atomic 0 n r ≡ r
  raise_atomic_by_zero n (Var i) = ap Var (raised_zero n i)
  raise_atomic_by_zero n (Con c) = refl
  raise_atomic_by_zero n (App r m) = ap₂ App (raise_atomic_by_zero n r) (raise_by_zero n m)

mutual
  pub raise_twice : (k l n p : ℕ) (m : Object) → n ≤ p → p ≤ n + k → raise l p (raise k n m) ≡ raise (k + l) n m
  raise_twice k l n p (Lam m) low high = ap Lam (raise_twice k l (suc n) (suc p) m (omega arith) (omega arith))
  raise_twice k l n p (At r) low high = ap At (raise_atomic_twice k l n p r low high)

  pub raise_atomic_twice : (k l n p : ℕ) (r : Atomic) → n ≤ p → p ≤ n + k → raise_atomic l p (raise_atomic k n r) ≡ raise_atomic (k + l) n r
  raise_atomic_twice k l n p (Var i) low high = ap Var (raised_twice k l n p i low high)
  raise_atomic_twice k l n p (Con c) low high = refl
  raise_atomic_twice k l n p (App r m) low high = ap₂ App (raise_atomic_twice k l n p r low high) (raise_twice k l n p m low high)

mutual
  pub raise_swap : (k l n p q : ℕ) (m : Object) → n ≤ p → q ≡ p + k → raise l q (raise k n m) ≡ raise k n (raise l p m)
  raise_swap k l n p q (Lam m) low e = ap Lam (raise_swap k l (suc n) (suc p) (suc q) m (omega arith) (omega arith))
  raise_swap k l n p q (At r) low e = ap At (raise_atomic_swap k l n p q r low e)

  pub raise_atomic_swap : (k l n p q : ℕ) (r : Atomic) → n ≤ p → q ≡ p + k → raise_atomic l q (raise_atomic k n r) ≡ raise_atomic k n (raise_atomic l p r)
  raise_atomic_swap k l n p q (Var i) low e = ap Var (raised_swap k l n p q i low e)
  raise_atomic_swap k l n p q (Con c) low e = refl
  raise_atomic_swap k l n p q (App r m) low e = ap₂ App (raise_atomic_swap k l n p q r low e) (raise_swap k l n p q m low e)
