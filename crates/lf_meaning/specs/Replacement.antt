-- Replacement of the heads of a term. Hereditary substitution is the replacement of one variable; a
-- translation is the replacement of constants.
use Rattle.lf_meaning.specs.Terms.{Constant, Object, Var, Lam, At, Atomic, Con, App}
use Rattle.std.specs.Prelude.{ℕ, suc, List, [], ◌∷◌}
use Rattle.lf_meaning.specs.Raising.{raise, raise_atomic}

-- What a value at a simple type does with its arguments. At a base it stays what it is. At an arrow
-- it holds the substitution at the domain, which takes the argument, the variable and the body, and
-- what the result does at the codomain.
pub data Action : Type 0 where
  Stay : Action
  Step : (substitution : Object → ℕ → Object → Object) (codomain : Action) → Action

-- What comes of an atomic object whose head is replaced or kept: an atomic object, or the value
-- that was put in place of the head, with the arguments so far and what it does with the next one.
pub data Headed : Type 0 where
  Kept : (atomic : Atomic) → Headed
  Replaced : (value : Object) (action : Action) → Headed

-- The object that a headed result stands for.
abbrev pub object_of : Headed → Object
object_of (Kept r) = At r
object_of (Replaced v a) = v

-- A value takes an argument: a λ at an arrow goes on with the argument in its body (Harper and Licata
-- 2007, section 2). The other three rows are misfits, which this profile answers: an atomic value
-- has the argument as a further one, and a λ at a base stays.
abbrev pub value_takes : Object → Action → Object → Headed
value_takes (Lam n) (Step s a) m = Replaced (s m 0 n) a
value_takes (At r) (Step s a) m = Replaced (At (App r m)) a
value_takes (At r) Stay m = Replaced (At (App r m)) Stay
value_takes (Lam n) Stay m = Replaced (Lam n) Stay

-- A headed result takes an argument.
abbrev pub takes : Headed → Object → Headed
takes (Kept r) m = Kept (App r m)
takes (Replaced v a) m = value_takes v a m

-- A headed result takes arguments, from left to right.
abbrev pub takes_all : Headed → List Object → Headed
takes_all h [] = h
takes_all h (m ∷ ms) = takes_all (takes h m) ms

-- A headed result with its variables raised.
abbrev pub raise_headed : ℕ → ℕ → Headed → Headed
raise_headed by from (Kept r) = Kept (raise_atomic by from r)
raise_headed by from (Replaced v a) = Replaced (raise by from v) a

-- A replacement says what stands in place of each variable, given how many binders it has passed,
-- and of each constant, where it is the same under any binders.
pub record Replacement : Type 0 where
  pub variable : ℕ → ℕ → Headed
  pub constant : Constant → Headed

-- The term with its heads replaced, `n` binders having been passed: under a binder n grows by one,
-- and what stands in place of a head takes the replaced arguments from left to right.
abbrev mutual
  pub replace : Replacement → ℕ → Object → Object
  replace by n (Lam m) = Lam (replace by (suc n) m)
  replace by n (At r) = object_of (replace_head by n r)

  pub replace_head : Replacement → ℕ → Atomic → Headed
  replace_head by n (Var i) = by.variable n i
  replace_head by n (Con c) = by.constant c
  replace_head by n (App r m) = takes (replace_head by n r) (replace by n m)

-- A headed result with the heads of its term replaced.
abbrev pub replace_headed : Replacement → ℕ → Headed → Headed
replace_headed by n (Kept r) = replace_head by n r
replace_headed by n (Replaced v a) = Replaced (replace by n v) a

-- The replacement of constants alone; variables stay.
abbrev pub of_constants : (Constant → Headed) → Replacement
of_constants by = record { variable = λ n i. Kept (Var i); constant = by }

-- An object with what is given in place of each constant.
abbrev pub replace_constants : (Constant → Headed) → Object → Object
replace_constants by m = replace (of_constants by) 0 m
