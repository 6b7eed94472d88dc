-- In which place an expression costs less than in another.
use Rattle.std.proofs.Common.{ℕ, ◌+◌, ◌≤◌, Bool, true, false, ◌&&◌, ◌||◌, arith}
use Rattle.std.specs.Prelude.{if◌then◌else◌}
use Rattle.text_meaning.specs.Tokens.{Span}
use Rattle.text_meaning.specs.Trees.{Expr, TypeExpr, NameExpr, AppExpr, PiExpr, LamExpr, TypedLamExpr, ArrowExpr, BackExpr, Exprs, NoArgs, ThenArg}
use Rattle.text_meaning.specs.Grammar.{applied}
use Rattle.print_meaning.specs.PrintedExpressions.{is_word, is_binding, is_operand, is_back}
use Rattle.parentheses_laws.proofs.Costs.{placed_cost, cost, args_cost, atom_cost, argument_cost, operand_cost, body_cost, front_cost, last_cost}

-- an argument that is free costs no more than one that is not, and at most two less
record IsNearBelow (n m : ℕ) : Type 0 where
  below : n ≤ m
  near : m ≤ n + 2

argument_near : (e : Expr) → IsNearBelow (argument_cost true e) (argument_cost false e)
argument_near e = by (is_word e) (is_binding e)
  where
    by : (w b : Bool) → IsNearBelow (placed_cost (w || (true && b)) (cost true e) (cost true e)) (placed_cost (w || (false && b)) (cost true e) (cost true e))
    by true b = record { below = omega arith; near = omega arith }
    by false true = record { below = omega arith; near = omega arith }
    by false false = record { below = omega arith; near = omega arith }

args_near : (xs : Exprs) → IsNearBelow (args_cost true xs) (args_cost false xs)
unfolding cost
args_near NoArgs = record { below = omega arith; near = omega arith }
args_near (ThenArg xs e) = let n = argument_near e in record { below = omega (arith, n.below); near = omega (arith, n.near) }

-- the last operand, of which this is known already
last_near : (e : Expr) → IsNearBelow (cost true e) (cost false e) → IsNearBelow (last_cost true e) (last_cost false e)
last_near e n = by (is_operand e) (is_binding e)
  where
    by : (o b : Bool) → IsNearBelow (placed_cost (o || b) (cost true e) (cost true e)) (placed_cost o (cost false e) (cost true e))
    by true b = n
    by false true = record { below = omega arith; near = omega arith }
    by false false = record { below = omega arith; near = omega arith }

-- an expression that is free costs no more than one that is not, and at most two less
near : (e : Expr) → IsNearBelow (cost true e) (cost false e)
unfolding cost
near (TypeExpr s) = record { below = omega arith; near = omega arith }
near (NameExpr s p) = record { below = omega arith; near = omega arith }
near (AppExpr s h xs) = let n = args_near xs in record { below = omega (arith, n.below); near = omega (arith, n.near) }
near (PiExpr s x a b) = record { below = omega arith; near = omega arith }
near (LamExpr s x b) = record { below = omega arith; near = omega arith }
near (TypedLamExpr s x a b) = record { below = omega arith; near = omega arith }
near (ArrowExpr s a b) = record { below = omega arith; near = omega arith }
near (BackExpr s b a) = let n = last_near a (near a) in record { below = omega (arith, n.below); near = omega (arith, n.near) }

-- ---- from place to place

pub atom_within : (e : Expr) → atom_cost e ≤ cost true e + 2
atom_within e = by (is_word e)
  where
    by : (w : Bool) → placed_cost w (cost true e) (cost true e) ≤ cost true e + 2
    by true = omega arith
    by false = omega arith

pub whole_below_body : (e : Expr) → cost true e ≤ body_cost e
whole_below_body e = by (is_back e)
  where
    by : (b : Bool) → cost true e ≤ placed_cost (if b then false else true) (cost true e) (cost true e)
    by true = omega arith
    by false = omega arith

pub argument_below_atom : (e : Expr) → argument_cost false e ≤ atom_cost e
argument_below_atom e = by (is_word e)
  where
    by : (w : Bool) → placed_cost (w || (false && is_binding e)) (cost true e) (cost true e) ≤ placed_cost w (cost true e) (cost true e)
    by true = omega arith
    by false = omega arith

pub operand_below_atom : (e : Expr) → operand_cost e ≤ atom_cost e
unfolding cost
operand_below_atom (TypeExpr s) = omega arith
operand_below_atom (NameExpr s p) = omega arith
operand_below_atom (AppExpr s h xs) = omega (arith, (args_near xs).near)
operand_below_atom (PiExpr s x a b) = omega arith
operand_below_atom (LamExpr s x b) = omega arith
operand_below_atom (TypedLamExpr s x a b) = omega arith
operand_below_atom (ArrowExpr s a b) = omega arith
operand_below_atom (BackExpr s b a) = omega arith

pub front_below_operand : (e : Expr) → front_cost e ≤ operand_cost e
front_below_operand e = by (is_operand e) (is_back e)
  where
    by : (o b : Bool) → placed_cost (o || b) (cost false e) (cost true e) ≤ placed_cost o (cost false e) (cost true e)
    by true b = omega arith
    by false true = omega (arith, (near e).near)
    by false false = omega arith

pub last_below_operand : (e : Expr) → last_cost true e ≤ operand_cost e
last_below_operand e = (last_near e (near e)).below

pub body_below_operand : (e : Expr) → body_cost e ≤ operand_cost e
unfolding cost
body_below_operand (TypeExpr s) = omega arith
body_below_operand (NameExpr s p) = omega arith
body_below_operand (AppExpr s h xs) = omega (arith, (args_near xs).below)
body_below_operand (PiExpr s x a b) = omega arith
body_below_operand (LamExpr s x b) = omega arith
body_below_operand (TypedLamExpr s x a b) = omega arith
body_below_operand (ArrowExpr s a b) = omega arith
body_below_operand (BackExpr s b a) = omega arith

-- a row of atoms, from its parts
pub applied_below : (s : Span) (h : Expr) (xs : Exprs) → operand_cost (applied s h xs) ≤ atom_cost h + args_cost false xs
unfolding cost
applied_below s h NoArgs = omega (arith, operand_below_atom h)
applied_below s h (ThenArg xs e) = omega arith
