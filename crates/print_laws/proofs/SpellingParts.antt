-- Tokens that spell a tree up to its spans, production by production.
use Rattle.std.proofs.Common.{◌≡◌, ℕ, ◌+◌, Bool, true, false, List, [], ◌∷◌, ◌++◌, refl, sym, ap₂, subst, append_assoc}
use Rattle.text_meaning.specs.Tokens.{Span, Token, Mark, token, sign, LeftParen, ArrowSign, BackSign}
use Rattle.text_meaning.specs.Trees.{Expr, AppExpr, ArrowExpr, BackExpr, Exprs, NoArgs, ThenArg}
use Rattle.text_meaning.specs.Grammar.{join, applied, SpellsExpr, arrows, backs, SpellsArrows, only_last, only_atoms, arrow, SpellsBacks, back, SpellsTail, tail_last, tail_atoms, tail_more, SpellsLast, only_binder, atoms_binder, SpellsAtoms, first_atom, more_atoms, SpellsAtom, parens, SpellsBinding}
use Rattle.text_meaning.specs.UpToSpans.{no_span, bare_expr, bare_exprs}
use Rattle.print_meaning.specs.PrintedItems.{Gap, Item, text_of, end_of, tokens_of, right_paren}
use Rattle.print_meaning.specs.PrintedExpressions.{enclosed, placed}
use Rattle.print_laws.proofs.LaidOut.{tokens_append}

pub record ExprAt (ts : List Token) (e : Expr) : Type 0 where
  pub span : Span
  pub tree : Expr
  pub spells : SpellsExpr ts span tree
  pub same : bare_expr tree ≡ bare_expr e

pub record ArrowsAt (ts : List Token) (e : Expr) : Type 0 where
  pub span : Span
  pub tree : Expr
  pub spells : SpellsArrows ts span tree
  pub same : bare_expr tree ≡ bare_expr e

pub record LastAt (ts : List Token) (e : Expr) : Type 0 where
  pub span : Span
  pub tree : Expr
  pub spells : SpellsLast ts span tree
  pub same : bare_expr tree ≡ bare_expr e

pub record BindingAt (ts : List Token) (e : Expr) : Type 0 where
  pub span : Span
  pub tree : Expr
  pub spells : SpellsBinding ts span tree
  pub same : bare_expr tree ≡ bare_expr e

pub record AtomAt (ts : List Token) (e : Expr) : Type 0 where
  pub span : Span
  pub tree : Expr
  pub spells : SpellsAtom ts span tree
  pub same : bare_expr tree ≡ bare_expr e

-- a row of atoms, as one expression
pub record AtomsAt (ts : List Token) (e : Expr) : Type 0 where
  pub span : Span
  pub head : Expr
  pub args : Exprs
  pub spells : SpellsAtoms ts span head args
  pub same : bare_expr (applied span head args) ≡ bare_expr e

-- a first atom and others
pub record RowAt (ts : List Token) (h : Expr) (xs : Exprs) : Type 0 where
  pub span : Span
  pub head : Expr
  pub args : Exprs
  pub spells : SpellsAtoms ts span head args
  pub same_head : bare_expr head ≡ bare_expr h
  pub same_args : bare_exprs args ≡ bare_exprs xs

-- what may stand at the end of a row of back arrows behind a row so far
pub record TailAt (row_span : Span) (row : Expr) (ts : List Token) (b a : Expr) : Type 0 where
  pub span : Span
  pub tree : Expr
  pub spells : SpellsTail row_span row ts span tree
  pub same : bare_expr tree ≡ BackExpr no_span (bare_expr b) (bare_expr a)

-- the front of a row of back arrows, which goes on with an arrow and what stands behind it
pub record FrontAt (ts : List Token) (e : Expr) : Type 0 where
  pub span : Span
  pub row : Expr
  pub same : bare_expr row ≡ bare_expr e
  pub goes : (a : Span) (us : List Token) (u : Span) (tree : Expr) → SpellsTail span row us u tree → SpellsBacks (ts ++ (sign a BackSign ∷ us)) u tree

-- ---- one production inside another

pub arrows_at : {ts : List Token} {e : Expr} → ArrowsAt ts e → ExprAt ts e
arrows_at x = record { span = x.span; tree = x.tree; spells = arrows x.spells; same = x.same }

pub last_at : {ts : List Token} {e : Expr} → LastAt ts e → ArrowsAt ts e
last_at x = record { span = x.span; tree = x.tree; spells = only_last x.spells; same = x.same }

pub binding_at : {ts : List Token} {e : Expr} → BindingAt ts e → LastAt ts e
binding_at x = record { span = x.span; tree = x.tree; spells = only_binder x.spells; same = x.same }

pub atoms_at : {ts : List Token} {e : Expr} → AtomsAt ts e → ArrowsAt ts e
atoms_at x = record { span = x.span; tree = applied x.span x.head x.args; spells = only_atoms x.spells; same = x.same }

pub atom_at : {ts : List Token} {e : Expr} → AtomAt ts e → AtomsAt ts e
atom_at x = record { span = x.span; head = x.tree; args = NoArgs; spells = first_atom x.spells; same = x.same }

pub atom_row : {ts : List Token} {e : Expr} → AtomAt ts e → RowAt ts e NoArgs
unfolding bare_expr
atom_row x = record { span = x.span; head = x.tree; args = NoArgs; spells = first_atom x.spells; same_head = x.same; same_args = refl }

pub row_more : {ts us : List Token} {h e : Expr} {xs : Exprs} → RowAt ts h xs → AtomAt us e → RowAt (ts ++ us) h (ThenArg xs e)
unfolding bare_expr
row_more {ts = ts} {us = us} r x = record {
  span = join r.span x.span;
  head = r.head;
  args = ThenArg r.args x.tree;
  spells = more_atoms ts us r.spells x.spells;
  same_head = r.same_head;
  same_args = ap₂ ThenArg r.same_args x.same;
}

-- a row with arguments is an application
pub row_atoms : {ts : List Token} {h e : Expr} {xs : Exprs} (s : Span) → RowAt ts h (ThenArg xs e) → AtomsAt ts (AppExpr s h (ThenArg xs e))
unfolding bare_expr
row_atoms {h = h} {e = e} {xs = xs} s r = record { span = r.span; head = r.head; args = r.args; spells = r.spells; same = by r.args r.same_args }
  where
    by : (ys : Exprs) → bare_exprs ys ≡ ThenArg (bare_exprs xs) (bare_expr e) → bare_expr (applied r.span r.head ys) ≡ AppExpr no_span (bare_expr h) (ThenArg (bare_exprs xs) (bare_expr e))
    by NoArgs k = absurd cc
    by (ThenArg ys y) k = ap₂ (AppExpr no_span) r.same_head k

-- a row and a binder behind it
pub row_binding : {ts us : List Token} {h e : Expr} {xs : Exprs} (s : Span) → RowAt ts h xs → BindingAt us e → LastAt (ts ++ us) (AppExpr s h (ThenArg xs e))
unfolding bare_expr
row_binding {ts = ts} {us = us} s r x = record {
  span = join r.span x.span;
  tree = AppExpr (join r.span x.span) r.head (ThenArg r.args x.tree);
  spells = atoms_binder ts us r.spells x.spells;
  same = ap₂ (AppExpr no_span) r.same_head (ap₂ ThenArg r.same_args x.same);
}

-- `A -> B`
pub arrow_at : {ts us : List Token} {a b : Expr} (s t : Span) → AtomsAt ts a → ArrowsAt us b → ArrowsAt (ts ++ (sign t ArrowSign ∷ us)) (ArrowExpr s a b)
unfolding bare_expr
arrow_at {ts = ts} {us = us} s t x y = record {
  span = join x.span y.span;
  tree = ArrowExpr (join x.span y.span) (applied x.span x.head x.args) y.tree;
  spells = arrow ts us t x.spells y.spells;
  same = ap₂ (ArrowExpr no_span) x.same y.same;
}

-- atoms in front of a back arrow
pub atoms_front : {ts : List Token} {e : Expr} → AtomsAt ts e → FrontAt ts e
atoms_front {ts = ts} x = record {
  span = x.span;
  row = applied x.span x.head x.args;
  same = x.same;
  goes = λ a us u tree tail. back ts us a x.spells tail;
}

-- a row that goes on with one more operand
pub front_more : {ts us : List Token} {b a : Expr} (s t : Span) → FrontAt ts b → AtomsAt us a → FrontAt (ts ++ (sign t BackSign ∷ us)) (BackExpr s b a)
unfolding bare_expr
front_more {ts = ts} {us = us} s t f x = record {
  span = join f.span x.span;
  row = BackExpr (join f.span x.span) f.row (applied x.span x.head x.args);
  same = ap₂ (BackExpr no_span) f.same x.same;
  goes = λ a vs u tree tail.
      subst (λ ws. SpellsBacks ws u tree) (sym (append_assoc ts (sign t BackSign ∷ us) (sign a BackSign ∷ vs)))
      (f.goes t (us ++ (sign a BackSign ∷ vs)) u tree (tail_more us vs a x.spells tail));
}

-- the last operand of a row
pub atoms_tail : {us : List Token} {b a row : Expr} {r : Span} → bare_expr row ≡ bare_expr b → AtomsAt us a → TailAt r row us b a
unfolding bare_expr
atoms_tail {row = row} {r = r} h x = record {
  span = join r x.span;
  tree = BackExpr (join r x.span) row (applied x.span x.head x.args);
  spells = tail_atoms x.spells;
  same = ap₂ (BackExpr no_span) h x.same;
}

pub last_tail : {us : List Token} {b a row : Expr} {r : Span} → bare_expr row ≡ bare_expr b → LastAt us a → TailAt r row us b a
unfolding bare_expr
last_tail {row = row} {r = r} h x = record {
  span = join r x.span;
  tree = BackExpr (join r x.span) row x.tree;
  spells = tail_last x.spells;
  same = ap₂ (BackExpr no_span) h x.same;
}

pub back_at : {ts us : List Token} {b a : Expr} (s t : Span) (f : FrontAt ts b) → TailAt f.span f.row us b a → ExprAt (ts ++ (sign t BackSign ∷ us)) (BackExpr s b a)
unfolding bare_expr
back_at {us = us} s t f x = record { span = x.span; tree = x.tree; spells = backs (f.goes t us x.span x.tree x.spells); same = x.same }

-- ---- parentheses

pub enclosed_at : (at : ℕ) (inside : List Item) (gap : Gap) (e : Expr) → ((place : ℕ) → ExprAt (tokens_of place inside) e) → AtomAt (tokens_of at (enclosed inside gap)) e
unfolding tokens_of text_of
enclosed_at at inside gap e h =
    let x = h (at + 1 + 0) in
    let place : ℕ = end_of (at + 1 + 0) inside in
    subst (λ ts. AtomAt (token at (at + 1) (Mark LeftParen) ∷ ts) e) (sym (tokens_append (at + 1 + 0) inside (right_paren gap ∷ [])))
    (record {
      span = join (record { from = at; to = at + 1 }) (record { from = place; to = place + 1 });
      tree = x.tree;
      spells = parens (tokens_of (at + 1 + 0) inside) (record { from = place; to = place + 1 }) x.spells;
      same = x.same;
    })

pub placed_atom : (bare : Bool) (at : ℕ) (plain inside : List Item) (gap : Gap) (e : Expr) → (bare ≡ true → AtomAt (tokens_of at plain) e) → ((place : ℕ) → ExprAt (tokens_of place inside) e)
    → AtomAt (tokens_of at (placed bare plain inside gap)) e
placed_atom true at plain inside gap e p h = p refl
placed_atom false at plain inside gap e p h = enclosed_at at inside gap e h

pub placed_atoms : (bare : Bool) (at : ℕ) (plain inside : List Item) (gap : Gap) (e : Expr) → (bare ≡ true → AtomsAt (tokens_of at plain) e) → ((place : ℕ) → ExprAt (tokens_of place inside) e)
    → AtomsAt (tokens_of at (placed bare plain inside gap)) e
placed_atoms true at plain inside gap e p h = p refl
placed_atoms false at plain inside gap e p h = atom_at (enclosed_at at inside gap e h)

pub placed_arrows : (bare : Bool) (at : ℕ) (plain inside : List Item) (gap : Gap) (e : Expr) → (bare ≡ true → ArrowsAt (tokens_of at plain) e) → ((place : ℕ) → ExprAt (tokens_of place inside) e)
    → ArrowsAt (tokens_of at (placed bare plain inside gap)) e
placed_arrows true at plain inside gap e p h = p refl
placed_arrows false at plain inside gap e p h = atoms_at (atom_at (enclosed_at at inside gap e h))

pub placed_front : (bare : Bool) (at : ℕ) (plain inside : List Item) (gap : Gap) (e : Expr) → (bare ≡ true → FrontAt (tokens_of at plain) e) → ((place : ℕ) → ExprAt (tokens_of place inside) e)
    → FrontAt (tokens_of at (placed bare plain inside gap)) e
placed_front true at plain inside gap e p h = p refl
placed_front false at plain inside gap e p h = atoms_front (atom_at (enclosed_at at inside gap e h))
