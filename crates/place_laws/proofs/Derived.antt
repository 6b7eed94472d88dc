-- What tokens spell stands where the tokens do.
use Rattle.std.proofs.Common.{ℕ, ◌≤◌, List, [], ◌∷◌, ◌++◌, arith}
use Rattle.text_meaning.specs.Tokens.{Span, Token}
use Rattle.text_meaning.specs.Trees.{Expr, Exprs, NoArgs, ThenArg, Written, Assign, Decl}
use Rattle.text_meaning.specs.Grammar.{join, applied, SpellsExpr, arrows, backs, SpellsArrows, only_last, only_atoms, arrow, SpellsBacks, back, SpellsTail, tail_last, tail_atoms, tail_more, SpellsLast, only_binder, atoms_binder, SpellsAtoms, first_atom, more_atoms, SpellsAtom, name, type_word, parens, SpellsBinding, pi, lam, typed_lam}
use Rattle.place_laws.proofs.Wider.{expr_wider, exprs_wider, within_wider}
use Rattle.span_meaning.specs.Spans.{StandsWithin, ExprStands, ExprsStand, WordsStand, AssignStands, AssignsStand, DeclStands, DeclsStand}

-- ---- tokens in order; the end of the input may stand at the place of the last

-- no token begins before another ends
abbrev pub Rises : ℕ → List Token → ℕ → Type 0
Rises from [] to = from ≤ to
Rises from (t ∷ ts) to = (from ≤ t.span.from) × (t.span.from ≤ t.span.to) × Rises t.span.to ts to

pub rises_forward : (from : ℕ) (ts : List Token) (to : ℕ) → Rises from ts to → from ≤ to
rises_forward from [] to r = r
rises_forward from (t ∷ ts) to r = let q = rises_forward t.span.to ts to r.2 in let a = r.0 in let b = r.1 in omega (arith, a, b, q)

-- a row of tokens in two parts
pub record Parted (from : ℕ) (ts us : List Token) (to : ℕ) : Type 0 where
  pub middle : ℕ
  pub front : Rises from ts middle
  pub back : Rises middle us to

pub parted : (from : ℕ) (ts us : List Token) (to : ℕ) → Rises from (ts ++ us) to → Parted from ts us to
parted from [] us to r = record { middle = from; front = omega arith; back = r }
parted from (t ∷ ts) us to r = let p = parted t.span.to ts us to r.2 in record { middle = p.middle; front = (r.0, r.1, p.front); back = p.back }

-- ---- lists that grow at their end

pub words_last : (P : Span → Type 0) (ws : List Written) (w : Written) → WordsStand P ws → P w.span → WordsStand P (ws ++ w ∷ [])
words_last P [] w h k = (k, tt)
words_last P (x ∷ ws) w h k = (h.0, words_last P ws w h.1 k)

pub assigns_last : (P : Span → Type 0) (xs : List Assign) (a : Assign) → AssignsStand P xs → AssignStands P a → AssignsStand P (xs ++ a ∷ [])
assigns_last P [] a h k = (k, tt)
assigns_last P (x ∷ xs) a h k = (h.0, assigns_last P xs a h.1 k)

pub decls_last : (P : Span → Type 0) (ds : List Decl) (d : Decl) → DeclsStand P ds → DeclStands P d → DeclsStand P (ds ++ d ∷ [])
decls_last P [] d h k = (k, tt)
decls_last P (x ∷ ds) d h k = (h.0, decls_last P ds d h.1 k)

-- ---- expressions

-- the span that a production takes, and the tree
pub record Standing (a b : ℕ) (s : Span) (e : Expr) : Type 0 where
  pub span : StandsWithin a b s
  pub tree : ExprStands (StandsWithin a b) e

record StandingAtoms (a b : ℕ) (s : Span) (h : Expr) (xs : Exprs) : Type 0 where
  span : StandsWithin a b s
  head : ExprStands (StandsWithin a b) h
  args : ExprsStand (StandsWithin a b) xs

pub expr_in : (a b c d : ℕ) (e : Expr) → a ≤ c → d ≤ b → ExprStands (StandsWithin c d) e → ExprStands (StandsWithin a b) e
expr_in a b c d e f g h = expr_wider (StandsWithin c d) (StandsWithin a b) (within_wider a b c d f g) e h

exprs_in : (a b c d : ℕ) (es : Exprs) → a ≤ c → d ≤ b → ExprsStand (StandsWithin c d) es → ExprsStand (StandsWithin a b) es
exprs_in a b c d es f g h = exprs_wider (StandsWithin c d) (StandsWithin a b) (within_wider a b c d f g) es h

standing_in : (a b c d : ℕ) (s : Span) (e : Expr) → a ≤ c → d ≤ b → Standing c d s e → Standing a b s e
standing_in a b c d s e f g h = record { span = within_wider a b c d f g s h.span; tree = expr_in a b c d e f g h.tree }

applied_stands : (P : Span → Type 0) (s : Span) (h : Expr) (xs : Exprs) → P s → ExprStands P h → ExprsStand P xs → ExprStands P (applied s h xs)
applied_stands P s h NoArgs p q r = q
applied_stands P s h (ThenArg args e) p q r = (p, q, r)

-- a span from one part to a later one
joined : (a b c d : ℕ) (s u : Span) → StandsWithin a c s → c ≤ d → StandsWithin d b u → StandsWithin a b (join s u)
joined a b c d s u p l q =
    let w = p.forward in
    let x = p.before in
    let y = q.behind in
    let z = q.forward in
    record { behind = p.behind; forward = omega (arith, w, x, y, z, l); before = q.before }

module _ (a b m c : ℕ) (front : a ≤ m) (gap : m ≤ c) (back : c ≤ b) where
  -- a row of atoms in front of a part behind them
  row_in : (s : Span) (h : Expr) (xs : Exprs) → StandingAtoms a m s h xs → ExprStands (StandsWithin a b) (applied s h xs)
  row_in s h xs w =
      applied_stands (StandsWithin a b) s h xs (within_wider a b a m (omega arith) (omega (arith, gap, back)) s w.span) (expr_in a b a m h (omega arith) (omega (arith, gap, back)) w.head)
      (exprs_in a b a m xs (omega arith) (omega (arith, gap, back)) w.args)

  both_in : (s u : Span) → StandsWithin a m s → StandsWithin c b u → StandsWithin a b (join s u)
  both_in s u p q = joined a b m c s u p gap q

  front_in : (e : Expr) → ExprStands (StandsWithin a m) e → ExprStands (StandsWithin a b) e
  front_in e h = expr_in a b a m e (omega arith) (omega (arith, gap, back)) h

  fronts_in : (es : Exprs) → ExprsStand (StandsWithin a m) es → ExprsStand (StandsWithin a b) es
  fronts_in es h = exprs_in a b a m es (omega arith) (omega (arith, gap, back)) h

  back_in : (e : Expr) → ExprStands (StandsWithin c b) e → ExprStands (StandsWithin a b) e
  back_in e h = expr_in a b c b e (omega (arith, front, gap)) (omega arith) h

within_forward : (a b : ℕ) (s : Span) → StandsWithin a b s → a ≤ b
within_forward a b s w = let p = w.behind in let q = w.forward in let r = w.before in omega (arith, p, q, r)

-- from a bracket past a variable and a sign behind it
opened : (l k : Span) {v w : ℕ} → l.from ≤ l.to → l.to ≤ v → v ≤ w → w ≤ k.from → k.from ≤ k.to → l.from ≤ k.to
opened l k a b c d e = omega (arith, a, b, c, d, e)

-- a binder with a domain: from its bracket to the end of its body
binder_stands : (a b : ℕ) (l k r s u : Span) (domain body : Expr) (m : ℕ) → a ≤ l.from → l.from ≤ k.to → k.to ≤ m → m ≤ r.from → r.from ≤ r.to → Standing k.to m s domain → Standing r.to b u body
    → StandsWithin a b (join l u) × ExprStands (StandsWithin a b) domain × ExprStands (StandsWithin a b) body
binder_stands a b l k r s u domain body m p q g h i d e =
    let x = (e.span).behind in
    let y = (e.span).forward in
    let z = (e.span).before in (
      record { behind = p; forward = omega (arith, q, g, h, i, x, y); before = z },
      expr_in a b k.to m domain (omega (arith, p, q)) (omega (arith, h, i, x, y, z)) d.tree,
      expr_in a b r.to b body (omega (arith, p, q, g, h, i)) (omega arith) e.tree,
    )

mutual
  pub expr_at : {ts : List Token} {s : Span} {e : Expr} → SpellsExpr ts s e → (a b : ℕ) → Rises a ts b → Standing a b s e
  expr_at (arrows d) a b r = arrows_at d a b r
  expr_at (backs d) a b r = backs_at d a b r

  arrows_at : {ts : List Token} {s : Span} {e : Expr} → SpellsArrows ts s e → (a b : ℕ) → Rises a ts b → Standing a b s e
  arrows_at (only_last d) a b r = last_at d a b r
  arrows_at (only_atoms {s = s} {h = h} {xs = xs} d) a b r = let w = atoms_at d a b r in record { span = w.span; tree = applied_stands (StandsWithin a b) s h xs w.span w.head w.args }
  arrows_at (arrow ts us k {s = s} {u = u} {h = h} {e = e} {xs = xs} d f) a b r =
      let p = parted a ts (_ ∷ us) b r in
      let w = atoms_at d a p.middle p.front in
      let v = arrows_at f k.to b (p.back).2 in
      let l : p.middle ≤ k.to = (let x = (p.back).0 in let y = (p.back).1 in omega (arith, x, y)) in
      let n : a ≤ p.middle = rises_forward a ts p.middle p.front in
      let o : k.to ≤ b = within_forward k.to b u v.span in
      let t = both_in a b p.middle k.to n l o s u w.span v.span in
      record { span = t; tree = (t, row_in a b p.middle k.to n l o s h xs w, back_in a b p.middle k.to n l o e v.tree) }

  backs_at : {ts : List Token} {s : Span} {e : Expr} → SpellsBacks ts s e → (a b : ℕ) → Rises a ts b → Standing a b s e
  backs_at (back ts us k {s = s} {h = h} {xs = xs} d f) a b r =
      let p = parted a ts (_ ∷ us) b r in
      let w = atoms_at d a p.middle p.front in
      let l : p.middle ≤ k.to = (let x = (p.back).0 in let y = (p.back).1 in omega (arith, x, y)) in
      tail_at f a p.middle k.to b (record { span = w.span; tree = applied_stands (StandsWithin a p.middle) s h xs w.span w.head w.args }) l (p.back).2

  tail_at : {r s : Span} {row e : Expr} {ts : List Token} → SpellsTail r row ts s e → (a m c b : ℕ) → Standing a m r row → m ≤ c → Rises c ts b → Standing a b s e
  tail_at (tail_last {r = q} {row = row} {s = s} {e = e} d) a m c b k l r =
      let v = last_at d c b r in
      let n : a ≤ m = within_forward a m q k.span in
      let o : c ≤ b = within_forward c b s v.span in
      let t = both_in a b m c n l o q s k.span v.span in
      record { span = t; tree = (t, front_in a b m c n l o row k.tree, back_in a b m c n l o e v.tree) }
  tail_at (tail_atoms {r = q} {row = row} {s = s} {h = h} {xs = xs} d) a m c b k l r =
      let v = atoms_at d c b r in
      let n : a ≤ m = within_forward a m q k.span in
      let o : c ≤ b = within_forward c b s v.span in
      let t = both_in a b m c n l o q s k.span v.span in
      record { span = t; tree = (t, front_in a b m c n l o row k.tree, back_in a b m c n l o (applied s h xs) (applied_stands (StandsWithin c b) s h xs v.span v.head v.args)) }
  tail_at (tail_more {r = q} {row = row} ts us g {s = s} {h = h} {xs = xs} d f) a m c b k l r =
      let p = parted c ts (_ ∷ us) b r in
      let v = atoms_at d c p.middle p.front in
      let n : a ≤ m = within_forward a m q k.span in
      let o : c ≤ p.middle = rises_forward c ts p.middle p.front in
      let t = both_in a p.middle m c n l o q s k.span v.span in
      let y : p.middle ≤ g.to = (let x = (p.back).0 in let z = (p.back).1 in omega (arith, x, z)) in
      tail_at f a p.middle g.to b
      (record { span = t; tree = (t, front_in a p.middle m c n l o row k.tree, back_in a p.middle m c n l o (applied s h xs) (applied_stands (StandsWithin c p.middle) s h xs v.span v.head v.args)) }) y (p.back).2

  last_at : {ts : List Token} {s : Span} {e : Expr} → SpellsLast ts s e → (a b : ℕ) → Rises a ts b → Standing a b s e
  last_at (only_binder d) a b r = binding_at d a b r
  last_at (atoms_binder ts us {s = s} {u = u} {h = h} {e = e} {xs = xs} d f) a b r =
      let p = parted a ts us b r in
      let w = atoms_at d a p.middle p.front in
      let v = binding_at f p.middle b p.back in
      let n : a ≤ p.middle = rises_forward a ts p.middle p.front in
      let o : p.middle ≤ b = within_forward p.middle b u v.span in
      let l : p.middle ≤ p.middle = omega arith in
      let t = both_in a b p.middle p.middle n l o s u w.span v.span in
      record { span = t; tree = (t, front_in a b p.middle p.middle n l o h w.head, (fronts_in a b p.middle p.middle n l o xs w.args, back_in a b p.middle p.middle n l o e v.tree)) }

  atoms_at : {ts : List Token} {s : Span} {h : Expr} {xs : Exprs} → SpellsAtoms ts s h xs → (a b : ℕ) → Rises a ts b → StandingAtoms a b s h xs
  atoms_at (first_atom d) a b r = let v = atom_at d a b r in record { span = v.span; head = v.tree; args = tt }
  atoms_at (more_atoms ts us {s = s} {u = u} {h = h} {e = e} {xs = xs} d f) a b r =
      let p = parted a ts us b r in
      let w = atoms_at d a p.middle p.front in
      let v = atom_at f p.middle b p.back in
      let n : a ≤ p.middle = rises_forward a ts p.middle p.front in
      let o : p.middle ≤ b = within_forward p.middle b u v.span in
      let l : p.middle ≤ p.middle = omega arith in
      record {
        span = both_in a b p.middle p.middle n l o s u w.span v.span;
        head = front_in a b p.middle p.middle n l o h w.head;
        args = (fronts_in a b p.middle p.middle n l o xs w.args, back_in a b p.middle p.middle n l o e v.tree);
      }

  atom_at : {ts : List Token} {s : Span} {e : Expr} → SpellsAtom ts s e → (a b : ℕ) → Rises a ts b → Standing a b s e
  atom_at name a b r = record { span = record { behind = r.0; forward = r.1; before = r.2 }; tree = record { behind = r.0; forward = r.1; before = r.2 } }
  atom_at type_word a b r = record { span = record { behind = r.0; forward = r.1; before = r.2 }; tree = record { behind = r.0; forward = r.1; before = r.2 } }
  atom_at (parens ts q {l = l} {s = s} {e = e} d) a b r =
      let p = parted l.to ts (_ ∷ []) b r.2 in
      let v = expr_at d l.to p.middle p.front in
      let w = r.0 in
      let x = r.1 in
      let n = rises_forward l.to ts p.middle p.front in
      let y = (p.back).0 in
      let z = (p.back).1 in
      let k = (p.back).2 in
      record {
        span = record { behind = r.0; forward = omega (arith, x, n, y, z); before = k };
        tree = expr_in a b l.to p.middle e (omega (arith, w, x)) (omega (arith, y, z, k)) v.tree;
      }

  binding_at : {ts : List Token} {s : Span} {e : Expr} → SpellsBinding ts s e → (a b : ℕ) → Rises a ts b → Standing a b s e
  binding_at (pi ts us q {l = l} {c = k} {s = s} {u = u} {a = domain} {b = body} x d f) a b r =
      let p = parted k.to ts (_ ∷ us) b r.2.2.2 in
      let v = expr_at d k.to p.middle p.front in
      let w = expr_at f q.to b (p.back).2 in
      let t = binder_stands a b l k q s u domain body p.middle r.0 (opened l k r.1 r.2.0 r.2.1 r.2.2.0 r.2.2.1) (rises_forward k.to ts p.middle p.front) (p.back).0 (p.back).1 v w in
      record { span = t.0; tree = t }
  binding_at (typed_lam ts us q {l = l} {c = k} {s = s} {u = u} {a = domain} {b = body} x d f) a b r =
      let p = parted k.to ts (_ ∷ us) b r.2.2.2 in
      let v = expr_at d k.to p.middle p.front in
      let w = expr_at f q.to b (p.back).2 in
      let t = binder_stands a b l k q s u domain body p.middle r.0 (opened l k r.1 r.2.0 r.2.1 r.2.2.0 r.2.2.1) (rises_forward k.to ts p.middle p.front) (p.back).0 (p.back).1 v w in
      record { span = t.0; tree = t }
  binding_at (lam us {l = l} {r = q} {u = u} {b = body} x f) a b r =
      let w = expr_at f q.to b r.2.2.2 in
      let o = opened l q r.1 r.2.0 r.2.1 r.2.2.0 r.2.2.1 in
      let g = r.0 in
      let y = (w.span).behind in
      let z = (w.span).forward in
      let t : StandsWithin a b (join l u) = record { behind = r.0; forward = omega (arith, o, y, z); before = (w.span).before } in
      record { span = t; tree = (t, expr_in a b q.to b body (omega (arith, g, o)) (omega arith) w.tree) }
