-- Which tokens spell which tree: one case for each production, with the span that the production takes (this profile).
-- The span beside a tree counts parentheses around the whole of it, the span within the tree does not.
use Rattle.std.specs.Prelude.{List, [], ◌∷◌, ◌++◌, Some, None}
use Rattle.text_meaning.specs.Tokens.{Span, Token, sign, ident, SigWord, ViewWord, IncludeWord, StructWord, AssignSign, ColonSign, LeftParen, RightParen, LeftBracket, RightBracket, LeftBrace, RightBrace, DotSign, TypeWord, ArrowSign, BackSign, EqualSign, BlankSign, EndSign}
use Rattle.name_meaning.specs.Names.{Name, Path}
use Rattle.text_meaning.specs.Trees.{Binder, Expr, TypeExpr, NameExpr, AppExpr, PiExpr, LamExpr, TypedLamExpr, ArrowExpr, BackExpr, Exprs, NoArgs, ThenArg, Written, Assign, IncludeAssign, StructAssign, ConstAssign, Decl, IncludeDecl, StructDecl, ConstDecl, Module, SigModule, ViewModule, Judgement}

-- from the first byte of one span to the last of another
abbrev pub join : Span → Span → Span
join s u = record { from = s.from; to = u.to }

-- a row of atoms: the first alone, or the first applied to the others
abbrev pub applied : Span → Expr → Exprs → Expr
applied s head NoArgs = head
applied s head (ThenArg args e) = AppExpr s head (ThenArg args e)

-- the variable of a binder
pub data SpellsBinder : Token → Binder → Type 0 where
  named : {s : Span} {n : Name} → SpellsBinder (ident s (n ∷ [])) (Some n)
  blank : {s : Span} → SpellsBinder (sign s BlankSign) None

mutual
  -- expr
  pub data SpellsExpr : List Token → Span → Expr → Type 0 where
    arrows : {ts : List Token} {s : Span} {e : Expr} → SpellsArrows ts s e → SpellsExpr ts s e
    backs : {ts : List Token} {s : Span} {e : Expr} → SpellsBacks ts s e → SpellsExpr ts s e

  -- arrows, from the right
  pub data SpellsArrows : List Token → Span → Expr → Type 0 where
    only_last : {ts : List Token} {s : Span} {e : Expr} → SpellsLast ts s e → SpellsArrows ts s e
    only_atoms : {ts : List Token} {s : Span} {h : Expr} {xs : Exprs} → SpellsAtoms ts s h xs → SpellsArrows ts s (applied s h xs)
    arrow : (ts us : List Token) (a : Span) {s u : Span} {h e : Expr} {xs : Exprs} → SpellsAtoms ts s h xs → SpellsArrows us u e
        → SpellsArrows (ts ++ (sign a ArrowSign ∷ us)) (join s u) (ArrowExpr (join s u) (applied s h xs) e)

  -- backs: the first operand and the rest of the row
  pub data SpellsBacks : List Token → Span → Expr → Type 0 where
    back : (ts us : List Token) (a : Span) {s u : Span} {h e : Expr} {xs : Exprs} → SpellsAtoms ts s h xs → SpellsTail s (applied s h xs) us u e
        → SpellsBacks (ts ++ (sign a BackSign ∷ us)) u e

  -- tail, after a row that so far has this span and this tree
  pub data SpellsTail : Span → Expr → List Token → Span → Expr → Type 0 where
    tail_last : {r : Span} {row : Expr} {ts : List Token} {s : Span} {e : Expr} → SpellsLast ts s e
        → SpellsTail r row ts (join r s) (BackExpr (join r s) row e)
    tail_atoms : {r : Span} {row : Expr} {ts : List Token} {s : Span} {h : Expr} {xs : Exprs} → SpellsAtoms ts s h xs
        → SpellsTail r row ts (join r s) (BackExpr (join r s) row (applied s h xs))
    tail_more : {r : Span} {row : Expr} (ts us : List Token) (a : Span) {s u : Span} {h e : Expr} {xs : Exprs} → SpellsAtoms ts s h xs
        → SpellsTail (join r s) (BackExpr (join r s) row (applied s h xs)) us u e
        → SpellsTail r row (ts ++ (sign a BackSign ∷ us)) u e

  -- last: a binder, after atoms or by itself
  pub data SpellsLast : List Token → Span → Expr → Type 0 where
    only_binder : {ts : List Token} {s : Span} {e : Expr} → SpellsBinding ts s e → SpellsLast ts s e
    atoms_binder : (ts us : List Token) {s u : Span} {h e : Expr} {xs : Exprs} → SpellsAtoms ts s h xs → SpellsBinding us u e
        → SpellsLast (ts ++ us) (join s u) (AppExpr (join s u) h (ThenArg xs e))

  -- atoms, from the left: the first atom, and the others in order
  pub data SpellsAtoms : List Token → Span → Expr → Exprs → Type 0 where
    first_atom : {ts : List Token} {s : Span} {e : Expr} → SpellsAtom ts s e → SpellsAtoms ts s e NoArgs
    more_atoms : (ts us : List Token) {s u : Span} {h e : Expr} {xs : Exprs} → SpellsAtoms ts s h xs → SpellsAtom us u e
        → SpellsAtoms (ts ++ us) (join s u) h (ThenArg xs e)

  -- atom
  pub data SpellsAtom : List Token → Span → Expr → Type 0 where
    name : {s : Span} {p : Path} → SpellsAtom (ident s p ∷ []) s (NameExpr s p)
    type_word : {s : Span} → SpellsAtom (sign s TypeWord ∷ []) s (TypeExpr s)
    parens : (ts : List Token) (r : Span) {l s : Span} {e : Expr} → SpellsExpr ts s e
        → SpellsAtom (sign l LeftParen ∷ (ts ++ (sign r RightParen ∷ []))) (join l r) e

  -- binder
  pub data SpellsBinding : List Token → Span → Expr → Type 0 where
    pi : (ts us : List Token) (r : Span) {l c s u : Span} {v : Token} {x : Binder} {a b : Expr} → SpellsBinder v x → SpellsExpr ts s a → SpellsExpr us u b
        → SpellsBinding (sign l LeftBrace ∷ v ∷ sign c ColonSign ∷ (ts ++ (sign r RightBrace ∷ us))) (join l u) (PiExpr (join l u) x a b)
    lam : (us : List Token) {l r u : Span} {v : Token} {x : Binder} {b : Expr} → SpellsBinder v x → SpellsExpr us u b
        → SpellsBinding (sign l LeftBracket ∷ v ∷ sign r RightBracket ∷ us) (join l u) (LamExpr (join l u) x b)
    typed_lam : (ts us : List Token) (r : Span) {l c s u : Span} {v : Token} {x : Binder} {a b : Expr} → SpellsBinder v x → SpellsExpr ts s a → SpellsExpr us u b
        → SpellsBinding (sign l LeftBracket ∷ v ∷ sign c ColonSign ∷ (ts ++ (sign r RightBracket ∷ us))) (join l u) (TypedLamExpr (join l u) x a b)

-- a path, and a simple identifier
abbrev pub written : Span → Path → Written
written s p = record { path = p; span = s }

abbrev pub simple : Span → Name → Written
simple s n = written s (n ∷ [])

-- path+, from the left
pub data SpellsMorph : List Token → List Written → Type 0 where
  one_word : {s : Span} {p : Path} → SpellsMorph (ident s p ∷ []) (written s p ∷ [])
  more_words : (ts : List Token) (ws : List Written) (s : Span) (p : Path) → SpellsMorph ts ws
      → SpellsMorph (ts ++ (ident s p ∷ [])) (ws ++ (written s p ∷ []))

-- assign
pub data SpellsAssign : List Token → Assign → Type 0 where
  const_assign : (ts : List Token) (d : Span) {t a s : Span} {p : Path} {e : Expr} → SpellsExpr ts s e
      → SpellsAssign (ident t p ∷ sign a AssignSign ∷ (ts ++ (sign d DotSign ∷ []))) (ConstAssign (written t p) e)
  include_assign : (ts : List Token) (d : Span) {i : Span} {ws : List Written} → SpellsMorph ts ws
      → SpellsAssign (sign i IncludeWord ∷ (ts ++ (sign d DotSign ∷ []))) (IncludeAssign ws)
  struct_assign : (ts : List Token) (d : Span) {i t a : Span} {p : Path} {ws : List Written} → SpellsMorph ts ws
      → SpellsAssign (sign i StructWord ∷ ident t p ∷ sign a AssignSign ∷ (ts ++ (sign d DotSign ∷ []))) (StructAssign (written t p) ws)

-- assign*, from the left
pub data SpellsAssigns : List Token → List Assign → Type 0 where
  no_assigns : SpellsAssigns [] []
  more_assigns : (ts us : List Token) (xs : List Assign) {a : Assign} → SpellsAssigns ts xs → SpellsAssign us a → SpellsAssigns (ts ++ us) (xs ++ (a ∷ []))

-- decl
pub data SpellsDecl : List Token → Decl → Type 0 where
  include_decl : {i s d : Span} {n : Name} → SpellsDecl (sign i IncludeWord ∷ ident s (n ∷ []) ∷ sign d DotSign ∷ []) (IncludeDecl (simple s n))
  bare_struct : {i s c t d : Span} {n m : Name}
      → SpellsDecl (sign i StructWord ∷ ident s (n ∷ []) ∷ sign c ColonSign ∷ ident t (m ∷ []) ∷ sign d DotSign ∷ []) (StructDecl (simple s n) (simple t m) [])
  struct : (ts : List Token) (r d : Span) {i s c t q l : Span} {n m : Name} {xs : List Assign} → SpellsAssigns ts xs
      → SpellsDecl (sign i StructWord ∷ ident s (n ∷ []) ∷ sign c ColonSign ∷ ident t (m ∷ []) ∷ sign q EqualSign ∷ sign l LeftBrace ∷ (ts ++ (sign r RightBrace ∷ sign d DotSign ∷ [])))
      (StructDecl (simple s n) (simple t m) xs)
  const : (ts : List Token) (d : Span) {s c u : Span} {n : Name} {e : Expr} → SpellsExpr ts u e
      → SpellsDecl (ident s (n ∷ []) ∷ sign c ColonSign ∷ (ts ++ (sign d DotSign ∷ []))) (ConstDecl (simple s n) e None)
  defined : (ts us : List Token) (q d : Span) {s c u v : Span} {n : Name} {e f : Expr} → SpellsExpr ts u e → SpellsExpr us v f
      → SpellsDecl (ident s (n ∷ []) ∷ sign c ColonSign ∷ (ts ++ (sign q EqualSign ∷ (us ++ (sign d DotSign ∷ []))))) (ConstDecl (simple s n) e (Some f))

-- decl*, from the left
pub data SpellsDecls : List Token → List Decl → Type 0 where
  no_decls : SpellsDecls [] []
  more_decls : (ts us : List Token) (ds : List Decl) {d : Decl} → SpellsDecls ts ds → SpellsDecl us d → SpellsDecls (ts ++ us) (ds ++ (d ∷ []))

-- module, up to the end of the input
pub data SpellsModule : List Token → Module → Type 0 where
  sig : (ts : List Token) (r d z : Span) {i s q l : Span} {n : Name} {ds : List Decl} → SpellsDecls ts ds
      → SpellsModule (sign i SigWord ∷ ident s (n ∷ []) ∷ sign q EqualSign ∷ sign l LeftBrace ∷ (ts ++ (sign r RightBrace ∷ sign d DotSign ∷ sign z EndSign ∷ [])))
      (SigModule (simple s n) ds)
  view : (ts : List Token) (r d z : Span) {i s c t a u q l : Span} {n m k : Name} {xs : List Assign} → SpellsAssigns ts xs
      → SpellsModule (sign i ViewWord ∷ ident s (n ∷ []) ∷ sign c ColonSign ∷ ident t (m ∷ []) ∷ sign a ArrowSign ∷ ident u (k ∷ []) ∷ sign q EqualSign ∷ sign l LeftBrace
      ∷ (ts ++ (sign r RightBrace ∷ sign d DotSign ∷ sign z EndSign ∷ [])))
      (ViewModule (simple s n) (simple t m) (simple u k) xs)

-- a judgement, up to the end of the input
pub data SpellsJudgement : List Token → Judgement → Type 0 where
  judgement : (ts us : List Token) (c z : Span) {s u : Span} {e f : Expr} → SpellsExpr ts s e → SpellsExpr us u f
      → SpellsJudgement (ts ++ (sign c ColonSign ∷ (us ++ (sign z EndSign ∷ [])))) (record { object = e; family = f })
