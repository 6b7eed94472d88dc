-- What is spelled is read, with its nestings.
use Rattle.std.proofs.Common.{◌≡◌, ℕ, ◌+◌, List, [], ◌∷◌, ◌++◌, None, refl, sym, ◌∙◌, subst}
use Rattle.text_meaning.specs.Tokens.{Span, Token, sign, ident, ColonSign, LeftParen, RightParen, LeftBracket, RightBracket, LeftBrace, RightBrace, DotSign, EqualSign, EndSign, ArrowSign, BackSign}
use Rattle.text_meaning.specs.Trees.{Binder, Expr, ArrowExpr, Exprs, Written, Assign, Decl, Module, Judgement}
use Rattle.text_meaning.specs.Grammar.{join, applied, SpellsBinder, named, blank, SpellsExpr, arrows, backs, SpellsArrows, only_last, only_atoms, arrow, SpellsBacks, back, SpellsTail, tail_last, tail_atoms, tail_more, SpellsLast, only_binder, atoms_binder, SpellsAtoms, first_atom, more_atoms, SpellsAtom, name, type_word, parens, SpellsBinding, pi, lam, typed_lam, SpellsMorph, one_word, more_words, SpellsAssign, const_assign, include_assign, struct_assign, SpellsAssigns, no_assigns, more_assigns, SpellsDecl, include_decl, bare_struct, struct, const, defined, SpellsDecls, no_decls, more_decls, SpellsModule, sig, view, SpellsJudgement, judgement}
use Rattle.text_meaning.specs.Nesting.{Nesting, expr_nesting, arrows_nesting, backs_nesting, tail_nesting, last_nesting, atoms_nesting, atom_nesting, binding_nesting, morph_nesting, assign_nesting, assigns_nesting, decl_nesting, decls_nesting, module_nesting, judgement_nesting}
use Rattle.text_meaning.specs.Reading.{Target, Tree, ModuleTree, JudgementTree, Spells, spells_module, spells_judgement, nesting}
use Rattle.text_meaning.specs.Parsing.{Simple, Atoms, NoAtoms, SomeAtoms, Row, Plain, AfterArrow, AfterBack, Brace, Curly, Square, PiOf, LamOf, TypedLamOf, Owner, Waiting, Ends, ObjectOf, InParens, InDomain, InBody, InCodomain, State, Whole, MoreWords, AtModule, AtDecl, AtAssign, AtOperand, AtVariable, AfterVariable, Binding, bound, add_atom, last_span, last_tree, row_span, row_tree, at_expr, at_morph, step, resume, arrow_move, start}
use Rattle.reading_laws.specs.ReadingLaws.{TreesAreDetermined}
use Rattle.reading_laws.proofs.Runs.{Reads, nothing, first, then, right_paren, right_bracket, right_brace, colon, equal, dot, end, IsWhole, ReadsWhole, first_whole, then_whole, whole_then, whole_then_whole}

-- an operand with atoms is whole
pub operand_whole : (n : ℕ) (row : Row) (s : Span) (h : Expr) (xs : Exprs) (k : Waiting)
    → IsWhole (AtOperand n row (SomeAtoms s h xs) k) k (row_span row s) (row_tree row s (applied s h xs))
operand_whole n row s h xs k m z right_paren = refl
operand_whole n row s h xs k m z right_bracket = refl
operand_whole n row s h xs k m z right_brace = refl
operand_whole n row s h xs k m z colon = refl
operand_whole n row s h xs k m z equal = refl
operand_whole n row s h xs k m z dot = refl
operand_whole n row s h xs k m z end = refl

atoms_whole : {n : ℕ} {row : Row} {ts : List Token} {ns : List Nesting} {s : Span} {h : Expr} {xs : Exprs} {k : Waiting} {u : State}
    → Reads u ts ns (AtOperand n row (SomeAtoms s h xs) k) → ReadsWhole u ts ns k (row_span row s) (row_tree row s (applied s h xs))
atoms_whole {n = n} {row = row} {s = s} {h = h} {xs = xs} {k = k} r = record { ends = AtOperand n row (SomeAtoms s h xs) k; reads = r; whole = operand_whole n row s h xs k }

-- rows of arrows
data IsForward : Row → Type 0 where
  plain : IsForward Plain
  after_arrow : IsForward AfterArrow

forward : {row : Row} {u : State} {ts : List Token} {ns : List Nesting} {s : Span} {e : Expr} {k : Waiting} → IsForward row
    → ReadsWhole u ts ns k (row_span row s) (row_tree row s e) → ReadsWhole u ts ns k s e
forward plain r = r
forward after_arrow r = r

arrow_goes : {row : Row} (n : ℕ) (s : Span) (h : Expr) (xs : Exprs) (k : Waiting) → IsForward row
    → AtOperand (n + 1) AfterArrow NoAtoms (InCodomain s (applied s h xs) k) ≡ arrow_move n row (SomeAtoms s h xs) k
arrow_goes n s h xs k plain = refl
arrow_goes n s h xs k after_arrow = refl

codomain_whole : {u : State} {ts : List Token} {ns : List Nesting} {a s : Span} {d e : Expr} {k : Waiting}
    → ReadsWhole u ts ns (InCodomain a d k) s e → ReadsWhole u ts ns k (join a s) (ArrowExpr (join a s) d e)
unfolding resume
codomain_whole r = record { ends = r.ends; reads = r.reads; whole = r.whole }

body_whole : {u : State} {ts : List Token} {ns : List Nesting} {l s : Span} {b : Binding} {row : Row} {xs : Atoms} {e : Expr} {k : Waiting}
    → ReadsWhole u ts ns (InBody l b row xs k) s e
    → ReadsWhole u ts ns k (row_span row (last_span xs (join l s))) (row_tree row (last_span xs (join l s)) (last_tree xs (join l s) (bound (join l s) b e)))
unfolding resume
body_whole r = record { ends = r.ends; reads = r.reads; whole = r.whole }

variable_goes : {v : Token} {x : Binder} (b : Brace) (l : Span) (n : ℕ) (row : Row) (xs : Atoms) (k : Waiting) → SpellsBinder v x
    → AfterVariable b l x n row xs k ≡ step (AtVariable b l n row xs k) v
variable_goes b l n row xs k named = refl
variable_goes b l n row xs k blank = refl

-- behind the brace of a binder: its variable and a sign
variable_first : {v : Token} {x : Binder} {b : Brace} {l : Span} {n : ℕ} {row : Row} {xs : Atoms} {k w : Waiting} {ns : List Nesting} {a : Span} {e : Expr} (ts : List Token) → SpellsBinder v x
    → ReadsWhole (AfterVariable b l x n row xs k) ts ns w a e → ReadsWhole (AtVariable b l n row xs k) (v ∷ ts) (None ∷ ns) w a e
variable_first {v = v} {b = b} {l = l} {n = n} {row = row} {xs = xs} {k = k} {w = w} {ns = ns} {a = a} {e = e} ts h r =
    first_whole v ts (subst (λ u. ReadsWhole u ts ns w a e) (variable_goes b l n row xs k h) r)

mutual
  unfolding expr_nesting resume

  pub expr_reads : {ts : List Token} {s : Span} {e : Expr} (d : SpellsExpr ts s e) (n : ℕ) (k : Waiting) → ReadsWhole (at_expr n k) ts (expr_nesting n d) k s e
  expr_reads (arrows d) n k = arrows_read d n Plain k plain
  expr_reads (backs d) n k = backs_read d n k

  arrows_read : {ts : List Token} {s : Span} {e : Expr} (d : SpellsArrows ts s e) (n : ℕ) (row : Row) (k : Waiting) → IsForward row
      → ReadsWhole (AtOperand n row NoAtoms k) ts (arrows_nesting n d) k s e
  arrows_read (only_last d) n row k f = forward f (last_reads d n row k)
  arrows_read (only_atoms d) n row k f = forward f (atoms_whole (atoms_read d n row k))
  arrows_read (arrow ts us a {s = s} {u = u} {h = h} {e = e} {xs = xs} d g) n row k f =
      let c = codomain_whole (arrows_read g (n + 1) AfterArrow (InCodomain s (applied s h xs) k) after_arrow) in
      then_whole ts _ (atoms_read d n row k) (first_whole (sign a ArrowSign) us (subst (λ v. ReadsWhole v us (arrows_nesting (n + 1) g) k (join s u) (ArrowExpr (join s u) (applied s h xs) e)) (arrow_goes n s h xs k f) c))

  backs_read : {ts : List Token} {s : Span} {e : Expr} (d : SpellsBacks ts s e) (n : ℕ) (k : Waiting) → ReadsWhole (at_expr n k) ts (backs_nesting n d) k s e
  backs_read (back ts us a d f) n k = then_whole ts _ (atoms_read d n Plain k) (first_whole (sign a BackSign) us (tail_reads f (n + 1) k))

  tail_reads : {r : Span} {row : Expr} {ts : List Token} {s : Span} {e : Expr} (d : SpellsTail r row ts s e) (n : ℕ) (k : Waiting)
      → ReadsWhole (AtOperand n (AfterBack r row) NoAtoms k) ts (tail_nesting n d) k s e
  tail_reads (tail_last {r = r} {row = row} d) n k = last_reads d n (AfterBack r row) k
  tail_reads (tail_atoms {r = r} {row = row} d) n k = atoms_whole (atoms_read d n (AfterBack r row) k)
  tail_reads (tail_more {r = r} {row = row} ts us a d f) n k =
      then_whole ts _ (atoms_read d n (AfterBack r row) k) (first_whole (sign a BackSign) us (tail_reads f (n + 1) k))

  last_reads : {ts : List Token} {s : Span} {e : Expr} (d : SpellsLast ts s e) (n : ℕ) (row : Row) (k : Waiting)
      → ReadsWhole (AtOperand n row NoAtoms k) ts (last_nesting n d) k (row_span row s) (row_tree row s e)
  last_reads (only_binder d) n row k = binding_reads d n row NoAtoms k
  last_reads (atoms_binder ts us {s = s} {h = h} {xs = xs} d f) n row k = then_whole ts us (atoms_read d n row k) (binding_reads f n row (SomeAtoms s h xs) k)

  atoms_read : {ts : List Token} {s : Span} {h : Expr} {xs : Exprs} (d : SpellsAtoms ts s h xs) (n : ℕ) (row : Row) (k : Waiting)
      → Reads (AtOperand n row NoAtoms k) ts (atoms_nesting n d) (AtOperand n row (SomeAtoms s h xs) k)
  atoms_read (first_atom d) n row k = atom_reads d n row NoAtoms k
  atoms_read (more_atoms ts us {s = s} {h = h} {xs = xs} d f) n row k = then ts us (atoms_read d n row k) (atom_reads f n row (SomeAtoms s h xs) k)

  atom_reads : {ts : List Token} {s : Span} {e : Expr} (d : SpellsAtom ts s e) (n : ℕ) (row : Row) (xs : Atoms) (k : Waiting)
      → Reads (AtOperand n row xs k) ts (atom_nesting n d) (AtOperand n row (add_atom xs s e) k)
  atom_reads name n row xs k = first _ [] (nothing _)
  atom_reads type_word n row xs k = first _ [] (nothing _)
  atom_reads (parens ts r {l = l} d) n row xs k =
      first (sign l LeftParen) _ (whole_then ts [] RightParen r right_paren (expr_reads d (n + 1) (InParens l n row xs k)) (nothing _))

  binding_reads : {ts : List Token} {s : Span} {e : Expr} (d : SpellsBinding ts s e) (n : ℕ) (row : Row) (xs : Atoms) (k : Waiting)
      → ReadsWhole (AtOperand n row xs k) ts (binding_nesting n d) k (row_span row (last_span xs s)) (row_tree row (last_span xs s) (last_tree xs s e))
  binding_reads (pi ts us r {l = l} {c = c} {x = x} {a = a} v d f) n row xs k =
      let body = body_whole (expr_reads f (n + 1) (InBody l (PiOf x a) row xs k)) in
      let domain = whole_then_whole ts us RightBrace r right_brace (expr_reads d (n + 1) (InDomain Curly l x n row xs k)) body in
      first_whole (sign l LeftBrace) _ (variable_first _ v (first_whole (sign c ColonSign) _ domain))
  binding_reads (lam us {l = l} {r = r} {x = x} v f) n row xs k =
      let body = body_whole (expr_reads f (n + 1) (InBody l (LamOf x) row xs k)) in
      first_whole (sign l LeftBracket) _ (variable_first _ v (first_whole (sign r RightBracket) us body))
  binding_reads (typed_lam ts us r {l = l} {c = c} {x = x} {a = a} v d f) n row xs k =
      let body = body_whole (expr_reads f (n + 1) (InBody l (TypedLamOf x a) row xs k)) in
      let domain = whole_then_whole ts us RightBracket r right_bracket (expr_reads d (n + 1) (InDomain Square l x n row xs k)) body in
      first_whole (sign l LeftBracket) _ (variable_first _ v (first_whole (sign c ColonSign) _ domain))

-- ---- assignments, declarations, modules

morph_reads : {ts : List Token} {ws : List Written} (d : SpellsMorph ts ws) (done : List Written → State) → Reads (at_morph done) ts (morph_nesting d) (MoreWords ws done)
unfolding morph_nesting
morph_reads one_word done = first _ [] (nothing _)
morph_reads (more_words ts ws s p d) done = then ts _ (morph_reads d done) (first (ident s p) [] (nothing _))

assign_reads : {ts : List Token} {a : Assign} (d : SpellsAssign ts a) (o : Owner) (xs : List Assign) → Reads (AtAssign o xs) ts (assign_nesting d) (AtAssign o (xs ++ (a ∷ [])))
unfolding assign_nesting resume
assign_reads (const_assign ts d f) o xs = first _ _ (first _ _ (whole_then ts [] DotSign d dot (expr_reads f 1 _) (nothing _)))
assign_reads (include_assign ts d f) o xs = first _ _ (then ts _ (morph_reads f _) (first (sign d DotSign) [] (nothing _)))
assign_reads (struct_assign ts d f) o xs = first _ _ (first _ _ (first _ _ (then ts _ (morph_reads f _) (first (sign d DotSign) [] (nothing _)))))

assigns_read : {ts : List Token} {xs : List Assign} (d : SpellsAssigns ts xs) (o : Owner) → Reads (AtAssign o []) ts (assigns_nesting d) (AtAssign o xs)
unfolding assigns_nesting
assigns_read no_assigns o = nothing _
assigns_read (more_assigns ts us xs d f) o = then ts us (assigns_read d o) (assign_reads f o xs)

decl_reads : {ts : List Token} {d : Decl} (f : SpellsDecl ts d) (x : Simple) (ds : List Decl) → Reads (AtDecl x ds) ts (decl_nesting f) (AtDecl x (ds ++ (d ∷ [])))
unfolding decl_nesting resume
decl_reads include_decl x ds = first _ _ (first _ _ (first _ [] (nothing _)))
decl_reads bare_struct x ds = first _ _ (first _ _ (first _ _ (first _ _ (first _ [] (nothing _)))))
decl_reads (struct ts r d f) x ds =
    first _ _ (first _ _ (first _ _ (first _ _ (first _ _ (first _ _ (then ts _ (assigns_read f _) (first (sign r RightBrace) _ (first (sign d DotSign) [] (nothing _)))))))))
decl_reads (const ts d f) x ds = first _ _ (first _ _ (whole_then ts [] DotSign d dot (expr_reads f 1 _) (nothing _)))
decl_reads (defined ts us q d f g) x ds =
    first _ _ (first _ _ (whole_then ts _ EqualSign q equal (expr_reads f 1 _) (whole_then us [] DotSign d dot (expr_reads g 1 _) (nothing _))))

decls_read : {ts : List Token} {ds : List Decl} (f : SpellsDecls ts ds) (x : Simple) → Reads (AtDecl x []) ts (decls_nesting f) (AtDecl x ds)
unfolding decls_nesting
decls_read no_decls x = nothing _
decls_read (more_decls ts us ds d f) x = then ts us (decls_read d x) (decl_reads f x ds)

module_reads : {ts : List Token} {m : Module} (d : SpellsModule ts m) → Reads AtModule ts (module_nesting d) (Whole (ModuleTree m))
unfolding module_nesting
module_reads (sig ts r d z f) =
    first _ _ (first _ _ (first _ _ (first _ _ (then ts _ (decls_read f _) (first (sign r RightBrace) _ (first (sign d DotSign) _ (first (sign z EndSign) [] (nothing _))))))))
module_reads (view ts r d z f) =
    first _ _ (first _ _ (first _ _ (first _ _ (first _ _ (first _ _ (first _ _ (first _ _ (then ts _ (assigns_read f _) (first (sign r RightBrace) _ (first (sign d DotSign) _ (first (sign z EndSign) [] (nothing _))))))))))))

judgement_reads : {ts : List Token} {j : Judgement} (d : SpellsJudgement ts j) → Reads (at_expr 1 (Ends ObjectOf)) ts (judgement_nesting d) (Whole (JudgementTree j))
unfolding judgement_nesting resume
judgement_reads (judgement ts us c z f g) = whole_then ts _ ColonSign c colon (expr_reads f 1 _) (whole_then us [] EndSign z end (expr_reads g 1 _) (nothing _))

-- What is spelled is read, and its tokens stand at the nestings of the derivation.
pub spelled_reads : {target : Target} {ts : List Token} {t : Tree} (d : Spells target ts t) → Reads (start target) ts (nesting d) (Whole t)
unfolding nesting
spelled_reads (spells_module d) = module_reads d
spelled_reads (spells_judgement d) = judgement_reads d

tree_is : (t u : Tree) → Whole t ≡ Whole u → t ≡ u
tree_is t u e = cc

-- So tokens spell one tree at most.
pub trees_are_determined : TreesAreDetermined
trees_are_determined target ts t u d f = tree_is t u (sym (spelled_reads d).to ∙ (spelled_reads f).to)
