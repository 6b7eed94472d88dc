-- At which nesting each token of a spelled text stands (this profile). Only the tokens that begin an atom or a binder
-- stand at a nesting. It is told by the derivation of the text, token by token in order.
use Rattle.std.specs.Prelude.{ℕ, ◌+◌, List, [], ◌∷◌, ◌++◌, Option, Some, None}
use Rattle.text_meaning.specs.Tokens.{Span, Token}
use Rattle.text_meaning.specs.Trees.{Expr, Exprs, Written, Assign, Decl, Module, Judgement}
use Rattle.text_meaning.specs.Grammar.{SpellsExpr, arrows, backs, SpellsArrows, only_last, only_atoms, arrow, SpellsBacks, back, SpellsTail, tail_last, tail_atoms, tail_more, SpellsLast, only_binder, atoms_binder, SpellsAtoms, first_atom, more_atoms, SpellsAtom, name, type_word, parens, SpellsBinding, pi, lam, typed_lam, SpellsMorph, one_word, more_words, SpellsAssign, const_assign, include_assign, struct_assign, SpellsAssigns, no_assigns, more_assigns, SpellsDecl, include_decl, bare_struct, struct, const, defined, SpellsDecls, no_decls, more_decls, SpellsModule, sig, view, SpellsJudgement, judgement}

abbrev pub Nesting : Type 0
Nesting = Option ℕ

-- in an expression, an operand or an atom at nesting n
unfoldable mutual
  pub expr_nesting : {ts : List Token} {s : Span} {e : Expr} → ℕ → SpellsExpr ts s e → List Nesting
  expr_nesting n (arrows d) = arrows_nesting n d
  expr_nesting n (backs d) = backs_nesting n d

  -- what follows `->` stands one deeper
  pub arrows_nesting : {ts : List Token} {s : Span} {e : Expr} → ℕ → SpellsArrows ts s e → List Nesting
  arrows_nesting n (only_last d) = last_nesting n d
  arrows_nesting n (only_atoms d) = atoms_nesting n d
  arrows_nesting n (arrow ts us a d f) = atoms_nesting n d ++ (None ∷ arrows_nesting (n + 1) f)

  -- each operand after a `<-` stands one deeper than the operand before it
  pub backs_nesting : {ts : List Token} {s : Span} {e : Expr} → ℕ → SpellsBacks ts s e → List Nesting
  backs_nesting n (back ts us a d f) = atoms_nesting n d ++ (None ∷ tail_nesting (n + 1) f)

  pub tail_nesting : {r : Span} {row : Expr} {ts : List Token} {s : Span} {e : Expr} → ℕ → SpellsTail r row ts s e → List Nesting
  tail_nesting n (tail_last d) = last_nesting n d
  tail_nesting n (tail_atoms d) = atoms_nesting n d
  tail_nesting n (tail_more ts us a d f) = atoms_nesting n d ++ (None ∷ tail_nesting (n + 1) f)

  pub last_nesting : {ts : List Token} {s : Span} {e : Expr} → ℕ → SpellsLast ts s e → List Nesting
  last_nesting n (only_binder d) = binding_nesting n d
  last_nesting n (atoms_binder ts us d f) = atoms_nesting n d ++ binding_nesting n f

  pub atoms_nesting : {ts : List Token} {s : Span} {e : Expr} {xs : Exprs} → ℕ → SpellsAtoms ts s e xs → List Nesting
  atoms_nesting n (first_atom d) = atom_nesting n d
  atoms_nesting n (more_atoms ts us d f) = atoms_nesting n d ++ atom_nesting n f

  -- what is inside parentheses stands one deeper
  pub atom_nesting : {ts : List Token} {s : Span} {e : Expr} → ℕ → SpellsAtom ts s e → List Nesting
  atom_nesting n name = Some n ∷ []
  atom_nesting n type_word = Some n ∷ []
  atom_nesting n (parens ts r d) = Some n ∷ (expr_nesting (n + 1) d ++ (None ∷ []))

  -- the domain and the body of a binder stand one deeper
  pub binding_nesting : {ts : List Token} {s : Span} {e : Expr} → ℕ → SpellsBinding ts s e → List Nesting
  binding_nesting n (pi ts us r v d f) = Some n ∷ None ∷ None ∷ (expr_nesting (n + 1) d ++ (None ∷ expr_nesting (n + 1) f))
  binding_nesting n (lam us v f) = Some n ∷ None ∷ None ∷ expr_nesting (n + 1) f
  binding_nesting n (typed_lam ts us r v d f) = Some n ∷ None ∷ None ∷ (expr_nesting (n + 1) d ++ (None ∷ expr_nesting (n + 1) f))

-- the words of a morphism stand at no nesting
unfoldable pub morph_nesting : {ts : List Token} {ws : List Written} → SpellsMorph ts ws → List Nesting
morph_nesting one_word = None ∷ []
morph_nesting (more_words ts ws s p d) = morph_nesting d ++ (None ∷ [])

-- the expressions of assignments, declarations and judgements stand at nesting 1
unfoldable pub assign_nesting : {ts : List Token} {a : Assign} → SpellsAssign ts a → List Nesting
assign_nesting (const_assign ts d f) = None ∷ None ∷ (expr_nesting 1 f ++ (None ∷ []))
assign_nesting (include_assign ts d f) = None ∷ (morph_nesting f ++ (None ∷ []))
assign_nesting (struct_assign ts d f) = None ∷ None ∷ None ∷ (morph_nesting f ++ (None ∷ []))

unfoldable pub assigns_nesting : {ts : List Token} {xs : List Assign} → SpellsAssigns ts xs → List Nesting
assigns_nesting no_assigns = []
assigns_nesting (more_assigns ts us xs d f) = assigns_nesting d ++ assign_nesting f

unfoldable pub decl_nesting : {ts : List Token} {d : Decl} → SpellsDecl ts d → List Nesting
decl_nesting include_decl = None ∷ None ∷ None ∷ []
decl_nesting bare_struct = None ∷ None ∷ None ∷ None ∷ None ∷ []
decl_nesting (struct ts r d f) = None ∷ None ∷ None ∷ None ∷ None ∷ None ∷ (assigns_nesting f ++ (None ∷ None ∷ []))
decl_nesting (const ts d f) = None ∷ None ∷ (expr_nesting 1 f ++ (None ∷ []))
decl_nesting (defined ts us q d f g) = None ∷ None ∷ (expr_nesting 1 f ++ (None ∷ (expr_nesting 1 g ++ (None ∷ []))))

unfoldable pub decls_nesting : {ts : List Token} {ds : List Decl} → SpellsDecls ts ds → List Nesting
decls_nesting no_decls = []
decls_nesting (more_decls ts us ds d f) = decls_nesting d ++ decl_nesting f

unfoldable pub module_nesting : {ts : List Token} {m : Module} → SpellsModule ts m → List Nesting
module_nesting (sig ts r d z f) = None ∷ None ∷ None ∷ None ∷ (decls_nesting f ++ (None ∷ None ∷ None ∷ []))
module_nesting (view ts r d z f) = None ∷ None ∷ None ∷ None ∷ None ∷ None ∷ None ∷ None ∷ (assigns_nesting f ++ (None ∷ None ∷ None ∷ []))

unfoldable pub judgement_nesting : {ts : List Token} {j : Judgement} → SpellsJudgement ts j → List Nesting
judgement_nesting (judgement ts us c z f g) = expr_nesting 1 f ++ (None ∷ (expr_nesting 1 g ++ (None ∷ [])))
