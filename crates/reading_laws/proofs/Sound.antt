-- What is read is spelled: each step keeps a derivation in part.
use Rattle.std.proofs.Common.{◌≡◌, ℕ, ◌+◌, ◌==◌, Bool, true, false, List, [], ◌∷◌, ◌++◌, Option, Some, None, slice_get, if◌then◌else◌, refl, sym, ap, subst, ◌∙◌, append_assoc, append-nil, eqb-true}
use Rattle.text_meaning.specs.Tokens.{Span, Sign, Kind, Mark, Ident, Token, sign, ident, SigWord, ViewWord, IncludeWord, StructWord, OtherWord, Stray, AssignSign, ColonSign, LeftParen, RightParen, LeftBracket, RightBracket, LeftBrace, RightBrace, DotSign, TypeWord, ArrowSign, BackSign, EqualSign, BlankSign, EndSign}
use Rattle.text_meaning.specs.Trees.{Binder, Expr, NameExpr, TypeExpr, Exprs, ArrowExpr, BackExpr, Written, Assign, IncludeAssign, StructAssign, ConstAssign, Decl, IncludeDecl, StructDecl, ConstDecl, SigModule, ViewModule}
use Rattle.text_meaning.specs.Grammar.{join, applied, SpellsBinder, named, blank, SpellsExpr, arrows, backs, SpellsArrows, only_last, only_atoms, arrow, SpellsBacks, back, SpellsTail, tail_last, tail_atoms, tail_more, SpellsLast, only_binder, atoms_binder, SpellsAtoms, first_atom, more_atoms, SpellsAtom, name, type_word, parens, SpellsBinding, pi, lam, typed_lam, SpellsMorph, one_word, more_words, SpellsAssign, const_assign, include_assign, struct_assign, no_assigns, more_assigns, SpellsDecl, include_decl, bare_struct, struct, const, defined, no_decls, more_decls, sig, view, judgement}
use Rattle.text_meaning.specs.Reading.{Target, ModuleText, JudgementText, Tree, ModuleTree, JudgementTree, Spells, spells_module, spells_judgement}
use Rattle.text_meaning.specs.Parsing.{Simple, as_written, Atoms, NoAtoms, SomeAtoms, Row, Plain, AfterArrow, AfterBack, Brace, Curly, Square, Binding, PiOf, LamOf, TypedLamOf, Owner, InStruct, InView, Purpose, ClassOf, ValueOf, ValueFor, ObjectOf, FamilyOf, Waiting, Ends, InParens, InDomain, InBody, InCodomain, State, Refused, Whole, Expect, ExpectName, ExpectPath, MoreWords, AtModule, AtDecl, AfterDomain, AtAssign, AtOperand, AtVariable, AfterVariable, code, expect, add_atom, bound, typed, left_sign, right_sign, last_span, last_tree, row_span, row_tree, at_expr, at_module, at_decl, after_domain, close_owner, at_morph, at_assign, class_ends, purpose_ends, resume, operand_ends, arrow_move, back_move, at_operand, at_variable, after_variable, expect_name, expect_path, step, run, start}
use Rattle.text_meaning.specs.Parsing as machine
use Rattle.reading_laws.proofs.Fits.{name_token, path_token, AtomsFit, RowFits, is_codomain, Fills, InSig, InAssigns, HasClass, PurposeFits, Waits, OpenedAt, AfterDomainFits, Fits}

-- ---- signs

sign_of : ℕ → Option Sign
sign_of n = slice_get (SigWord ∷ ViewWord ∷ IncludeWord ∷ StructWord ∷ OtherWord ∷ Stray ∷ AssignSign ∷ ColonSign ∷ LeftParen ∷ RightParen ∷ LeftBracket ∷ RightBracket ∷ LeftBrace ∷ RightBrace ∷ DotSign ∷ TypeWord ∷ ArrowSign ∷ BackSign ∷ EqualSign ∷ BlankSign ∷ EndSign ∷ []) n

sign_back : (m : Sign) → sign_of (code m) ≡ Some m
unfolding sign_of
sign_back SigWord = refl
sign_back ViewWord = refl
sign_back IncludeWord = refl
sign_back StructWord = refl
sign_back OtherWord = refl
sign_back Stray = refl
sign_back AssignSign = refl
sign_back ColonSign = refl
sign_back LeftParen = refl
sign_back RightParen = refl
sign_back LeftBracket = refl
sign_back RightBracket = refl
sign_back LeftBrace = refl
sign_back RightBrace = refl
sign_back DotSign = refl
sign_back TypeWord = refl
sign_back ArrowSign = refl
sign_back BackSign = refl
sign_back EqualSign = refl
sign_back BlankSign = refl
sign_back EndSign = refl

some_sign : (m k : Sign) → Some m ≡ Some k → m ≡ k
some_sign m k e = cc

-- two signs with one number are one
pub code_injective : (m k : Sign) → code m ≡ code k → m ≡ k
code_injective m k e = some_sign m k (sym (sign_back m) ∙ ap sign_of e ∙ sign_back k)

-- ---- expressions

arrows_fill : {ts : List Token} {s : Span} {e : Expr} (c : Bool) → SpellsArrows ts s e → Fills c ts s e
arrows_fill true d = d
arrows_fill false d = arrows d

-- an operand that is whole
data IsOperand : List Token → Span → Expr → Type 0 where
  by_atoms : {ts : List Token} {s : Span} {h : Expr} {xs : Exprs} → SpellsAtoms ts s h xs → IsOperand ts s (applied s h xs)
  by_last : {ts : List Token} {s : Span} {e : Expr} → SpellsLast ts s e → IsOperand ts s e

operand_arrows : {ts : List Token} {s : Span} {e : Expr} → IsOperand ts s e → SpellsArrows ts s e
operand_arrows (by_atoms d) = only_atoms d
operand_arrows (by_last d) = only_last d

operand_tail : {ts : List Token} {s : Span} {e : Expr} (r : Span) (b : Expr) → IsOperand ts s e → SpellsTail r b ts (join r s) (BackExpr (join r s) b e)
operand_tail r b (by_atoms d) = tail_atoms d
operand_tail r b (by_last d) = tail_last d

row_fills : (row : Row) (c : Bool) (r ts : List Token) (s : Span) (e : Expr) → RowFits row c r → IsOperand ts s e → Fills c (r ++ ts) (row_span row s) (row_tree row s e)
row_fills Plain c r ts s e f d = subst (λ x. Fills c (x ++ ts) s e) (sym f.0) (arrows_fill c (operand_arrows d))
row_fills AfterArrow c r ts s e f d = subst (λ x. Fills c (x ++ ts) s e) (sym f) (arrows_fill c (operand_arrows d))
row_fills (AfterBack t b) c r ts s e f d = subst (λ x. Fills x (r ++ ts) (join t s) (BackExpr (join t s) b e)) (sym f.0) (backs (f.1 ts (join t s) (BackExpr (join t s) b e) (operand_tail t b d)))

add_atom_fits : (xs : Atoms) (a us : List Token) (u : Span) (e : Expr) → AtomsFit xs a → SpellsAtom us u e → AtomsFit (add_atom xs u e) (a ++ us)
add_atom_fits NoAtoms a us u e f d = subst (λ x. SpellsAtoms (x ++ us) u e Exprs.NoArgs) (sym f) (first_atom d)
add_atom_fits (SomeAtoms s h xs) a us u e f d = more_atoms a us f d

last_fits : (xs : Atoms) (a us : List Token) (u : Span) (e : Expr) → AtomsFit xs a → SpellsBinding us u e → SpellsLast (a ++ us) (last_span xs u) (last_tree xs u e)
last_fits NoAtoms a us u e f d = subst (λ x. SpellsLast (x ++ us) u e) (sym f) (only_binder d)
last_fits (SomeAtoms s h xs) a us u e f d = atoms_binder a us f d

-- a binder whose domain has been read
domain_binds : (b : Brace) (l c r u : Span) (v : Token) (x : Binder) (ts us : List Token) (s : Span) (a e : Expr) → SpellsBinder v x → SpellsExpr ts s a → SpellsExpr us u e
    → SpellsBinding ((sign l (left_sign b) ∷ v ∷ sign c ColonSign ∷ (ts ++ (sign r (right_sign b) ∷ []))) ++ us) (join l u) (bound (join l u) (typed b x a) e)
domain_binds Curly l c r u v x ts us s a e f d g =
    subst (λ z. SpellsBinding (sign l LeftBrace ∷ v ∷ sign c ColonSign ∷ z) (join l u) (bound (join l u) (PiOf x a) e)) (sym (append_assoc ts (sign r RightBrace ∷ []) us)) (pi ts us r f d g)
domain_binds Square l c r u v x ts us s a e f d g =
    subst (λ z. SpellsBinding (sign l LeftBracket ∷ v ∷ sign c ColonSign ∷ z) (join l u) (bound (join l u) (TypedLamOf x a) e)) (sym (append_assoc ts (sign r RightBracket ∷ []) us)) (typed_lam ts us r f d g)

-- ---- steps

module _ (target : Target) where
  moved : (s : State) (a b : List Token) → a ≡ b → Fits target s a → Fits target s b
  moved s a b e f = subst (Fits target s) e f

  expect_go : (t : Bool) (next : State) (before : List Token) → (t ≡ true → Fits target next before) → Fits target (if t then next else Refused) before
  unfolding Fits
  expect_go true next before f = f refl
  expect_go false next before f = tt

  -- a sign that must come
  pub expect_fits : (m : Sign) (s : Span) (kind : Kind) (next : State) (before : List Token)
      → Fits target next (before ++ (sign s m ∷ [])) → Fits target (expect m kind next) (before ++ (record { span = s; kind = kind } ∷ []))
  unfolding Fits
  expect_fits m s (Mark k) next before f =
      expect_go (code m == code k) next (before ++ (sign s k ∷ [])) (λ e. subst (λ x. Fits target next (before ++ (sign s x ∷ []))) (code_injective m k (eqb-true (code m) (code k) e)) f)
  expect_fits m s (Ident p) next before f = tt

  -- an expression begins
  at_expr_fits : (k : Waiting) (n : ℕ) (before : List Token) → is_codomain k ≡ false → Waits target k before → Fits target (at_expr n k) before
  unfolding Fits
  at_expr_fits k n before h w = record { front = before; operands = []; atoms = []; parts = sym (append-nil before); waiting = w; row_fits = (refl, h); atoms_fit = refl }

  add_decl : (x : Simple) (ds : List Decl) (before us after : List Token) (d : Decl) → InSig target x ds before → SpellsDecl us d → after ≡ before ++ us → InSig target x (ds ++ (d ∷ [])) after
  add_decl x ds before us after d f g e =
      record { is_module = f.is_module; i = f.i; q = f.q; l = f.l; ts = f.ts ++ us; parts = e ∙ ap (λ z. z ++ us) f.parts; decls = more_decls f.ts us ds f.decls g }

  add_assign : (o : Owner) (xs : List Assign) (before us after : List Token) (a : Assign) → InAssigns target o xs before → SpellsAssign us a → after ≡ before ++ us → InAssigns target o (xs ++ (a ∷ [])) after
  add_assign o xs before us after a f g e =
      record { front = f.front; ts = f.ts ++ us; parts = e ∙ ap (λ z. z ++ us) f.parts ∙ append_assoc f.front f.ts us; owner = f.owner; assigns = more_assigns f.ts us xs f.assigns g }

  class_fits : (x : Simple) (ds : List Decl) (c : Simple) (before ts : List Token) (s : Span) (e : Expr) (z : Span) (kind : Kind) → HasClass target x ds c before → SpellsExpr ts s e
      → Fits target (class_ends x ds c e kind) (before ++ (ts ++ (record { span = z; kind = kind } ∷ [])))
  unfolding Fits Waits
  class_fits x ds c before ts s e z (Mark DotSign) f d =
      add_decl x ds f.front (name_token c ∷ sign f.c ColonSign ∷ (ts ++ (sign z DotSign ∷ []))) _ (ConstDecl (as_written c) e None) f.in_sig (const ts z d)
      (ap (λ l. l ++ (ts ++ (sign z DotSign ∷ []))) f.parts ∙ append_assoc f.front _ _)
  class_fits x ds c before ts s e z (Mark EqualSign) f d =
      at_expr_fits (Ends (ValueOf x ds c e)) 1 _ refl
      (record { front = f.front; c = f.c; q = z; u = s; ts = ts; parts = ap (λ l. l ++ (ts ++ (sign z EqualSign ∷ []))) f.parts ∙ append_assoc f.front _ _; in_sig = f.in_sig; class = d })
  class_fits x ds c before ts s e z _ f d = tt

  purpose_fits : (p : Purpose) (before ts : List Token) (s : Span) (e : Expr) (z : Span) (kind : Kind) → PurposeFits target p before → SpellsExpr ts s e
      → Fits target (purpose_ends p e kind) ((before ++ ts) ++ (record { span = z; kind = kind } ∷ []))
  unfolding Fits Waits
  purpose_fits (ClassOf x ds c) before ts s e z kind f d = moved (class_ends x ds c e kind) _ _ (sym (append_assoc before ts _)) (class_fits x ds c before ts s e z kind f d)
  purpose_fits (ValueOf x ds c a) before ts s e z kind f d =
      expect_fits DotSign z kind _ (before ++ ts)
      (add_decl x ds f.front (name_token c ∷ sign f.c ColonSign ∷ (f.ts ++ (sign f.q EqualSign ∷ (ts ++ (sign z DotSign ∷ []))))) _ (ConstDecl (as_written c) a (Some e)) f.in_sig (defined f.ts ts f.q z f.class d)
      (ap (λ l. (l ++ ts) ++ (sign z DotSign ∷ [])) f.parts ∙ simp append_assoc))
  purpose_fits (ValueFor o xs t) before ts s e z kind f d =
      expect_fits DotSign z kind _ (before ++ ts)
      (add_assign o xs f.front (path_token t ∷ sign f.a AssignSign ∷ (ts ++ (sign z DotSign ∷ []))) _ (ConstAssign t e) f.in_assigns (const_assign ts z d)
      (ap (λ l. (l ++ ts) ++ (sign z DotSign ∷ [])) f.parts ∙ simp append_assoc))
  purpose_fits ObjectOf before ts s e z kind f d =
      expect_fits ColonSign z kind _ (before ++ ts)
      (at_expr_fits (Ends (FamilyOf e)) 1 _ refl (record { is_judgement = f.0; ts = ts; u = s; c = z; parts = ap (λ l. (l ++ ts) ++ (sign z ColonSign ∷ [])) f.1; object = d }))
  purpose_fits (FamilyOf o) before ts s e z kind f d =
      expect_fits EndSign z kind _ (before ++ ts)
      (subst (λ g. Spells g ((before ++ ts) ++ (sign z EndSign ∷ [])) (JudgementTree (record { object = o; family = e }))) (sym f.is_judgement)
      (subst (λ l. Spells JudgementText l (JudgementTree (record { object = o; family = e }))) (sym (ap (λ l. (l ++ ts) ++ (sign z EndSign ∷ [])) f.parts ∙ simp append_assoc))
      (spells_judgement (judgement f.ts ts f.c z f.object d))))

  -- an expression that is whole, and the token behind it
  resume_fits : (k : Waiting) (before ts : List Token) (s : Span) (e : Expr) (t : Token) → Waits target k before → Fills (is_codomain k) ts s e
      → Fits target (resume k s e t) ((before ++ ts) ++ (t ∷ []))
  unfolding Fits Waits resume
  resume_fits (Ends p) before ts s e t w d = purpose_fits p before ts s e t.span t.kind w d
  resume_fits (InParens l n row xs k) before ts s e t w d =
      let o = w.2 in
      let inner = sign l LeftParen ∷ (ts ++ (sign t.span RightParen ∷ [])) in
      expect_fits RightParen t.span t.kind _ (before ++ ts)
      (record {
        front = o.front;
        operands = o.operands;
        atoms = o.atoms ++ inner;
        parts = ap (λ x. (x ++ ts) ++ (sign t.span RightParen ∷ [])) (w.1 ∙ ap (λ x. x ++ (sign l LeftParen ∷ [])) o.parts) ∙ simp append_assoc;
        waiting = o.waiting;
        row_fits = o.row_fits;
        atoms_fit = add_atom_fits xs o.atoms inner (join l t.span) e o.atoms_fit (parens ts t.span d);
      })
  resume_fits (InDomain b l x n row xs k) before ts s e t w d =
      let r = sign t.span (right_sign b) in
      let mid = sign l (left_sign b) ∷ w.1 ∷ sign w.2 ColonSign ∷ (ts ++ (r ∷ [])) in
      expect_fits (right_sign b) t.span t.kind _ (before ++ ts)
      (at_expr_fits (InBody l (typed b x e) row xs k) (n + 1) ((before ++ ts) ++ (r ∷ [])) refl
      (w.0, mid, ap (λ x. (x ++ ts) ++ (r ∷ [])) w.3 ∙ simp append_assoc, (λ us u f g. domain_binds b l w.2 t.span u w.1 x ts us s e f w.4 d g), w.5))
  resume_fits (InBody l b row xs k) before ts s e t w d =
      let o = w.4 in
      let binding = w.3 ts s e d in
      let last = last_fits xs o.atoms (w.1 ++ ts) (join l s) (bound (join l s) b e) o.atoms_fit binding in
      let whole = row_fills row (is_codomain k) o.operands (o.atoms ++ (w.1 ++ ts)) _ _ o.row_fits (by_last last) in
      moved (resume k (row_span row (last_span xs (join l s))) (row_tree row (last_span xs (join l s)) (last_tree xs (join l s) (bound (join l s) b e))) t)
      ((o.front ++ (o.operands ++ (o.atoms ++ (w.1 ++ ts)))) ++ (t ∷ [])) ((before ++ ts) ++ (t ∷ []))
      (sym (ap (λ x. (x ++ ts) ++ (t ∷ [])) (w.2 ∙ ap (λ x. x ++ w.1) o.parts) ∙ simp append_assoc))
      (resume_fits k o.front (o.operands ++ (o.atoms ++ (w.1 ++ ts))) _ _ t o.waiting whole)
  resume_fits (InCodomain a b k) before ts s e t w d =
      moved (resume k (join a s) (ArrowExpr (join a s) b e) t) ((w.0 ++ (w.1 ++ ts)) ++ (t ∷ [])) ((before ++ ts) ++ (t ∷ []))
      (sym (ap (λ x. (x ++ ts) ++ (t ∷ [])) w.2 ∙ simp append_assoc))
      (resume_fits k w.0 (w.1 ++ ts) _ _ t w.4 (arrows_fill (is_codomain k) (w.3 ts s e d)))

  operand_fits : (row : Row) (xs : Atoms) (k : Waiting) (before : List Token) (t : Token) → OpenedAt target k row xs before → Fits target (operand_ends row xs k t) (before ++ (t ∷ []))
  unfolding Fits
  operand_fits row NoAtoms k before t o = tt
  operand_fits row (SomeAtoms s h xs) k before t o =
      moved (resume k (row_span row s) (row_tree row s (applied s h xs)) t) ((o.front ++ (o.operands ++ o.atoms)) ++ (t ∷ [])) (before ++ (t ∷ [])) (ap (λ x. x ++ (t ∷ [])) (sym o.parts))
      (resume_fits k o.front (o.operands ++ o.atoms) _ _ t o.waiting (row_fills row (is_codomain k) o.operands o.atoms _ _ o.row_fits (by_atoms o.atoms_fit)))

  atom_fits : (n : ℕ) (row : Row) (xs : Atoms) (k : Waiting) (before : List Token) (t : Token) (s : Span) (e : Expr) → OpenedAt target k row xs before → SpellsAtom (t ∷ []) s e
      → Fits target (AtOperand n row (add_atom xs s e) k) (before ++ (t ∷ []))
  unfolding Fits
  atom_fits n row xs k before t s e o d =
      record {
        front = o.front;
        operands = o.operands;
        atoms = o.atoms ++ (t ∷ []);
        parts = ap (λ x. x ++ (t ∷ [])) o.parts ∙ simp append_assoc;
        waiting = o.waiting;
        row_fits = o.row_fits;
        atoms_fit = add_atom_fits xs o.atoms (t ∷ []) s e o.atoms_fit d;
      }

  -- behind `->`
  codomain_fits : (n : ℕ) (row : Row) (s : Span) (h : Expr) (xs : Exprs) (k : Waiting) (before : List Token) (z : Span) (o : OpenedAt target k row (SomeAtoms s h xs) before) → o.operands ≡ []
      → Fits target (AtOperand (n + 1) AfterArrow NoAtoms (InCodomain s (applied s h xs) k)) (before ++ (sign z ArrowSign ∷ []))
  unfolding Fits Waits
  codomain_fits n row s h xs k before z o e =
      let mid = o.atoms ++ (sign z ArrowSign ∷ []) in
      let build : (us : List Token) (u : Span) (f : Expr) → SpellsArrows us u f → SpellsArrows (mid ++ us) (join s u) (ArrowExpr (join s u) (applied s h xs) f)
      = λ us u f g. subst (λ l. SpellsArrows l (join s u) (ArrowExpr (join s u) (applied s h xs) f)) (sym (append_assoc o.atoms (sign z ArrowSign ∷ []) us)) (arrow o.atoms us z o.atoms_fit g) in
      let here : before ++ (sign z ArrowSign ∷ []) ≡ o.front ++ mid = ap (λ x. x ++ (sign z ArrowSign ∷ [])) (o.parts ∙ ap (λ x. o.front ++ (x ++ o.atoms)) e) ∙ append_assoc o.front o.atoms _ in
      record {
        front = before ++ (sign z ArrowSign ∷ []);
        operands = [];
        atoms = [];
        parts = sym (append-nil _);
        waiting = (o.front, mid, here, build, o.waiting);
        row_fits = refl;
        atoms_fit = refl;
      }

  arrow_fits : (n : ℕ) (row : Row) (xs : Atoms) (k : Waiting) (before : List Token) (z : Span) → OpenedAt target k row xs before → Fits target (arrow_move n row xs k) (before ++ (sign z ArrowSign ∷ []))
  unfolding Fits
  arrow_fits n row NoAtoms k before z o = tt
  arrow_fits n Plain (SomeAtoms s h xs) k before z o = codomain_fits n Plain s h xs k before z o o.row_fits.0
  arrow_fits n AfterArrow (SomeAtoms s h xs) k before z o = codomain_fits n AfterArrow s h xs k before z o o.row_fits
  arrow_fits n (AfterBack r b) (SomeAtoms s h xs) k before z o = tt

  -- behind `<-`
  back_row : (s : Span) (h : Expr) (xs : Exprs) (a r : List Token) (z : Span) → r ≡ [] → SpellsAtoms a s h xs
      → (us : List Token) (u : Span) (e : Expr) → SpellsTail s (applied s h xs) us u e → SpellsBacks ((r ++ (a ++ (sign z BackSign ∷ []))) ++ us) u e
  back_row s h xs a r z n d us u e f =
      subst (λ l. SpellsBacks l u e) (sym (ap (λ x. (x ++ (a ++ (sign z BackSign ∷ []))) ++ us) n ∙ append_assoc a (sign z BackSign ∷ []) us)) (back a us z d f)

  more_row : (t : Span) (b : Expr) (s : Span) (h : Expr) (xs : Exprs) (a r : List Token) (z : Span)
      → ((us : List Token) (u : Span) (e : Expr) → SpellsTail t b us u e → SpellsBacks (r ++ us) u e) → SpellsAtoms a s h xs
      → (us : List Token) (u : Span) (e : Expr) → SpellsTail (join t s) (BackExpr (join t s) b (applied s h xs)) us u e → SpellsBacks ((r ++ (a ++ (sign z BackSign ∷ []))) ++ us) u e
  more_row t b s h xs a r z g d us u e f =
      let l : (r ++ (a ++ (sign z BackSign ∷ []))) ++ us ≡ r ++ (a ++ (sign z BackSign ∷ us)) = simp append_assoc in
      subst (λ l. SpellsBacks l u e) (sym l) (g (a ++ (sign z BackSign ∷ us)) u e (tail_more a us z d f))

  back_fits : (n : ℕ) (row : Row) (xs : Atoms) (k : Waiting) (before : List Token) (z : Span) → OpenedAt target k row xs before → Fits target (back_move n row xs k) (before ++ (sign z BackSign ∷ []))
  unfolding Fits
  back_fits n row NoAtoms k before z o = tt
  back_fits n AfterArrow (SomeAtoms s h xs) k before z o = tt
  back_fits n Plain (SomeAtoms s h xs) k before z o =
      record {
        front = o.front;
        operands = o.operands ++ (o.atoms ++ (sign z BackSign ∷ []));
        atoms = [];
        parts = ap (λ x. x ++ (sign z BackSign ∷ [])) o.parts ∙ simp (append_assoc, append-nil);
        waiting = o.waiting;
        row_fits = (o.row_fits.1, back_row s h xs o.atoms o.operands z o.row_fits.0 o.atoms_fit);
        atoms_fit = refl;
      }
  back_fits n (AfterBack r b) (SomeAtoms s h xs) k before z o =
      record {
        front = o.front;
        operands = o.operands ++ (o.atoms ++ (sign z BackSign ∷ []));
        atoms = [];
        parts = ap (λ x. x ++ (sign z BackSign ∷ [])) o.parts ∙ simp (append_assoc, append-nil);
        waiting = o.waiting;
        row_fits = (o.row_fits.0, more_row r b s h xs o.atoms o.operands z o.row_fits.1 o.atoms_fit);
        atoms_fit = refl;
      }

  at_operand_fits : (n : ℕ) (row : Row) (xs : Atoms) (k : Waiting) (before : List Token) (s : Span) (kind : Kind) → OpenedAt target k row xs before
      → Fits target (at_operand n row xs k s kind) (before ++ (record { span = s; kind = kind } ∷ []))
  unfolding Fits Waits
  at_operand_fits n row xs k before s (Ident p) o = atom_fits n row xs k before (ident s p) s (NameExpr s p) o name
  at_operand_fits n row xs k before s (Mark TypeWord) o = atom_fits n row xs k before (sign s TypeWord) s (TypeExpr s) o type_word
  at_operand_fits n row xs k before s (Mark LeftParen) o = at_expr_fits (InParens s n row xs k) (n + 1) (before ++ (sign s LeftParen ∷ [])) refl (before, refl, o)
  at_operand_fits n row xs k before s (Mark LeftBrace) o = (before, refl, o)
  at_operand_fits n row xs k before s (Mark LeftBracket) o = (before, refl, o)
  at_operand_fits n row xs k before s (Mark ArrowSign) o = arrow_fits n row xs k before s o
  at_operand_fits n row xs k before s (Mark BackSign) o = back_fits n row xs k before s o
  at_operand_fits n row xs k before s (Mark m) o = operand_fits row xs k before (sign s m) o

  at_variable_fits : (b : Brace) (l : Span) (n : ℕ) (row : Row) (xs : Atoms) (k : Waiting) (before : List Token) (s : Span) (kind : Kind)
      → Fits target (AtVariable b l n row xs k) before → Fits target (at_variable b l n row xs k kind) (before ++ (record { span = s; kind = kind } ∷ []))
  unfolding Fits
  at_variable_fits b l n row xs k before s (Mark BlankSign) f = (f.0, sign s BlankSign, ap (λ x. x ++ (sign s BlankSign ∷ [])) f.1 ∙ append_assoc f.0 _ _, blank, f.2)
  at_variable_fits b l n row xs k before s (Ident (x ∷ [])) f = (f.0, ident s (x ∷ []), ap (λ y. y ++ (ident s (x ∷ []) ∷ [])) f.1 ∙ append_assoc f.0 _ _, named, f.2)
  at_variable_fits b l n row xs k before s _ f = tt

  after_variable_fits : (b : Brace) (l : Span) (x : Binder) (n : ℕ) (row : Row) (xs : Atoms) (k : Waiting) (before : List Token) (s : Span) (kind : Kind)
      → Fits target (AfterVariable b l x n row xs k) before → Fits target (after_variable b l x n row xs k kind) (before ++ (record { span = s; kind = kind } ∷ []))
  unfolding Fits Waits
  after_variable_fits b l x n row xs k before s (Mark ColonSign) f =
      at_expr_fits (InDomain b l x n row xs k) (n + 1) (before ++ (sign s ColonSign ∷ [])) refl
      (f.0, f.1, s, ap (λ y. y ++ (sign s ColonSign ∷ [])) f.2 ∙ append_assoc f.0 _ _, f.3, f.4)
  after_variable_fits Square l x n row xs k before s (Mark RightBracket) f =
      at_expr_fits (InBody l (LamOf x) row xs k) (n + 1) (before ++ (sign s RightBracket ∷ [])) refl
      (f.0, sign l LeftBracket ∷ f.1 ∷ sign s RightBracket ∷ [], ap (λ y. y ++ (sign s RightBracket ∷ [])) f.2 ∙ append_assoc f.0 _ _, (λ us u e d. lam us f.3 d), f.4)
  after_variable_fits b l x n row xs k before s _ f = tt

  at_module_fits : (before : List Token) (s : Span) (kind : Kind) → Fits target AtModule before → Fits target (at_module kind) (before ++ (record { span = s; kind = kind } ∷ []))
  unfolding Fits
  at_module_fits before s (Mark SigWord) f =
      λ x q l. record {
        is_module = f.0;
        i = s;
        q = q;
        l = l;
        ts = [];
        parts = ap (λ b. (((b ++ (sign s SigWord ∷ [])) ++ (name_token x ∷ [])) ++ (sign q EqualSign ∷ [])) ++ (sign l LeftBrace ∷ [])) f.1;
        decls = no_decls;
      }
  at_module_fits before s (Mark ViewWord) f =
      λ x c y a z q l. record {
        front = _;
        ts = [];
        parts = sym (append-nil _);
        owner = record {
          is_module = f.0;
          i = s;
          c = c;
          a = a;
          q = q;
          l = l;
          parts = ap (λ b. (((((((b ++ (sign s ViewWord ∷ [])) ++ (name_token x ∷ [])) ++ (sign c ColonSign ∷ [])) ++ (name_token y ∷ [])) ++ (sign a ArrowSign ∷ [])) ++ (name_token z ∷ [])) ++ (sign q EqualSign ∷ [])) ++ (sign l LeftBrace ∷ [])) f.1;
        };
        assigns = no_assigns;
      }
  at_module_fits before s _ f = tt

  close_sig : (x : Simple) (ds : List Decl) (before : List Token) (r d z : Span) → InSig target x ds before
      → Spells target (((before ++ (sign r RightBrace ∷ [])) ++ (sign d DotSign ∷ [])) ++ (sign z EndSign ∷ [])) (ModuleTree (SigModule (as_written x) ds))
  close_sig x ds before r d z f =
      let parts = ap (λ b. ((b ++ (sign r RightBrace ∷ [])) ++ (sign d DotSign ∷ [])) ++ (sign z EndSign ∷ [])) f.parts ∙ simp append_assoc in
      subst (λ g. Spells g (((before ++ (sign r RightBrace ∷ [])) ++ (sign d DotSign ∷ [])) ++ (sign z EndSign ∷ [])) (ModuleTree (SigModule (as_written x) ds))) (sym f.is_module)
      (subst (λ l. Spells ModuleText l (ModuleTree (SigModule (as_written x) ds))) (sym parts) (spells_module (sig f.ts r d z {i = f.i} {q = f.q} {l = f.l} f.decls)))

  at_decl_fits : (x : Simple) (ds : List Decl) (before : List Token) (s : Span) (kind : Kind) → InSig target x ds before → Fits target (at_decl x ds s kind) (before ++ (record { span = s; kind = kind } ∷ []))
  unfolding Fits Waits
  at_decl_fits x ds before s (Mark IncludeWord) f =
      λ y d. add_decl x ds before (sign s IncludeWord ∷ name_token y ∷ sign d DotSign ∷ []) _ (IncludeDecl (as_written y)) f include_decl (simp append_assoc)
  at_decl_fits x ds before s (Mark StructWord) f = λ y c z. record { front = before; i = s; c = c; parts = simp append_assoc; in_sig = f }
  at_decl_fits x ds before s (Mark RightBrace) f = λ d z. close_sig x ds before s d z f
  at_decl_fits x ds before s (Ident (n ∷ [])) f =
      λ c. at_expr_fits (Ends (ClassOf x ds (record { at = s; name = n }))) 1 _ refl (record { front = before; c = c; parts = append_assoc before _ _; in_sig = f })
  at_decl_fits x ds before s _ f = tt

  after_domain_fits : (x : Simple) (ds : List Decl) (y z : Simple) (before : List Token) (s : Span) (kind : Kind) → AfterDomainFits target x ds y z before
      → Fits target (after_domain x ds y z kind) (before ++ (record { span = s; kind = kind } ∷ []))
  unfolding Fits
  after_domain_fits x ds y z before s (Mark DotSign) f =
      add_decl x ds f.front (sign f.i StructWord ∷ name_token y ∷ sign f.c ColonSign ∷ name_token z ∷ sign s DotSign ∷ []) _ (StructDecl (as_written y) (as_written z) []) f.in_sig bare_struct
      (ap (λ b. b ++ (sign s DotSign ∷ [])) f.parts ∙ append_assoc f.front _ _)
  after_domain_fits x ds y z before s (Mark EqualSign) f =
      λ l. record {
        front = _;
        ts = [];
        parts = sym (append-nil _);
        assigns = no_assigns;
        owner = record { front = f.front; i = f.i; c = f.c; q = s; l = l; parts = ap (λ b. (b ++ (sign s EqualSign ∷ [])) ++ (sign l LeftBrace ∷ [])) f.parts ∙ simp append_assoc; in_sig = f.in_sig };
      }
  after_domain_fits x ds y z before s _ f = tt

  close_owner_fits : (o : Owner) (xs : List Assign) (before : List Token) (r : Span) → InAssigns target o xs before → Fits target (close_owner o xs) (before ++ (sign r RightBrace ∷ []))
  unfolding Fits
  close_owner_fits (InStruct x ds y z) xs before r f =
      λ d. let w = f.owner in
      add_decl x ds w.front (sign w.i StructWord ∷ name_token y ∷ sign w.c ColonSign ∷ name_token z ∷ sign w.q EqualSign ∷ sign w.l LeftBrace ∷ (f.ts ++ (sign r RightBrace ∷ sign d DotSign ∷ []))) _
      (StructDecl (as_written y) (as_written z) xs) w.in_sig (struct f.ts r d f.assigns)
      (ap (λ b. (b ++ (sign r RightBrace ∷ [])) ++ (sign d DotSign ∷ [])) (f.parts ∙ ap (λ b. b ++ f.ts) w.parts) ∙ simp append_assoc)
  close_owner_fits (InView x y z) xs before r f =
      λ d e. let w = f.owner in
      let parts = ap (λ b. ((b ++ (sign r RightBrace ∷ [])) ++ (sign d DotSign ∷ [])) ++ (sign e EndSign ∷ [])) (f.parts ∙ ap (λ b. b ++ f.ts) w.parts) ∙ simp append_assoc in
      let tree = ModuleTree (ViewModule (as_written x) (as_written y) (as_written z) xs) in
      subst (λ g. Spells g (((before ++ (sign r RightBrace ∷ [])) ++ (sign d DotSign ∷ [])) ++ (sign e EndSign ∷ [])) tree) (sym w.is_module)
      (subst (λ l. Spells ModuleText l tree) (sym parts) (spells_module (view f.ts r d e {i = w.i} {c = w.c} {a = w.a} {q = w.q} {l = w.l} f.assigns)))

  -- the words of a morphism, up to their dot
  morph_fits : (before : List Token) (done : List Written → State) (w : Written)
      → ((us : List Token) (vs : List Written) (d : Span) → SpellsMorph us vs → Fits target (done vs) (before ++ (us ++ (sign d DotSign ∷ []))))
      → Fits target (MoreWords (w ∷ []) done) (before ++ (path_token w ∷ []))
  unfolding Fits
  morph_fits before done w f = (before, path_token w ∷ [], refl, one_word, f)

  at_assign_fits : (o : Owner) (xs : List Assign) (before : List Token) (s : Span) (kind : Kind) → InAssigns target o xs before → Fits target (at_assign o xs s kind) (before ++ (record { span = s; kind = kind } ∷ []))
  unfolding Fits Waits
  at_assign_fits o xs before s (Mark IncludeWord) f =
      λ w. morph_fits (before ++ (sign s IncludeWord ∷ [])) (λ ws. AtAssign o (xs ++ (IncludeAssign ws ∷ []))) w
      (λ us vs d m. add_assign o xs before (sign s IncludeWord ∷ (us ++ (sign d DotSign ∷ []))) _ (IncludeAssign vs) f (include_assign us d m) (append_assoc before _ _))
  at_assign_fits o xs before s (Mark StructWord) f =
      λ t a w. morph_fits (((before ++ (sign s StructWord ∷ [])) ++ (path_token t ∷ [])) ++ (sign a AssignSign ∷ [])) (λ ws. AtAssign o (xs ++ (StructAssign t ws ∷ []))) w
      (λ us vs d m. add_assign o xs before (sign s StructWord ∷ path_token t ∷ sign a AssignSign ∷ (us ++ (sign d DotSign ∷ []))) _ (StructAssign t vs) f (struct_assign us d m) (simp append_assoc))
  at_assign_fits o xs before s (Mark RightBrace) f = close_owner_fits o xs before s f
  at_assign_fits o xs before s (Ident p) f =
      λ a. at_expr_fits (Ends (ValueFor o xs (record { path = p; span = s }))) 1 _ refl (record { front = before; a = a; parts = append_assoc before _ _; in_assigns = f })
  at_assign_fits o xs before s _ f = tt

  more_words_fits : (ws : List Written) (done : List Written → State) (before : List Token) (s : Span) (kind : Kind) → Fits target (MoreWords ws done) before
      → Fits target (machine.more_words ws done s kind) (before ++ (record { span = s; kind = kind } ∷ []))
  unfolding Fits
  more_words_fits ws done before s (Mark DotSign) f =
      moved (done ws) (f.0 ++ (f.1 ++ (sign s DotSign ∷ []))) (before ++ (sign s DotSign ∷ [])) (sym (ap (λ b. b ++ (sign s DotSign ∷ [])) f.2 ∙ append_assoc f.0 f.1 _)) (f.4 f.1 ws s f.3)
  more_words_fits ws done before s (Ident p) f =
      (f.0, f.1 ++ (ident s p ∷ []), ap (λ b. b ++ (ident s p ∷ [])) f.2 ∙ append_assoc f.0 f.1 _, more_words f.1 ws s p f.3, f.4)
  more_words_fits ws done before s _ f = tt

  expect_name_fits : (g : Simple → State) (before : List Token) (s : Span) (kind : Kind) → Fits target (ExpectName g) before → Fits target (expect_name g s kind) (before ++ (record { span = s; kind = kind } ∷ []))
  unfolding Fits
  expect_name_fits g before s (Ident (n ∷ [])) f = f (record { at = s; name = n })
  expect_name_fits g before s _ f = tt

  expect_path_fits : (g : Written → State) (before : List Token) (s : Span) (kind : Kind) → Fits target (ExpectPath g) before → Fits target (expect_path g s kind) (before ++ (record { span = s; kind = kind } ∷ []))
  unfolding Fits
  expect_path_fits g before s (Ident p) f = f (record { path = p; span = s })
  expect_path_fits g before s (Mark m) f = tt

  pub step_fits : (u : State) (before : List Token) (t : Token) → Fits target u before → Fits target (step u t) (before ++ (t ∷ []))
  unfolding Fits
  step_fits Refused before t f = tt
  step_fits (Whole tree) before t f = tt
  step_fits (Expect m next) before t f = expect_fits m t.span t.kind next before (f t.span)
  step_fits (ExpectName g) before t f = expect_name_fits g before t.span t.kind f
  step_fits (ExpectPath g) before t f = expect_path_fits g before t.span t.kind f
  step_fits (MoreWords ws done) before t f = more_words_fits ws done before t.span t.kind f
  step_fits AtModule before t f = at_module_fits before t.span t.kind f
  step_fits (AtDecl x ds) before t f = at_decl_fits x ds before t.span t.kind f
  step_fits (AfterDomain x ds y z) before t f = after_domain_fits x ds y z before t.span t.kind f
  step_fits (AtAssign o xs) before t f = at_assign_fits o xs before t.span t.kind f
  step_fits (AtOperand n row xs k) before t f = at_operand_fits n row xs k before t.span t.kind f
  step_fits (AtVariable b l n row xs k) before t f = at_variable_fits b l n row xs k before t.span t.kind f
  step_fits (AfterVariable b l x n row xs k) before t f = after_variable_fits b l x n row xs k before t.span t.kind f

  pub run_fits : (u : State) (before ts : List Token) → Fits target u before → Fits target (run u ts) (before ++ ts)
  unfolding run
  run_fits u before [] f = moved u before (before ++ []) (sym (append-nil before)) f
  run_fits u before (t ∷ ts) f = moved (run (step u t) ts) ((before ++ (t ∷ [])) ++ ts) (before ++ (t ∷ ts)) (append_assoc before (t ∷ []) ts) (run_fits (step u t) (before ++ (t ∷ [])) ts (step_fits u before t f))

pub start_fits : (target : Target) → Fits target (start target) []
unfolding Fits Waits
start_fits ModuleText = (refl, refl)
start_fits JudgementText = record { front = []; operands = []; atoms = []; parts = refl; waiting = (refl, refl); row_fits = (refl, refl); atoms_fit = refl }

-- What is read is spelled.
pub read_spelled : (target : Target) (ts : List Token) (tree : Tree) → run (start target) ts ≡ Whole tree → Spells target ts tree
unfolding Fits
read_spelled target ts tree e = subst (λ u. Fits target u ts) e (run_fits target (start target) [] ts (start_fits target))
