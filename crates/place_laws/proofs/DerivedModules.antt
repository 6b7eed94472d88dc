-- What tokens spell as a module or a judgement stands where the tokens do, and so does where reading stops.
use Rattle.std.proofs.Common.{ℕ, ◌≤◌, List, [], ◌∷◌, ◌++◌, arith}
use Rattle.text_meaning.specs.Tokens.{Span, Token, sign, ident, AssignSign, ColonSign, LeftBrace, RightBrace, DotSign, EqualSign, EndSign, SigWord, ViewWord, IncludeWord, StructWord, ArrowSign}
use Rattle.text_meaning.specs.Trees.{Expr, Written, Assign, Decl, Module}
use Rattle.text_meaning.specs.Grammar.{SpellsExpr, SpellsMorph, one_word, more_words, SpellsAssign, const_assign, include_assign, struct_assign, SpellsAssigns, no_assigns, more_assigns, SpellsDecl, include_decl, bare_struct, struct, const, defined, SpellsDecls, no_decls, more_decls, SpellsModule, sig, view, judgement}
use Rattle.text_meaning.specs.Reading.{Target, Tree, Spells, spells_module, spells_judgement}
use Rattle.span_meaning.specs.Spans.{StandsWithin, ExprStands, WordsStand, AssignStands, AssignsStand, DeclStands, DeclsStand, ModuleStands, TreeStands}
use Rattle.place_laws.proofs.Wider.{words_wider, assigns_wider, decls_wider, within_wider}
use Rattle.place_laws.proofs.Derived.{Rises, rises_forward, parted, words_last, assigns_last, decls_last, expr_in, expr_at}

module _ (a b : ℕ) where
  -- one token among others
  pub token_in : (front : List Token) (t : Token) (back : List Token) → Rises a (front ++ t ∷ back) b → StandsWithin a b t.span
  token_in front t back r =
      let p = parted a front (t ∷ back) b r in
      let w = rises_forward a front p.middle p.front in
      let x = (p.back).0 in
      record { behind = omega (arith, w, x); forward = (p.back).1; before = rises_forward (t.span).to back b (p.back).2 }

  -- a row of tokens among others
  record Inner (ts : List Token) : Type 0 where
    from : ℕ
    to : ℕ
    behind : a ≤ from
    before : to ≤ b
    rises : Rises from ts to

  inner : (front ts back : List Token) → Rises a (front ++ (ts ++ back)) b → Inner ts
  inner front ts back r =
      let p = parted a front (ts ++ back) b r in
      let q = parted p.middle ts back b p.back in
      record { from = p.middle; to = q.middle; behind = rises_forward a front p.middle p.front; before = rises_forward q.middle back b q.back; rises = q.front }

  expr_inner : (front back : List Token) {ts : List Token} {s : Span} {e : Expr} → SpellsExpr ts s e → Rises a (front ++ (ts ++ back)) b → ExprStands (StandsWithin a b) e
  expr_inner front back {ts = ts} {e = e} d r = let i = inner front ts back r in expr_in a b i.from i.to e i.behind i.before (expr_at d i.from i.to i.rises).tree

-- ---- words and assignments

morph_at : {ts : List Token} {ws : List Written} → SpellsMorph ts ws → (a b : ℕ) → Rises a ts b → WordsStand (StandsWithin a b) ws
morph_at (one_word {s = s} {p = p}) a b r = (token_in a b [] (ident s p) [] r, tt)
morph_at (more_words ts ws s p d) a b r =
    let i = inner a b [] ts (ident s p ∷ []) r in
    words_last (StandsWithin a b) ws (record { path = p; span = s }) (words_wider (StandsWithin i.from i.to) (StandsWithin a b) (within_wider a b i.from i.to i.behind i.before) ws (morph_at d i.from i.to i.rises))
    (token_in a b ts (ident s p) [] r)

morph_inner : (a b : ℕ) (front back : List Token) {ts : List Token} {ws : List Written} → SpellsMorph ts ws → Rises a (front ++ (ts ++ back)) b → WordsStand (StandsWithin a b) ws
morph_inner a b front back {ts = ts} {ws = ws} d r =
    let i = inner a b front ts back r in
    words_wider (StandsWithin i.from i.to) (StandsWithin a b) (within_wider a b i.from i.to i.behind i.before) ws (morph_at d i.from i.to i.rises)

assign_at : {ts : List Token} {x : Assign} → SpellsAssign ts x → (a b : ℕ) → Rises a ts b → AssignStands (StandsWithin a b) x
assign_at (const_assign ts d {t = t} {a = k} {p = p} e) a b r = (token_in a b [] (ident t p) (sign k AssignSign ∷ (ts ++ (sign d DotSign ∷ []))) r, expr_inner a b (ident t p ∷ sign k AssignSign ∷ []) (sign d DotSign ∷ []) e r)
assign_at (include_assign ts d {i = i} m) a b r = morph_inner a b (sign i IncludeWord ∷ []) (sign d DotSign ∷ []) m r
assign_at (struct_assign ts d {i = i} {t = t} {a = k} {p = p} m) a b r =
    (token_in a b (sign i StructWord ∷ []) (ident t p) (sign k AssignSign ∷ (ts ++ (sign d DotSign ∷ []))) r, morph_inner a b (sign i StructWord ∷ ident t p ∷ sign k AssignSign ∷ []) (sign d DotSign ∷ []) m r)

assigns_at : {ts : List Token} {xs : List Assign} → SpellsAssigns ts xs → (a b : ℕ) → Rises a ts b → AssignsStand (StandsWithin a b) xs
assigns_at no_assigns a b r = tt
assigns_at (more_assigns ts us xs {a = x} d e) a b r =
    let p = parted a ts us b r in
    let n = rises_forward a ts p.middle p.front in
    let o = rises_forward p.middle us b p.back in
    assigns_last (StandsWithin a b) xs x (assigns_wider (StandsWithin a p.middle) (StandsWithin a b) (within_wider a b a p.middle (omega arith) o) xs (assigns_at d a p.middle p.front))
    (assigns_wider (StandsWithin p.middle b) (StandsWithin a b) (within_wider a b p.middle b n (omega arith)) (x ∷ []) (assign_at e p.middle b p.back, tt)).0

assigns_inner : (a b : ℕ) (front back : List Token) {ts : List Token} {xs : List Assign} → SpellsAssigns ts xs → Rises a (front ++ (ts ++ back)) b → AssignsStand (StandsWithin a b) xs
assigns_inner a b front back {ts = ts} {xs = xs} d r =
    let i = inner a b front ts back r in
    assigns_wider (StandsWithin i.from i.to) (StandsWithin a b) (within_wider a b i.from i.to i.behind i.before) xs (assigns_at d i.from i.to i.rises)

-- ---- declarations

decl_at : {ts : List Token} {x : Decl} → SpellsDecl ts x → (a b : ℕ) → Rises a ts b → DeclStands (StandsWithin a b) x
decl_at (include_decl {i = i} {s = s} {d = d} {n = n}) a b r = token_in a b (sign i IncludeWord ∷ []) (ident s (n ∷ [])) (sign d DotSign ∷ []) r
decl_at (bare_struct {i = i} {s = s} {c = c} {t = t} {d = d} {n = n} {m = m}) a b r = (
  token_in a b (sign i StructWord ∷ []) (ident s (n ∷ [])) (sign c ColonSign ∷ ident t (m ∷ []) ∷ sign d DotSign ∷ []) r,
  token_in a b (sign i StructWord ∷ ident s (n ∷ []) ∷ sign c ColonSign ∷ []) (ident t (m ∷ [])) (sign d DotSign ∷ []) r,
  tt,
)
decl_at (struct ts k d {i = i} {s = s} {c = c} {t = t} {q = q} {l = l} {n = n} {m = m} x) a b r =
    let body : List Token = ts ++ (sign k RightBrace ∷ sign d DotSign ∷ []) in (
      token_in a b (sign i StructWord ∷ []) (ident s (n ∷ [])) (sign c ColonSign ∷ ident t (m ∷ []) ∷ sign q EqualSign ∷ sign l LeftBrace ∷ body) r,
      token_in a b (sign i StructWord ∷ ident s (n ∷ []) ∷ sign c ColonSign ∷ []) (ident t (m ∷ [])) (sign q EqualSign ∷ sign l LeftBrace ∷ body) r,
      assigns_inner a b (sign i StructWord ∷ ident s (n ∷ []) ∷ sign c ColonSign ∷ ident t (m ∷ []) ∷ sign q EqualSign ∷ sign l LeftBrace ∷ []) (sign k RightBrace ∷ sign d DotSign ∷ []) x r,
    )
decl_at (const ts d {s = s} {c = c} {n = n} e) a b r =
    (token_in a b [] (ident s (n ∷ [])) (sign c ColonSign ∷ (ts ++ (sign d DotSign ∷ []))) r, expr_inner a b (ident s (n ∷ []) ∷ sign c ColonSign ∷ []) (sign d DotSign ∷ []) e r, tt)
decl_at (defined ts us q d {s = s} {c = c} {n = n} {f = second} e f) a b r =
    let p = parted a (ident s (n ∷ []) ∷ sign c ColonSign ∷ []) (ts ++ (sign q EqualSign ∷ (us ++ (sign d DotSign ∷ [])))) b r in
    let w = parted p.middle ts (sign q EqualSign ∷ (us ++ (sign d DotSign ∷ []))) b p.back in
    let x = rises_forward a (ident s (n ∷ []) ∷ sign c ColonSign ∷ []) p.middle p.front in
    let y = rises_forward p.middle ts w.middle w.front in (
      token_in a b [] (ident s (n ∷ [])) (sign c ColonSign ∷ (ts ++ (sign q EqualSign ∷ (us ++ (sign d DotSign ∷ []))))) r,
      expr_inner a b (ident s (n ∷ []) ∷ sign c ColonSign ∷ []) (sign q EqualSign ∷ (us ++ (sign d DotSign ∷ []))) e r,
      expr_in a b w.middle b second (omega (arith, x, y)) (omega arith) (expr_inner w.middle b (sign q EqualSign ∷ []) (sign d DotSign ∷ []) f w.back),
    )

decls_at : {ts : List Token} {xs : List Decl} → SpellsDecls ts xs → (a b : ℕ) → Rises a ts b → DeclsStand (StandsWithin a b) xs
decls_at no_decls a b r = tt
decls_at (more_decls ts us xs {d = x} d e) a b r =
    let p = parted a ts us b r in
    let n = rises_forward a ts p.middle p.front in
    let o = rises_forward p.middle us b p.back in
    decls_last (StandsWithin a b) xs x (decls_wider (StandsWithin a p.middle) (StandsWithin a b) (within_wider a b a p.middle (omega arith) o) xs (decls_at d a p.middle p.front))
    (decls_wider (StandsWithin p.middle b) (StandsWithin a b) (within_wider a b p.middle b n (omega arith)) (x ∷ []) (decl_at e p.middle b p.back, tt)).0

-- ---- modules and judgements

module_at : {ts : List Token} {x : Module} → SpellsModule ts x → (a b : ℕ) → Rises a ts b → ModuleStands (StandsWithin a b) x
module_at (sig ts k d z {i = i} {s = s} {q = q} {l = l} {n = n} {ds = ds} x) a b r =
    let back : List Token = sign k RightBrace ∷ sign d DotSign ∷ sign z EndSign ∷ [] in
    let w = inner a b (sign i SigWord ∷ ident s (n ∷ []) ∷ sign q EqualSign ∷ sign l LeftBrace ∷ []) ts back r in (
      token_in a b (sign i SigWord ∷ []) (ident s (n ∷ [])) (sign q EqualSign ∷ sign l LeftBrace ∷ (ts ++ back)) r,
      decls_wider (StandsWithin w.from w.to) (StandsWithin a b) (within_wider a b w.from w.to w.behind w.before) ds (decls_at x w.from w.to w.rises),
    )
module_at (view ts k d z {i = i} {s = s} {c = c} {t = t} {a = g} {u = u} {q = q} {l = l} {n = n} {m = m} {k = o} x) a b r =
    let back : List Token = sign k RightBrace ∷ sign d DotSign ∷ sign z EndSign ∷ [] in
    let body : List Token = sign q EqualSign ∷ sign l LeftBrace ∷ (ts ++ back) in (
      token_in a b (sign i ViewWord ∷ []) (ident s (n ∷ [])) (sign c ColonSign ∷ ident t (m ∷ []) ∷ sign g ArrowSign ∷ ident u (o ∷ []) ∷ body) r,
      token_in a b (sign i ViewWord ∷ ident s (n ∷ []) ∷ sign c ColonSign ∷ []) (ident t (m ∷ [])) (sign g ArrowSign ∷ ident u (o ∷ []) ∷ body) r,
      token_in a b (sign i ViewWord ∷ ident s (n ∷ []) ∷ sign c ColonSign ∷ ident t (m ∷ []) ∷ sign g ArrowSign ∷ []) (ident u (o ∷ [])) body r,
      assigns_inner a b (sign i ViewWord ∷ ident s (n ∷ []) ∷ sign c ColonSign ∷ ident t (m ∷ []) ∷ sign g ArrowSign ∷ ident u (o ∷ []) ∷ sign q EqualSign ∷ sign l LeftBrace ∷ []) back x r,
    )

pub tree_at : {target : Target} {ts : List Token} {x : Tree} → Spells target ts x → (a b : ℕ) → Rises a ts b → TreeStands (StandsWithin a b) x
tree_at (spells_module d) a b r = module_at d a b r
tree_at (spells_judgement (judgement ts us c z {f = second} e f)) a b r =
    let p = parted a ts (sign c ColonSign ∷ (us ++ (sign z EndSign ∷ []))) b r in
    (expr_inner a b [] (sign c ColonSign ∷ (us ++ (sign z EndSign ∷ []))) e r, expr_in a b p.middle b second (rises_forward a ts p.middle p.front) (omega arith) (expr_inner p.middle b (sign c ColonSign ∷ []) (sign z EndSign ∷ []) f p.back))
