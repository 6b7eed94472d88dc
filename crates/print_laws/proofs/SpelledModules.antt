-- The tokens of printed modules spell them, up to spans.
use Rattle.std.proofs.Common.{◌≡◌, ℕ, ◌+◌, List, [], ◌∷◌, ◌++◌, length, refl, sym, ap, ap₂, ◌∙◌, subst, append_assoc, append-nil}
use Rattle.std.specs.Prelude.{Option, Some, None, map, flat_map}
use Rattle.text_meaning.specs.Tokens.{Span, Token, token, sign, ident, spelled, LeftBrace, RightBrace, DotSign, EqualSign, AssignSign, ColonSign, IncludeWord, StructWord, SigWord, ViewWord, ArrowSign, EndSign}
use Rattle.text_meaning.specs.Trees.{Expr, Written, Assign, IncludeAssign, StructAssign, ConstAssign, Decl, IncludeDecl, StructDecl, ConstDecl, Module, SigModule, ViewModule}
use Rattle.text_meaning.specs.Grammar.{written, simple, SpellsMorph, one_word, more_words, SpellsAssign, const_assign, include_assign, struct_assign, SpellsAssigns, no_assigns, more_assigns, SpellsDecl, include_decl, bare_struct, struct, const, defined, SpellsDecls, no_decls, more_decls, SpellsModule, sig, view}
use Rattle.text_meaning.specs.Reading.{with_end}
use Rattle.text_meaning.specs.UpToSpans.{no_span, bare_expr, bare_written, bare_assign, bare_decl, bare_module}
use Rattle.print_meaning.specs.PrintedItems.{Gap, tight, space, new_line, Item, struct_item, colon_item, right_brace, dot_item, equal_item, end_of, tokens_of}
use Rattle.print_meaning.specs.PrintedExpressions.{whole_items}
use Rattle.print_meaning.specs.PrintedModules.{written_item, morph_items, assign_items, body_items, body_gap, value_items, value_gap, decl_items, module_items}
use Rattle.print_laws.proofs.LaidOut.{tokens_append}
use Rattle.print_laws.proofs.WellWritten.{IsWellWritten, IsWrittenName, HasWords, IsWrittenAssign, AreWrittenAssigns, IsWrittenValue, IsWrittenDecl, AreWrittenDecls, IsWrittenModule}
use Rattle.print_laws.proofs.SpelledExpressions.{forms}

-- the span of a token of so many bytes
abbrev span_at : ℕ → ℕ → Span
span_at at count = record { from = at; to = at + count }

-- items, and one more at their end
tokens_last : (at : ℕ) (xs : List Item) (x : Item) → tokens_of at (xs ++ (x ∷ [])) ≡ tokens_of at xs ++ (token (end_of at xs) (end_of at xs + length x.bytes) x.kind ∷ [])
unfolding tokens_of
tokens_last at xs x = tokens_append at xs (x ∷ [])

-- ---- words of morphisms

pub record MorphAt (ts : List Token) (ws : List Written) : Type 0 where
  pub words : List Written
  pub spells : SpellsMorph ts words
  pub same : map bare_written words ≡ map bare_written ws

-- words that go on behind these
morph_from : (front : List Token) (done : List Written) → SpellsMorph front done → (at : ℕ) (ws : List Written) (gap : Gap)
    → (us : List Written) × SpellsMorph (front ++ tokens_of at (morph_items ws gap)) (done ++ us) × (map bare_written us ≡ map bare_written ws)
unfolding morph_items tokens_of
morph_from front done d at [] gap = ([], subst (λ ts. SpellsMorph ts (done ++ [])) (sym (append-nil front)) (subst (SpellsMorph front) (sym (append-nil done)) d), refl)
morph_from front done d at (w ∷ []) gap =
    (written (span_at at (length (spelled w.path))) w.path ∷ [], more_words front done (span_at at (length (spelled w.path))) w.path d, refl)
morph_from front done d at (w ∷ v ∷ ws) gap =
    let s : Span = span_at at (length (spelled w.path)) in
    let next = morph_from (front ++ (ident s w.path ∷ [])) (done ++ (written s w.path ∷ [])) (more_words front done s w.path d) (at + length (spelled w.path) + 1) (v ∷ ws) gap in (
      written s w.path ∷ next.0,
      subst (λ ts. SpellsMorph ts (done ++ (written s w.path ∷ next.0))) (append_assoc front (ident s w.path ∷ []) (tokens_of (at + length (spelled w.path) + 1) (morph_items (v ∷ ws) gap)))
          (subst (SpellsMorph ((front ++ (ident s w.path ∷ [])) ++ tokens_of (at + length (spelled w.path) + 1) (morph_items (v ∷ ws) gap))) (append_assoc done (written s w.path ∷ []) next.0) next.1),
      ap (λ xs. bare_written w ∷ xs) next.2,
    )

morph_at : (at : ℕ) (ws : List Written) (gap : Gap) → HasWords ws → MorphAt (tokens_of at (morph_items ws gap)) ws
unfolding morph_items tokens_of
morph_at at [] gap h = absurd h
morph_at at (w ∷ []) gap h = record { words = written (span_at at (length (spelled w.path))) w.path ∷ []; spells = one_word; same = refl }
morph_at at (w ∷ v ∷ ws) gap h =
    let s : Span = span_at at (length (spelled w.path)) in
    let next = morph_from (ident s w.path ∷ []) (written s w.path ∷ []) one_word (at + length (spelled w.path) + 1) (v ∷ ws) gap in
    record { words = written s w.path ∷ next.0; spells = next.1; same = ap (λ xs. bare_written w ∷ xs) next.2 }

-- ---- assignments

pub record AssignAt (ts : List Token) (x : Assign) : Type 0 where
  pub tree : Assign
  pub spells : SpellsAssign ts tree
  pub same : bare_assign tree ≡ bare_assign x

assign_at : (at : ℕ) (gap : Gap) (x : Assign) → IsWrittenAssign x → AssignAt (tokens_of at (assign_items gap x)) x
unfolding tokens_of bare_assign
assign_at at gap (IncludeAssign m) w =
    let place : ℕ = at + 8 + 1 in
    let end : ℕ = end_of place (morph_items m tight) in
    let words = morph_at place m tight w.0 in
    subst (λ ts. AssignAt (sign (span_at at 8) IncludeWord ∷ ts) (IncludeAssign m)) (sym (tokens_last place (morph_items m tight) (dot_item gap)))
    (record { tree = IncludeAssign words.words; spells = include_assign (tokens_of place (morph_items m tight)) (span_at end 1) words.spells; same = ap IncludeAssign words.same })
assign_at at gap (StructAssign t m) w =
    let target : ℕ = at + 7 + 1 in
    let equal : ℕ = target + length (spelled t.path) + 1 in
    let place : ℕ = equal + 2 + 1 in
    let end : ℕ = end_of place (morph_items m tight) in
    let words = morph_at place m tight w.1.0 in
    subst (λ ts. AssignAt (sign (span_at at 7) StructWord ∷ ident (span_at target (length (spelled t.path))) t.path ∷ sign (span_at equal 2) AssignSign ∷ ts) (StructAssign t m)) (sym (tokens_last place (morph_items m tight) (dot_item gap)))
    (record {
      tree = StructAssign (written (span_at target (length (spelled t.path))) t.path) words.words;
      spells = struct_assign (tokens_of place (morph_items m tight)) (span_at end 1) words.spells;
      same = ap (StructAssign (bare_written t)) words.same;
    })
assign_at at gap (ConstAssign t e) w =
    let equal : ℕ = at + length (spelled t.path) + 1 in
    let place : ℕ = equal + 2 + 1 in
    let end : ℕ = end_of place (whole_items e tight) in
    let value = (forms e w.1).whole place tight in
    subst (λ ts. AssignAt (ident (span_at at (length (spelled t.path))) t.path ∷ sign (span_at equal 2) AssignSign ∷ ts) (ConstAssign t e)) (sym (tokens_last place (whole_items e tight) (dot_item gap)))
    (record {
      tree = ConstAssign (written (span_at at (length (spelled t.path))) t.path) value.tree;
      spells = const_assign (tokens_of place (whole_items e tight)) (span_at end 1) value.spells;
      same = ap (ConstAssign (bare_written t)) value.same;
    })

pub record AssignsAt (ts : List Token) (xs : List Assign) : Type 0 where
  pub trees : List Assign
  pub spells : SpellsAssigns ts trees
  pub same : map bare_assign trees ≡ map bare_assign xs

assigns_from : (front : List Token) (done : List Assign) → SpellsAssigns front done → (at : ℕ) (gap : Gap) (xs : List Assign) → AreWrittenAssigns xs
    → (us : List Assign) × SpellsAssigns (front ++ tokens_of at (flat_map (assign_items gap) xs)) (done ++ us) × (map bare_assign us ≡ map bare_assign xs)
unfolding tokens_of
assigns_from front done d at gap [] w =
    ([], subst (λ ts. SpellsAssigns ts (done ++ [])) (sym (append-nil front)) (subst (SpellsAssigns front) (sym (append-nil done)) d), refl)
assigns_from front done d at gap (x ∷ xs) w =
    let first = assign_at at gap x w.0 in
    let ts : List Token = tokens_of at (assign_items gap x) in
    let place : ℕ = end_of at (assign_items gap x) in
    let later : List Token = tokens_of place (flat_map (assign_items gap) xs) in
    let next = assigns_from (front ++ ts) (done ++ (first.tree ∷ [])) (more_assigns front ts done d first.spells) place gap xs w.1 in (
      first.tree ∷ next.0,
      subst (λ us. SpellsAssigns us (done ++ (first.tree ∷ next.0))) (append_assoc front ts later ∙ ap (λ us. front ++ us) (sym (tokens_append at (assign_items gap x) (flat_map (assign_items gap) xs))))
          (subst (SpellsAssigns ((front ++ ts) ++ later)) (append_assoc done (first.tree ∷ []) next.0) next.1),
      ap₂ (λ y ys. y ∷ ys) first.same next.2,
    )

assigns_at : (at : ℕ) (gap : Gap) (xs : List Assign) → AreWrittenAssigns xs → AssignsAt (tokens_of at (flat_map (assign_items gap) xs)) xs
assigns_at at gap xs w = let all = assigns_from [] [] no_assigns at gap xs w in record { trees = all.0; spells = all.1; same = all.2 }

-- ---- declarations

pub record DeclAt (ts : List Token) (d : Decl) : Type 0 where
  pub tree : Decl
  pub spells : SpellsDecl ts tree
  pub same : bare_decl tree ≡ bare_decl d

-- a name where one name is asked for
name_same : (w : Written) (n : IsWrittenName w) (s : Span) → bare_written (simple s n.name) ≡ bare_written w
name_same w n s = ap (λ p. record { path = p; span = no_span }) (sym n.is)

-- the token of such a name
name_token : (w : Written) (n : IsWrittenName w) (s : Span) → ident s w.path ≡ ident s (n.name ∷ [])
name_token w n s = ap (λ p. ident s p) n.is

struct_body : (at : ℕ) (n d : Written) (xs : List Assign) → IsWrittenName n → IsWrittenName d → AreWrittenAssigns xs
    → DeclAt (tokens_of at (struct_item ∷ written_item n space ∷ colon_item ∷ written_item d (body_gap xs) ∷ (body_items xs ++ (dot_item new_line ∷ [])))) (StructDecl n d xs)
unfolding tokens_of bare_decl
struct_body at n d [] v w ws =
    let name : ℕ = at + 7 + 1 in
    let colon : ℕ = name + length (spelled n.path) + 1 in
    let domain : ℕ = colon + 1 + 1 in
    let ns : Span = span_at name (length (spelled n.path)) in
    let ds : Span = span_at domain (length (spelled d.path)) in
    let dot : ℕ = domain + length (spelled d.path) + 0 in
    subst (λ t. DeclAt (sign (span_at at 7) StructWord ∷ t ∷ sign (span_at colon 1) ColonSign ∷ ident ds d.path ∷ sign (span_at dot 1) DotSign ∷ []) (StructDecl n d [])) (sym (name_token n v ns))
    (subst (λ t. DeclAt (sign (span_at at 7) StructWord ∷ ident ns (v.name ∷ []) ∷ sign (span_at colon 1) ColonSign ∷ t ∷ sign (span_at dot 1) DotSign ∷ []) (StructDecl n d [])) (sym (name_token d w ds))
    (record { tree = StructDecl (simple ns v.name) (simple ds w.name) []; spells = bare_struct; same = ap₂ (λ a b. StructDecl a b []) (name_same n v ns) (name_same d w ds) }))
struct_body at n d (x ∷ xs) v w ws =
    let name : ℕ = at + 7 + 1 in
    let colon : ℕ = name + length (spelled n.path) + 1 in
    let domain : ℕ = colon + 1 + 1 in
    let ns : Span = span_at name (length (spelled n.path)) in
    let ds : Span = span_at domain (length (spelled d.path)) in
    let equal : ℕ = domain + length (spelled d.path) + 1 in
    let brace : ℕ = equal + 1 + 1 in
    let place : ℕ = brace + 1 + 1 in
    let inner : List Item = flat_map (assign_items space) (x ∷ xs) in
    let closing : ℕ = end_of place inner in
    let body = assigns_at place space (x ∷ xs) ws in
    let tail : List Token = sign (span_at closing 1) RightBrace ∷ sign (span_at (closing + 1 + 0) 1) DotSign ∷ [] in
    let items : tokens_of place ((inner ++ (right_brace tight ∷ [])) ++ (dot_item new_line ∷ [])) ≡ tokens_of place inner ++ tail =
    ap (tokens_of place) (append_assoc inner (right_brace tight ∷ []) (dot_item new_line ∷ [])) ∙ tokens_append place inner (right_brace tight ∷ dot_item new_line ∷ []) in
    subst (λ ts. DeclAt (sign (span_at at 7) StructWord ∷ ident ns n.path ∷ sign (span_at colon 1) ColonSign ∷ ident ds d.path ∷ sign (span_at equal 1) EqualSign ∷ sign (span_at brace 1) LeftBrace ∷ ts) (StructDecl n d (x ∷ xs))) (sym items)
    (subst (λ t. DeclAt (sign (span_at at 7) StructWord ∷ t ∷ sign (span_at colon 1) ColonSign ∷ ident ds d.path ∷ sign (span_at equal 1) EqualSign ∷ sign (span_at brace 1) LeftBrace ∷ (tokens_of place inner ++ tail)) (StructDecl n d (x ∷ xs))) (sym (name_token n v ns))
    (subst (λ t. DeclAt (sign (span_at at 7) StructWord ∷ ident ns (v.name ∷ []) ∷ sign (span_at colon 1) ColonSign ∷ t ∷ sign (span_at equal 1) EqualSign ∷ sign (span_at brace 1) LeftBrace ∷ (tokens_of place inner ++ tail)) (StructDecl n d (x ∷ xs))) (sym (name_token d w ds))
    (record {
      tree = StructDecl (simple ns v.name) (simple ds w.name) body.trees;
      spells = struct (tokens_of place inner) (span_at closing 1) (span_at (closing + 1 + 0) 1) body.spells;
      same = ap (λ a. StructDecl a (bare_written (simple ds w.name)) (map bare_assign body.trees)) (name_same n v ns) ∙ ap₂ (λ b ys. StructDecl (bare_written n) b ys) (name_same d w ds) body.same;
    })))

const_body : (at : ℕ) (n : Written) (c : Expr) (v : Option Expr) → IsWrittenName n → IsWellWritten c → IsWrittenValue v
    → DeclAt (tokens_of at (written_item n space ∷ colon_item ∷ (whole_items c (value_gap v) ++ (value_items v ++ (dot_item new_line ∷ []))))) (ConstDecl n c v)
unfolding tokens_of bare_decl
const_body at n c None k w u =
    let ns : Span = span_at at (length (spelled n.path)) in
    let colon : ℕ = at + length (spelled n.path) + 1 in
    let place : ℕ = colon + 1 + 1 in
    let end : ℕ = end_of place (whole_items c tight) in
    let class = (forms c w).whole place tight in
    subst (λ ts. DeclAt (ident ns n.path ∷ sign (span_at colon 1) ColonSign ∷ ts) (ConstDecl n c None)) (sym (tokens_last place (whole_items c tight) (dot_item new_line)))
    (subst (λ t. DeclAt (t ∷ sign (span_at colon 1) ColonSign ∷ (tokens_of place (whole_items c tight) ++ (sign (span_at end 1) DotSign ∷ []))) (ConstDecl n c None)) (sym (name_token n k ns))
    (record {
      tree = ConstDecl (simple ns k.name) class.tree None;
      spells = const (tokens_of place (whole_items c tight)) (span_at end 1) class.spells;
      same = ap₂ (λ a b. ConstDecl a b None) (name_same n k ns) class.same;
    }))
const_body at n c (Some e) k w u =
    let ns : Span = span_at at (length (spelled n.path)) in
    let colon : ℕ = at + length (spelled n.path) + 1 in
    let place : ℕ = colon + 1 + 1 in
    let equal : ℕ = end_of place (whole_items c space) in
    let second : ℕ = equal + 1 + 1 in
    let end : ℕ = end_of second (whole_items e tight) in
    let class = (forms c w).whole place space in
    let value = (forms e u).whole second tight in
    let tail : List Token = tokens_of second (whole_items e tight) ++ (sign (span_at end 1) DotSign ∷ []) in
    let items : tokens_of place (whole_items c space ++ (equal_item ∷ (whole_items e tight ++ (dot_item new_line ∷ [])))) ≡ tokens_of place (whole_items c space) ++ (sign (span_at equal 1) EqualSign ∷ tail) =
    tokens_append place (whole_items c space) (equal_item ∷ (whole_items e tight ++ (dot_item new_line ∷ [])))
    ∙ ap (λ ts. tokens_of place (whole_items c space) ++ (sign (span_at equal 1) EqualSign ∷ ts)) (tokens_last second (whole_items e tight) (dot_item new_line)) in
    subst (λ ts. DeclAt (ident ns n.path ∷ sign (span_at colon 1) ColonSign ∷ ts) (ConstDecl n c (Some e))) (sym items)
    (subst (λ t. DeclAt (t ∷ sign (span_at colon 1) ColonSign ∷ (tokens_of place (whole_items c space) ++ (sign (span_at equal 1) EqualSign ∷ tail))) (ConstDecl n c (Some e))) (sym (name_token n k ns))
    (record {
      tree = ConstDecl (simple ns k.name) class.tree (Some value.tree);
      spells = defined (tokens_of place (whole_items c space)) (tokens_of second (whole_items e tight)) (span_at equal 1) (span_at end 1) class.spells value.spells;
      same = ap (λ a. ConstDecl a (bare_expr class.tree) (Some (bare_expr value.tree))) (name_same n k ns) ∙ ap₂ (λ b f. ConstDecl (bare_written n) b (Some f)) class.same value.same;
    }))

decl_at : (at : ℕ) (d : Decl) → IsWrittenDecl d → DeclAt (tokens_of at (decl_items d)) d
unfolding tokens_of bare_decl
decl_at at (IncludeDecl w) n =
    let name : ℕ = at + 8 + 1 in
    let ns : Span = span_at name (length (spelled w.path)) in
    let dot : ℕ = name + length (spelled w.path) + 0 in
    subst (λ t. DeclAt (sign (span_at at 8) IncludeWord ∷ t ∷ sign (span_at dot 1) DotSign ∷ []) (IncludeDecl w)) (sym (name_token w n ns))
    (record { tree = IncludeDecl (simple ns n.name); spells = include_decl; same = ap IncludeDecl (name_same w n ns) })
decl_at at (StructDecl n d xs) w = struct_body at n d xs w.0 w.1 w.2
decl_at at (ConstDecl n c v) w = const_body at n c v w.0 w.1 w.2

pub record DeclsAt (ts : List Token) (ds : List Decl) : Type 0 where
  pub trees : List Decl
  pub spells : SpellsDecls ts trees
  pub same : map bare_decl trees ≡ map bare_decl ds

decls_from : (front : List Token) (done : List Decl) → SpellsDecls front done → (at : ℕ) (ds : List Decl) → AreWrittenDecls ds
    → (us : List Decl) × SpellsDecls (front ++ tokens_of at (flat_map decl_items ds)) (done ++ us) × (map bare_decl us ≡ map bare_decl ds)
unfolding tokens_of
decls_from front done d at [] w =
    ([], subst (λ ts. SpellsDecls ts (done ++ [])) (sym (append-nil front)) (subst (SpellsDecls front) (sym (append-nil done)) d), refl)
decls_from front done d at (x ∷ xs) w =
    let first = decl_at at x w.0 in
    let ts : List Token = tokens_of at (decl_items x) in
    let place : ℕ = end_of at (decl_items x) in
    let later : List Token = tokens_of place (flat_map decl_items xs) in
    let next = decls_from (front ++ ts) (done ++ (first.tree ∷ [])) (more_decls front ts done d first.spells) place xs w.1 in (
      first.tree ∷ next.0,
      subst (λ us. SpellsDecls us (done ++ (first.tree ∷ next.0))) (append_assoc front ts later ∙ ap (λ us. front ++ us) (sym (tokens_append at (decl_items x) (flat_map decl_items xs))))
          (subst (SpellsDecls ((front ++ ts) ++ later)) (append_assoc done (first.tree ∷ []) next.0) next.1),
      ap₂ (λ y ys. y ∷ ys) first.same next.2,
    )

decls_at : (at : ℕ) (ds : List Decl) → AreWrittenDecls ds → DeclsAt (tokens_of at (flat_map decl_items ds)) ds
decls_at at ds w = let all = decls_from [] [] no_decls at ds w in record { trees = all.0; spells = all.1; same = all.2 }

-- ---- modules

pub record ModuleAt (ts : List Token) (m : Module) : Type 0 where
  pub tree : Module
  pub spells : SpellsModule ts tree
  pub same : bare_module tree ≡ bare_module m

-- the closing brace, the dot and the end of the input
closing : (place : ℕ) (inner : List Item) (end : ℕ) → with_end (tokens_of place (inner ++ (right_brace tight ∷ dot_item new_line ∷ []))) end
    ≡ tokens_of place inner ++ (sign (span_at (end_of place inner) 1) RightBrace ∷ sign (span_at (end_of place inner + 1 + 0) 1) DotSign ∷ sign (record { from = end; to = end }) EndSign ∷ [])
unfolding tokens_of
closing place inner end =
    ap (λ ts. with_end ts end) (tokens_append place inner (right_brace tight ∷ dot_item new_line ∷ []))
    ∙ append_assoc (tokens_of place inner) (sign (span_at (end_of place inner) 1) RightBrace ∷ sign (span_at (end_of place inner + 1 + 0) 1) DotSign ∷ []) (sign (record { from = end; to = end }) EndSign ∷ [])

sig_at : (at end : ℕ) (n : Written) (ds : List Decl) → IsWrittenName n → AreWrittenDecls ds → ModuleAt (with_end (tokens_of at (module_items (SigModule n ds))) end) (SigModule n ds)
unfolding tokens_of module_items bare_module
sig_at at end n ds v w =
    let name : ℕ = at + 4 + 1 in
    let ns : Span = span_at name (length (spelled n.path)) in
    let equal : ℕ = name + length (spelled n.path) + 1 in
    let brace : ℕ = equal + 1 + 1 in
    let place : ℕ = brace + 1 + 1 in
    let inner : List Item = flat_map decl_items ds in
    let closed : ℕ = end_of place inner in
    let body = decls_at place ds w in
    let z : Span = record { from = end; to = end } in
    subst (λ ts. ModuleAt (sign (span_at at 4) SigWord ∷ ident ns n.path ∷ sign (span_at equal 1) EqualSign ∷ sign (span_at brace 1) LeftBrace ∷ ts) (SigModule n ds)) (sym (closing place inner end))
    (subst (λ t. ModuleAt (sign (span_at at 4) SigWord ∷ t ∷ sign (span_at equal 1) EqualSign ∷ sign (span_at brace 1) LeftBrace
    ∷ (tokens_of place inner ++ (sign (span_at closed 1) RightBrace ∷ sign (span_at (closed + 1 + 0) 1) DotSign ∷ sign z EndSign ∷ []))) (SigModule n ds)) (sym (name_token n v ns))
    (record {
      tree = SigModule (simple ns v.name) body.trees;
      spells = sig (tokens_of place inner) (span_at closed 1) (span_at (closed + 1 + 0) 1) z body.spells;
      same = ap₂ SigModule (name_same n v ns) body.same;
    }))

view_at : (at end : ℕ) (n d c : Written) (xs : List Assign) → IsWrittenName n → IsWrittenName d → IsWrittenName c → AreWrittenAssigns xs
    → ModuleAt (with_end (tokens_of at (module_items (ViewModule n d c xs))) end) (ViewModule n d c xs)
unfolding tokens_of module_items bare_module
view_at at end n d c xs v w u k =
    let name : ℕ = at + 5 + 1 in
    let ns : Span = span_at name (length (spelled n.path)) in
    let colon : ℕ = name + length (spelled n.path) + 1 in
    let domain : ℕ = colon + 1 + 1 in
    let ds : Span = span_at domain (length (spelled d.path)) in
    let arrow_place : ℕ = domain + length (spelled d.path) + 1 in
    let codomain : ℕ = arrow_place + 2 + 1 in
    let cs : Span = span_at codomain (length (spelled c.path)) in
    let equal : ℕ = codomain + length (spelled c.path) + 1 in
    let brace : ℕ = equal + 1 + 1 in
    let place : ℕ = brace + 1 + 1 in
    let inner : List Item = flat_map (assign_items new_line) xs in
    let closed : ℕ = end_of place inner in
    let body = assigns_at place new_line xs k in
    let z : Span = record { from = end; to = end } in
    let tail : List Token = tokens_of place inner ++ (sign (span_at closed 1) RightBrace ∷ sign (span_at (closed + 1 + 0) 1) DotSign ∷ sign z EndSign ∷ []) in
    let M : Module = ViewModule n d c xs in
    subst (λ ts. ModuleAt (sign (span_at at 5) ViewWord ∷ ident ns n.path ∷ sign (span_at colon 1) ColonSign ∷ ident ds d.path ∷ sign (span_at arrow_place 2) ArrowSign ∷ ident cs c.path ∷ sign (span_at equal 1) EqualSign ∷ sign (span_at brace 1) LeftBrace ∷ ts) M) (sym (closing place inner end))
    (subst (λ t. ModuleAt (sign (span_at at 5) ViewWord ∷ t ∷ sign (span_at colon 1) ColonSign ∷ ident ds d.path ∷ sign (span_at arrow_place 2) ArrowSign ∷ ident cs c.path ∷ sign (span_at equal 1) EqualSign ∷ sign (span_at brace 1) LeftBrace ∷ tail) M) (sym (name_token n v ns))
    (subst (λ t. ModuleAt (sign (span_at at 5) ViewWord ∷ ident ns (v.name ∷ []) ∷ sign (span_at colon 1) ColonSign ∷ t ∷ sign (span_at arrow_place 2) ArrowSign ∷ ident cs c.path ∷ sign (span_at equal 1) EqualSign ∷ sign (span_at brace 1) LeftBrace ∷ tail) M) (sym (name_token d w ds))
    (subst (λ t. ModuleAt (sign (span_at at 5) ViewWord ∷ ident ns (v.name ∷ []) ∷ sign (span_at colon 1) ColonSign ∷ ident ds (w.name ∷ []) ∷ sign (span_at arrow_place 2) ArrowSign ∷ t ∷ sign (span_at equal 1) EqualSign ∷ sign (span_at brace 1) LeftBrace ∷ tail) M) (sym (name_token c u cs))
    (record {
      tree = ViewModule (simple ns v.name) (simple ds w.name) (simple cs u.name) body.trees;
      spells = view (tokens_of place inner) (span_at closed 1) (span_at (closed + 1 + 0) 1) z body.spells;
      same = ap₂ (λ a b. ViewModule a b (bare_written (simple cs u.name)) (map bare_assign body.trees)) (name_same n v ns) (name_same d w ds)
          ∙ ap₂ (λ e ys. ViewModule (bare_written n) (bare_written d) e ys) (name_same c u cs) body.same;
    }))))

pub module_at : (at end : ℕ) (m : Module) → IsWrittenModule m → ModuleAt (with_end (tokens_of at (module_items m)) end) m
module_at at end (SigModule n ds) w = sig_at at end n ds w.0 w.1
module_at at end (ViewModule n d c xs) w = view_at at end n d c xs w.0 w.1 w.2 w.3
