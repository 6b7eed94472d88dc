-- Trees whose names are writable and whose applications have arguments: those that texts spell.
use Rattle.std.proofs.Common.{◌≡◌, ℕ, List, [], ◌∷◌, ◌++◌, refl}
use Rattle.std.specs.Prelude.{Option, Some, None}
use Rattle.text_meaning.specs.Tokens.{Span, Token}
use Rattle.name_meaning.specs.Names.{Name}
use Rattle.text_meaning.specs.Trees.{Binder, Expr, TypeExpr, NameExpr, AppExpr, PiExpr, LamExpr, TypedLamExpr, ArrowExpr, BackExpr, Exprs, NoArgs, ThenArg, Written, Assign, IncludeAssign, StructAssign, ConstAssign, Decl, IncludeDecl, StructDecl, ConstDecl, Module, SigModule, ViewModule}
use Rattle.text_meaning.specs.Grammar.{applied, simple, SpellsBinder, named, blank, SpellsExpr, arrows, backs, SpellsArrows, only_last, only_atoms, arrow, SpellsBacks, back, SpellsTail, tail_last, tail_atoms, tail_more, SpellsLast, only_binder, atoms_binder, SpellsAtoms, first_atom, more_atoms, SpellsAtom, name, type_word, parens, SpellsBinding, pi, lam, typed_lam, SpellsMorph, one_word, more_words, SpellsAssign, const_assign, include_assign, struct_assign, SpellsAssigns, no_assigns, more_assigns, SpellsDecl, include_decl, bare_struct, struct, const, defined, SpellsDecls, no_decls, more_decls, SpellsModule, sig, view}
use Rattle.text_meaning.specs.Reading.{with_end}
use Rattle.print_laws.proofs.Writable.{IsWritable, IsValidKind, AreValid, valid_left, valid_right}

abbrev pub IsWrittenBinder : Binder → Type 0
IsWrittenBinder (Some n) = IsWritable (n ∷ [])
IsWrittenBinder None = Unit {0}

abbrev pub HasArgs : Exprs → Type 0
HasArgs NoArgs = ⊥
HasArgs (ThenArg xs e) = Unit {0}

pub record IsWrittenApp (Head Args : Type 0) (xs : Exprs) : Type 0 where
  pub head : Head
  pub args : Args
  pub some : HasArgs xs

pub record IsWrittenTyped (x : Binder) (Domain Body : Type 0) : Type 0 where
  pub binder : IsWrittenBinder x
  pub domain : Domain
  pub body : Body

pub record IsWrittenBare (x : Binder) (Body : Type 0) : Type 0 where
  pub binder : IsWrittenBinder x
  pub body : Body

pub record IsWrittenRow (Domain Body : Type 0) : Type 0 where
  pub domain : Domain
  pub body : Body

abbrev mutual
  pub IsWellWritten : Expr → Type 0
  IsWellWritten (TypeExpr s) = Unit {0}
  IsWellWritten (NameExpr s p) = IsWritable p
  IsWellWritten (AppExpr s h xs) = IsWrittenApp (IsWellWritten h) (AreWellWritten xs) xs
  IsWellWritten (PiExpr s x a b) = IsWrittenTyped x (IsWellWritten a) (IsWellWritten b)
  IsWellWritten (LamExpr s x b) = IsWrittenBare x (IsWellWritten b)
  IsWellWritten (TypedLamExpr s x a b) = IsWrittenTyped x (IsWellWritten a) (IsWellWritten b)
  IsWellWritten (ArrowExpr s a b) = IsWrittenRow (IsWellWritten a) (IsWellWritten b)
  IsWellWritten (BackExpr s b a) = IsWrittenRow (IsWellWritten a) (IsWellWritten b)

  pub AreWellWritten : Exprs → Type 0
  AreWellWritten NoArgs = Unit {0}
  AreWellWritten (ThenArg xs e) = AreWellWritten xs × IsWellWritten e

-- ---- what tokens spell is well written

applied_written : (s : Span) (h : Expr) (xs : Exprs) → IsWellWritten h → AreWellWritten xs → IsWellWritten (applied s h xs)
applied_written s h NoArgs w ws = w
applied_written s h (ThenArg xs e) w ws = record { head = w; args = ws; some = tt }

binder_written : {v : Token} {x : Binder} → SpellsBinder v x → IsValidKind v.kind → IsWrittenBinder x
binder_written named v = v
binder_written blank v = tt

mutual
  pub expr_written : {ts : List Token} {s : Span} {e : Expr} → SpellsExpr ts s e → AreValid ts → IsWellWritten e
  expr_written (arrows d) v = arrows_written d v
  expr_written (backs d) v = backs_written d v

  arrows_written : {ts : List Token} {s : Span} {e : Expr} → SpellsArrows ts s e → AreValid ts → IsWellWritten e
  arrows_written (only_last d) v = last_written d v
  arrows_written (only_atoms {s = s} {h = h} {xs = xs} d) v = let w = atoms_written d v in applied_written s h xs w.0 w.1
  arrows_written (arrow ts us a {s = s} {h = h} {xs = xs} d f) v =
      let w = atoms_written d (valid_left ts _ v) in
      record { domain = applied_written s h xs w.0 w.1; body = arrows_written f (valid_right ts _ v).1 }

  backs_written : {ts : List Token} {s : Span} {e : Expr} → SpellsBacks ts s e → AreValid ts → IsWellWritten e
  backs_written (back ts us a {s = s} {h = h} {xs = xs} d f) v =
      let w = atoms_written d (valid_left ts _ v) in
      tail_written f (applied_written s h xs w.0 w.1) (valid_right ts _ v).1

  tail_written : {r s : Span} {row e : Expr} {ts : List Token} → SpellsTail r row ts s e → IsWellWritten row → AreValid ts → IsWellWritten e
  tail_written (tail_last d) k v = record { domain = last_written d v; body = k }
  tail_written (tail_atoms {s = s} {h = h} {xs = xs} d) k v = let w = atoms_written d v in record { domain = applied_written s h xs w.0 w.1; body = k }
  tail_written (tail_more ts us a {s = s} {h = h} {xs = xs} d f) k v =
      let w = atoms_written d (valid_left ts _ v) in
      tail_written f (record { domain = applied_written s h xs w.0 w.1; body = k }) (valid_right ts _ v).1

  last_written : {ts : List Token} {s : Span} {e : Expr} → SpellsLast ts s e → AreValid ts → IsWellWritten e
  last_written (only_binder d) v = binding_written d v
  last_written (atoms_binder ts us d f) v =
      let w = atoms_written d (valid_left ts us v) in
      record { head = w.0; args = (w.1, binding_written f (valid_right ts us v)); some = tt }

  atoms_written : {ts : List Token} {s : Span} {h : Expr} {xs : Exprs} → SpellsAtoms ts s h xs → AreValid ts → IsWellWritten h × AreWellWritten xs
  atoms_written (first_atom d) v = (atom_written d v, tt)
  atoms_written (more_atoms ts us d f) v =
      let w = atoms_written d (valid_left ts us v) in (w.0, (w.1, atom_written f (valid_right ts us v)))

  atom_written : {ts : List Token} {s : Span} {e : Expr} → SpellsAtom ts s e → AreValid ts → IsWellWritten e
  atom_written name v = v.0
  atom_written type_word v = tt
  atom_written (parens ts r d) v = expr_written d (valid_left ts _ v.1)

  binding_written : {ts : List Token} {s : Span} {e : Expr} → SpellsBinding ts s e → AreValid ts → IsWellWritten e
  binding_written (pi ts us r x d f) v =
      record { binder = binder_written x v.1.0; domain = expr_written d (valid_left ts _ v.1.1.1); body = expr_written f (valid_right ts _ v.1.1.1).1 }
  binding_written (lam us x f) v = record { binder = binder_written x v.1.0; body = expr_written f v.1.1.1 }
  binding_written (typed_lam ts us r x d f) v =
      record { binder = binder_written x v.1.0; domain = expr_written d (valid_left ts _ v.1.1.1); body = expr_written f (valid_right ts _ v.1.1.1).1 }

-- ---- modules

-- one name; a path
pub record IsWrittenName (w : Written) : Type 0 where
  pub name : Name
  pub is : w.path ≡ name ∷ []
  pub writable : IsWritable (name ∷ [])

abbrev pub AreWrittenWords : List Written → Type 0
AreWrittenWords [] = Unit {0}
AreWrittenWords (w ∷ ws) = IsWritable w.path × AreWrittenWords ws

abbrev pub HasWords : List Written → Type 0
HasWords [] = ⊥
HasWords (w ∷ ws) = Unit {0}

abbrev pub IsWrittenMorph : List Written → Type 0
IsWrittenMorph ws = HasWords ws × AreWrittenWords ws

abbrev pub IsWrittenAssign : Assign → Type 0
IsWrittenAssign (IncludeAssign m) = IsWrittenMorph m
IsWrittenAssign (StructAssign t m) = IsWritable t.path × IsWrittenMorph m
IsWrittenAssign (ConstAssign t e) = IsWritable t.path × IsWellWritten e

abbrev pub AreWrittenAssigns : List Assign → Type 0
AreWrittenAssigns [] = Unit {0}
AreWrittenAssigns (x ∷ xs) = IsWrittenAssign x × AreWrittenAssigns xs

abbrev pub IsWrittenValue : Option Expr → Type 0
IsWrittenValue None = Unit {0}
IsWrittenValue (Some e) = IsWellWritten e

abbrev pub IsWrittenDecl : Decl → Type 0
IsWrittenDecl (IncludeDecl w) = IsWrittenName w
IsWrittenDecl (StructDecl n d xs) = IsWrittenName n × IsWrittenName d × AreWrittenAssigns xs
IsWrittenDecl (ConstDecl n c v) = IsWrittenName n × IsWellWritten c × IsWrittenValue v

abbrev pub AreWrittenDecls : List Decl → Type 0
AreWrittenDecls [] = Unit {0}
AreWrittenDecls (d ∷ ds) = IsWrittenDecl d × AreWrittenDecls ds

abbrev pub IsWrittenModule : Module → Type 0
IsWrittenModule (SigModule n ds) = IsWrittenName n × AreWrittenDecls ds
IsWrittenModule (ViewModule n d c xs) = IsWrittenName n × IsWrittenName d × IsWrittenName c × AreWrittenAssigns xs

name_written : (s : Span) (n : Name) → IsWritable (n ∷ []) → IsWrittenName (simple s n)
name_written s n w = record { name = n; is = refl; writable = w }

words_more : (ws vs : List Written) → AreWrittenWords ws → AreWrittenWords vs → AreWrittenWords (ws ++ vs)
words_more [] vs h k = k
words_more (w ∷ ws) vs h k = (h.0, words_more ws vs h.1 k)

some_more : (ws vs : List Written) → HasWords ws → HasWords (ws ++ vs)
some_more [] vs h = absurd h
some_more (w ∷ ws) vs h = tt

morph_written : {ts : List Token} {ws : List Written} → SpellsMorph ts ws → AreValid ts → IsWrittenMorph ws
morph_written one_word v = (tt, (v.0, tt))
morph_written (more_words ts ws s p d) v =
    let w = morph_written d (valid_left ts _ v) in
    (some_more ws _ w.0, words_more ws _ w.1 ((valid_right ts _ v).0, tt))

assign_written : {ts : List Token} {x : Assign} → SpellsAssign ts x → AreValid ts → IsWrittenAssign x
assign_written (const_assign ts d f) v = (v.0, expr_written f (valid_left ts _ v.1.1))
assign_written (include_assign ts d f) v = morph_written f (valid_left ts _ v.1)
assign_written (struct_assign ts d f) v = (v.1.0, morph_written f (valid_left ts _ v.1.1.1))

assigns_more : (xs ys : List Assign) → AreWrittenAssigns xs → AreWrittenAssigns ys → AreWrittenAssigns (xs ++ ys)
assigns_more [] ys h k = k
assigns_more (x ∷ xs) ys h k = (h.0, assigns_more xs ys h.1 k)

assigns_written : {ts : List Token} {xs : List Assign} → SpellsAssigns ts xs → AreValid ts → AreWrittenAssigns xs
assigns_written no_assigns v = tt
assigns_written (more_assigns ts us xs d f) v =
    assigns_more xs _ (assigns_written d (valid_left ts us v)) (assign_written f (valid_right ts us v), tt)

decl_written : {ts : List Token} {d : Decl} → SpellsDecl ts d → AreValid ts → IsWrittenDecl d
decl_written include_decl v = name_written _ _ v.1.0
decl_written bare_struct v = (name_written _ _ v.1.0, name_written _ _ v.1.1.1.0, tt)
decl_written (struct ts r d f) v = (name_written _ _ v.1.0, name_written _ _ v.1.1.1.0, assigns_written f (valid_left ts _ v.1.1.1.1.1.1))
decl_written (const ts d f) v = (name_written _ _ v.0, expr_written f (valid_left ts _ v.1.1), tt)
decl_written (defined ts us q d f g) v =
    let later = (valid_right ts _ v.1.1).1 in
    (name_written _ _ v.0, expr_written f (valid_left ts _ v.1.1), expr_written g (valid_left us _ later))

decls_more : (ds cs : List Decl) → AreWrittenDecls ds → AreWrittenDecls cs → AreWrittenDecls (ds ++ cs)
decls_more [] cs h k = k
decls_more (d ∷ ds) cs h k = (h.0, decls_more ds cs h.1 k)

decls_written : {ts : List Token} {ds : List Decl} → SpellsDecls ts ds → AreValid ts → AreWrittenDecls ds
decls_written no_decls v = tt
decls_written (more_decls ts us ds d f) v = decls_more ds _ (decls_written d (valid_left ts us v)) (decl_written f (valid_right ts us v), tt)

pub module_written : {ts : List Token} {m : Module} → SpellsModule ts m → AreValid ts → IsWrittenModule m
module_written (sig ts r d z f) v = (name_written _ _ v.1.0, decls_written f (valid_left ts _ v.1.1.1.1))
module_written (view ts r d z f) v =
    (name_written _ _ v.1.0, name_written _ _ v.1.1.1.0, name_written _ _ v.1.1.1.1.1.0, assigns_written f (valid_left ts _ v.1.1.1.1.1.1.1.1))

-- the end of the input is no identifier
pub end_valid : (ts : List Token) (end : ℕ) → AreValid ts → AreValid (with_end ts end)
end_valid [] end h = (tt, tt)
end_valid (t ∷ ts) end h = (h.0, end_valid ts end h.1)
