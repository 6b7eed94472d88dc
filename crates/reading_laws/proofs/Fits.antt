-- What the tokens before a state of the reader spell: derivations in part.
use Rattle.std.proofs.Common.{◌≡◌, Bool, true, false, List, [], ◌∷◌, ◌++◌}
use Rattle.text_meaning.specs.Tokens.{Span, Token, sign, ident, SigWord, ViewWord, StructWord, AssignSign, ColonSign, LeftParen, LeftBrace, DotSign, ArrowSign, EqualSign}
use Rattle.text_meaning.specs.Trees.{Expr, ArrowExpr, Written, Assign, Decl}
use Rattle.text_meaning.specs.Grammar.{join, SpellsBinder, SpellsExpr, SpellsArrows, SpellsBacks, SpellsTail, SpellsAtoms, SpellsBinding, SpellsMorph, SpellsAssigns, SpellsDecls}
use Rattle.text_meaning.specs.Reading.{Target, ModuleText, JudgementText, Spells}
use Rattle.text_meaning.specs.Parsing.{Simple, Atoms, NoAtoms, SomeAtoms, Row, Plain, AfterArrow, AfterBack, Owner, InStruct, InView, Purpose, ClassOf, ValueOf, ValueFor, ObjectOf, FamilyOf, Waiting, Ends, InParens, InDomain, InBody, InCodomain, State, Refused, Whole, Expect, ExpectName, ExpectPath, MoreWords, AtModule, AtDecl, AfterDomain, AtAssign, AtOperand, AtVariable, AfterVariable, bound, left_sign}

-- the token of a simple identifier, and of a written path
abbrev pub name_token : Simple → Token
name_token x = ident x.at (x.name ∷ [])

abbrev pub path_token : Written → Token
path_token w = ident w.span w.path

-- ---- expressions

abbrev pub AtomsFit : Atoms → List Token → Type 0
AtomsFit NoAtoms a = a ≡ []
AtomsFit (SomeAtoms s h xs) a = SpellsAtoms a s h xs

-- what follows `->` takes no `<-`
abbrev pub RowFits : Row → (codomain : Bool) → List Token → Type 0
RowFits Plain c r = (r ≡ []) × (c ≡ false)
RowFits AfterArrow c r = r ≡ []
RowFits (AfterBack s b) c r = (c ≡ false) × ((us : List Token) (u : Span) (e : Expr) → SpellsTail s b us u e → SpellsBacks (r ++ us) u e)

abbrev pub is_codomain : Waiting → Bool
is_codomain (InCodomain s d k) = true
is_codomain _ = false

-- what an expression must be that stands there
abbrev pub Fills : (codomain : Bool) → List Token → Span → Expr → Type 0
Fills true ts s e = SpellsArrows ts s e
Fills false ts s e = SpellsExpr ts s e

pub record Opened (waits : List Token → Type 0) (codomain : Bool) (row : Row) (xs : Atoms) (before : List Token) : Type 0 where
  pub front : List Token
  pub operands : List Token
  pub atoms : List Token
  pub parts : before ≡ front ++ (operands ++ atoms)
  pub waiting : waits front
  pub row_fits : RowFits row codomain operands
  pub atoms_fit : AtomsFit xs atoms

-- ---- modules

module _ (target : Target) where
  pub record InSig (x : Simple) (ds : List Decl) (before : List Token) : Type 0 where
    pub is_module : target ≡ ModuleText
    pub i : Span
    pub q : Span
    pub l : Span
    pub ts : List Token
    pub parts : before ≡ sign i SigWord ∷ name_token x ∷ sign q EqualSign ∷ sign l LeftBrace ∷ ts
    pub decls : SpellsDecls ts ds

  pub record OwnsStruct (x : Simple) (ds : List Decl) (y z : Simple) (before : List Token) : Type 0 where
    pub front : List Token
    pub i : Span
    pub c : Span
    pub q : Span
    pub l : Span
    pub parts : before ≡ front ++ (sign i StructWord ∷ name_token y ∷ sign c ColonSign ∷ name_token z ∷ sign q EqualSign ∷ sign l LeftBrace ∷ [])
    pub in_sig : InSig x ds front

  pub record OwnsView (x y z : Simple) (before : List Token) : Type 0 where
    pub is_module : target ≡ ModuleText
    pub i : Span
    pub c : Span
    pub a : Span
    pub q : Span
    pub l : Span
    pub parts : before ≡ sign i ViewWord ∷ name_token x ∷ sign c ColonSign ∷ name_token y ∷ sign a ArrowSign ∷ name_token z ∷ sign q EqualSign ∷ sign l LeftBrace ∷ []

  abbrev pub Owns : Owner → List Token → Type 0
  Owns (InStruct x ds y z) before = OwnsStruct x ds y z before
  Owns (InView x y z) before = OwnsView x y z before

  pub record InAssigns (o : Owner) (xs : List Assign) (before : List Token) : Type 0 where
    pub front : List Token
    pub ts : List Token
    pub parts : before ≡ front ++ ts
    pub owner : Owns o front
    pub assigns : SpellsAssigns ts xs

  pub record HasClass (x : Simple) (ds : List Decl) (n : Simple) (before : List Token) : Type 0 where
    pub front : List Token
    pub c : Span
    pub parts : before ≡ front ++ (name_token n ∷ sign c ColonSign ∷ [])
    pub in_sig : InSig x ds front

  pub record HasValue (x : Simple) (ds : List Decl) (n : Simple) (e : Expr) (before : List Token) : Type 0 where
    pub front : List Token
    pub c : Span
    pub q : Span
    pub u : Span
    pub ts : List Token
    pub parts : before ≡ front ++ (name_token n ∷ sign c ColonSign ∷ (ts ++ (sign q EqualSign ∷ [])))
    pub in_sig : InSig x ds front
    pub class : SpellsExpr ts u e

  pub record HasTarget (o : Owner) (xs : List Assign) (t : Written) (before : List Token) : Type 0 where
    pub front : List Token
    pub a : Span
    pub parts : before ≡ front ++ (path_token t ∷ sign a AssignSign ∷ [])
    pub in_assigns : InAssigns o xs front

  pub record HasObject (e : Expr) (before : List Token) : Type 0 where
    pub is_judgement : target ≡ JudgementText
    pub ts : List Token
    pub u : Span
    pub c : Span
    pub parts : before ≡ ts ++ (sign c ColonSign ∷ [])
    pub object : SpellsExpr ts u e

  abbrev pub PurposeFits : Purpose → List Token → Type 0
  PurposeFits (ClassOf x ds n) before = HasClass x ds n before
  PurposeFits (ValueOf x ds n e) before = HasValue x ds n e before
  PurposeFits (ValueFor o xs t) before = HasTarget o xs t before
  PurposeFits ObjectOf before = (target ≡ JudgementText) × (before ≡ [])
  PurposeFits (FamilyOf e) before = HasObject e before

  -- the tokens before an expression that is waited for
  unfoldable pub Waits : Waiting → List Token → Type 0
  Waits (Ends p) before = PurposeFits p before
  Waits (InParens l n row xs k) before = (front : List Token) × (before ≡ front ++ (sign l LeftParen ∷ [])) × Opened (Waits k) (is_codomain k) row xs front
  Waits (InDomain b l x n row xs k) before =
      (front : List Token) × (v : Token) × (c : Span) × (before ≡ front ++ (sign l (left_sign b) ∷ v ∷ sign c ColonSign ∷ [])) × SpellsBinder v x
      × Opened (Waits k) (is_codomain k) row xs front
  Waits (InBody l b row xs k) before =
      (front : List Token) × (mid : List Token) × (before ≡ front ++ mid)
      × ((us : List Token) (u : Span) (e : Expr) → SpellsExpr us u e → SpellsBinding (mid ++ us) (join l u) (bound (join l u) b e))
      × Opened (Waits k) (is_codomain k) row xs front
  Waits (InCodomain s d k) before =
      (front : List Token) × (mid : List Token) × (before ≡ front ++ mid)
      × ((us : List Token) (u : Span) (e : Expr) → SpellsArrows us u e → SpellsArrows (mid ++ us) (join s u) (ArrowExpr (join s u) d e))
      × Waits k front

  abbrev pub OpenedAt : Waiting → Row → Atoms → List Token → Type 0
  OpenedAt k row xs before = Opened (Waits k) (is_codomain k) row xs before

  pub record AfterDomainFits (x : Simple) (ds : List Decl) (y z : Simple) (before : List Token) : Type 0 where
    pub front : List Token
    pub i : Span
    pub c : Span
    pub parts : before ≡ front ++ (sign i StructWord ∷ name_token y ∷ sign c ColonSign ∷ name_token z ∷ [])
    pub in_sig : InSig x ds front

  -- the tokens before a state
  unfoldable pub Fits : State → List Token → Type 0
  Fits Refused before = Unit {0}
  Fits (Whole tree) before = Spells target before tree
  Fits (Expect m next) before = (s : Span) → Fits next (before ++ (sign s m ∷ []))
  Fits (ExpectName f) before = (x : Simple) → Fits (f x) (before ++ (name_token x ∷ []))
  Fits (ExpectPath f) before = (w : Written) → Fits (f w) (before ++ (path_token w ∷ []))
  Fits (MoreWords ws done) before =
      (front : List Token) × (ts : List Token) × (before ≡ front ++ ts) × SpellsMorph ts ws
      × ((us : List Token) (vs : List Written) (d : Span) → SpellsMorph us vs → Fits (done vs) (front ++ (us ++ (sign d DotSign ∷ []))))
  Fits AtModule before = (target ≡ ModuleText) × (before ≡ [])
  Fits (AtDecl x ds) before = InSig x ds before
  Fits (AfterDomain x ds y z) before = AfterDomainFits x ds y z before
  Fits (AtAssign o xs) before = InAssigns o xs before
  Fits (AtOperand n row xs k) before = OpenedAt k row xs before
  Fits (AtVariable b l n row xs k) before = (front : List Token) × (before ≡ front ++ (sign l (left_sign b) ∷ [])) × OpenedAt k row xs front
  Fits (AfterVariable b l x n row xs k) before =
      (front : List Token) × (v : Token) × (before ≡ front ++ (sign l (left_sign b) ∷ v ∷ [])) × SpellsBinder v x × OpenedAt k row xs front
