-- Small texts and what they are read as.
use Rattle.std.specs.Prelude.{◌≡◌, ℕ, zero, suc, Bool, true, false, List, [], ◌∷◌, ◌++◌, None, Some, codes}
use Rattle.text_meaning.specs.Tokens.{Span}
use Rattle.text_meaning.specs.Trees.{Expr, TypeExpr, NameExpr, AppExpr, PiExpr, LamExpr, TypedLamExpr, ArrowExpr, BackExpr, NoArgs, ThenArg, ConstAssign, StructAssign, IncludeAssign, IncludeDecl, StructDecl, ConstDecl, SigModule, ViewModule}
use Rattle.text_meaning.specs.Grammar.{simple, written}
use Rattle.text_meaning.specs.Reading.{ModuleText, JudgementText, ModuleTree, JudgementTree, Answer, Read, Syntax, TooDeep, Unsupported}
use Rattle.text_meaning.specs.TextAnswers.{read}

abbrev pub span : ℕ → ℕ → Span
span from to = record { from = from; to = to }

-- a name of one part at a place
abbrev pub name_at : ℕ → ℕ → List ℕ → Expr
name_at from to w = NameExpr (span from to) (w ∷ [])

-- a text so many times, and then another
abbrev pub times : ℕ → List ℕ → List ℕ → List ℕ
times zero w rest = rest
times (suc n) w rest = w ++ times n w rest

-- a theory with one family a and one constant c, whose class follows
abbrev pub theory_head : List ℕ
theory_head = codes "%sig D = {\na : type.\nc : "

abbrev pub judged : Expr → Expr → Answer
judged e f = Read (JudgementTree (record { object = e; family = f }))

abbrev pub is_tree : Answer → Bool
is_tree (Read t) = true
is_tree _ = false

pub record ReadingExamples : Type 0 where
  pub empty : read ModuleText [] ≡ Syntax 0
  pub open_comment : read ModuleText (codes "%{ open") ≡ Syntax 0
  pub bad_byte : read ModuleText (codes "%sig" ++ (0xFF ∷ [])) ≡ Syntax 4
  pub mode : read ModuleText (codes "%sig Z = {\n%mode a.") ≡ Unsupported 11
  pub include_first : read ModuleText (codes "%include A.") ≡ Syntax 0
  pub not_ended : read ModuleText (codes "%sig Z = {") ≡ Syntax 10
  pub ended_by_mark : read ModuleText (codes "%sig Z = { %. }.") ≡ Syntax 11
  pub empty_theory : read ModuleText (codes "%sig Z = { }. % end") ≡ Read (ModuleTree (SigModule (simple (span 5 6) (codes "Z")) []))
  pub natural_numbers : read ModuleText (codes "%sig Nat = {\nnat : type.\nz : nat.\ns : nat -> nat.\n}.\n")
      ≡ Read (ModuleTree (SigModule (simple (span 5 8) (codes "Nat"))
      (ConstDecl (simple (span 13 16) (codes "nat")) (TypeExpr (span 19 23)) None
      ∷ ConstDecl (simple (span 25 26) (codes "z")) (name_at 29 32 (codes "nat")) None
      ∷ ConstDecl (simple (span 34 35) (codes "s")) (ArrowExpr (span 38 48) (name_at 38 41 (codes "nat")) (name_at 45 48 (codes "nat"))) None ∷ [])))
  pub structures : read ModuleText (codes "%sig R = { %include S. %struct u : M. %struct v : M = { %struct a := R.u. c := d. }. }.")
      ≡ Read (ModuleTree (SigModule (simple (span 5 6) (codes "R"))
      (IncludeDecl (simple (span 20 21) (codes "S")) ∷ StructDecl (simple (span 31 32) (codes "u")) (simple (span 35 36) (codes "M")) []
      ∷ StructDecl (simple (span 46 47) (codes "v")) (simple (span 50 51) (codes "M"))
      (StructAssign (written (span 64 65) (codes "a" ∷ [])) (written (span 69 72) (codes "R" ∷ codes "u" ∷ []) ∷ [])
      ∷ ConstAssign (written (span 74 75) (codes "c" ∷ [])) (name_at 79 80 (codes "d")) ∷ [])
      ∷ [])))
  pub a_view : read ModuleText (codes "%view V : S -> T = { %include VP VQ. p := x. }.")
      ≡ Read (ModuleTree (ViewModule (simple (span 6 7) (codes "V")) (simple (span 10 11) (codes "S")) (simple (span 15 16) (codes "T"))
      (IncludeAssign (written (span 30 32) (codes "VP" ∷ []) ∷ written (span 33 35) (codes "VQ" ∷ []) ∷ [])
      ∷ ConstAssign (written (span 37 38) (codes "p" ∷ [])) (name_at 42 43 (codes "x")) ∷ [])))
  -- parentheses around the whole leave no place, those within do
  pub parenthesised : read JudgementText (codes "(f x) : (a) -> b")
      ≡ judged (AppExpr (span 1 4) (name_at 1 2 (codes "f")) (ThenArg NoArgs (name_at 3 4 (codes "x")))) (ArrowExpr (span 8 16) (name_at 9 10 (codes "a")) (name_at 15 16 (codes "b")))
  pub parenthesised_head : read JudgementText (codes "(f) x : t")
      ≡ judged (AppExpr (span 0 5) (name_at 1 2 (codes "f")) (ThenArg NoArgs (name_at 4 5 (codes "x")))) (name_at 8 9 (codes "t"))
  pub back_arrows : read JudgementText (codes "c : (b) <- a1 <- a2")
      ≡ judged (name_at 0 1 (codes "c")) (BackExpr (span 4 19) (BackExpr (span 4 13) (name_at 5 6 (codes "b")) (name_at 11 13 (codes "a1"))) (name_at 17 19 (codes "a2")))
  pub binders : read JudgementText (codes "f [x] [y:a] x : {_:a} b -> c")
      ≡ judged (AppExpr (span 0 13) (name_at 0 1 (codes "f")) (ThenArg NoArgs (LamExpr (span 2 13) (Some (codes "x")) (TypedLamExpr (span 6 13) (Some (codes "y")) (name_at 9 10 (codes "a")) (name_at 12 13 (codes "x"))))))
      (PiExpr (span 16 28) None (name_at 19 20 (codes "a")) (ArrowExpr (span 22 28) (name_at 22 23 (codes "b")) (name_at 27 28 (codes "c"))))
  pub mixed_row : read JudgementText (codes "c : a -> b <- d") ≡ Syntax 11
  pub other_mixed_row : read JudgementText (codes "c : a <- b -> d") ≡ Syntax 11
  pub hole : read JudgementText (codes "c : f _") ≡ Unsupported 6
  pub no_domain : read JudgementText (codes "c : {x} b") ≡ Unsupported 6
  pub no_domain_of_blank : read JudgementText (codes "c : {_} b") ≡ Unsupported 6
  pub brace_of_a_body : read ModuleText (codes "%sig Z = { x }.") ≡ Syntax 13
  pub assigned_variable : read JudgementText (codes "c : {x:=a} b") ≡ Syntax 6
  pub inner_module : read ModuleText (codes "%sig Z = { %sig Y = { }. }.") ≡ Unsupported 11
  pub second_module : read ModuleText (codes "%sig Z = { }. %sig Y = { }.") ≡ Syntax 14
  pub module_in_judgement : read JudgementText (codes "%sig") ≡ Syntax 0
  pub empty_judgement : read JudgementText (codes "c :") ≡ Syntax 3
  -- the limit on nesting
  pub arrows_500 : is_tree (read ModuleText (theory_head ++ times 499 (codes "a -> ") (codes "a.\n}.\n"))) ≡ true
  pub arrows_501 : read ModuleText (theory_head ++ times 500 (codes "a -> ") (codes "a.\n}.\n")) ≡ TooDeep 2525
  pub binders_500 : read ModuleText (theory_head ++ times 500 (codes "{x:a} ") (codes "a.\n}.\n")) ≡ TooDeep 3022
