-- Two printed expressions with a colon between them spell the judgement.
use Rattle.std.proofs.Common.{◌≡◌, ℕ, ◌+◌, true, List, [], ◌∷◌, ◌++◌, length, codes, refl, sym, ap, ap₂, ◌∙◌, subst, append_assoc}
use Rattle.text_meaning.specs.Tokens.{Span, Token, sign, ColonSign, EndSign}
use Rattle.text_meaning.specs.Cut.{Tokens, IsLexed}
use Rattle.text_meaning.specs.Trees.{Expr, Judgement}
use Rattle.text_meaning.specs.Grammar.{SpellsJudgement, judgement}
use Rattle.text_meaning.specs.Reading.{spells_judgement, nesting, with_end}
use Rattle.text_meaning.specs.UpToSpans.{IsSameExpr}
use Rattle.print_meaning.specs.PrintedItems.{tight, space, Item, colon_item, text_of, end_of, tokens_of}
use Rattle.print_meaning.specs.PrintedExpressions.{expr_items}
use Rattle.print_meaning.specs.PrintedModules.{expr_text}
use Rattle.print_meaning.specs.PrintedJudgements.{judgement_text}
use Rattle.print_laws.specs.PrintLaws.{IsSpelledExpr, IsSpelledJudgement, SpellsBackJudgement, SpellsBackWithin}
use Rattle.print_laws.proofs.LaidOut.{IsLaid, text_append, tokens_append, laid_append, laid_whole, laid_utf8}
use Rattle.print_laws.proofs.Writable.{AreValid, valid_left, valid_right}
use Rattle.print_laws.proofs.WellWritten.{IsWellWritten, expr_written, end_valid}
use Rattle.print_laws.proofs.LaidExpressions.{expr_laid, colon_fit, no_gap, one_space}
use Rattle.print_laws.proofs.SpelledExpressions.{forms}
use Rattle.print_laws.proofs.GapsBehind.{expr_gap}
use Rattle.print_laws.proofs.Printed.{valid_tokens, same_items, spelled_written, expression_back}

-- an expression, a colon and another one
abbrev pub judged_items : Expr → Expr → List Item
judged_items e f = expr_items true e space ++ (colon_item ∷ expr_items true f tight)

abbrev judged_text : Expr → Expr → List ℕ
judged_text e f = expr_text e ++ (codes " : " ++ expr_text f)

judged_text_is : (e f : Expr) → IsWellWritten e → judged_text e f ≡ text_of (judged_items e f)
unfolding expr_text text_of
judged_text_is e f w =
    sym (text_append (expr_items true e space) (colon_item ∷ expr_items true f tight)
    ∙ ap (λ t. t ++ (codes ": " ++ expr_text f)) (expr_gap true e space w)
    ∙ append_assoc (text_of (expr_items true e tight)) space (codes ": " ++ expr_text f))

judged_laid : (e f : Expr) → IsWellWritten e → IsWellWritten f → IsLaid (judged_items e f) []
unfolding text_of
judged_laid e f w v =
    laid_append (expr_items true e space) (colon_item ∷ expr_items true f tight) []
    (expr_laid true e space (text_of (colon_item ∷ expr_items true f tight) ++ []) w one_space refl)
    (colon_fit _, expr_laid true f tight [] v no_gap refl)

-- the text of two well-written expressions is cut into these items
judged_lexed : (e f : Expr) → IsWellWritten e → IsWellWritten f → IsLexed (judged_text e f) (Tokens (tokens_of 0 (judged_items e f)) (length (text_of (judged_items e f))))
judged_lexed e f w v =
    let laid = judged_laid e f w v in
    subst (λ t. IsLexed t (Tokens (tokens_of 0 (judged_items e f)) (length (text_of (judged_items e f))))) (sym (judged_text_is e f w))
    (laid_utf8 (judged_items e f) [] laid, laid_whole (judged_items e f) laid)

-- the items of two expressions spell their judgement
record JudgedAt (ts : List Token) (e f : Expr) : Type 0 where
  tree : Judgement
  spells : SpellsJudgement ts tree
  object : IsSameExpr tree.object e
  family : IsSameExpr tree.family f

judged_at : (e f : Expr) (end : ℕ) → IsWellWritten e → IsWellWritten f → JudgedAt (with_end (tokens_of 0 (judged_items e f)) end) e f
unfolding tokens_of text_of
judged_at e f end w v =
    let colon : ℕ = end_of 0 (expr_items true e space) in
    let first = (forms e w).whole 0 space in
    let second = (forms f v).whole (colon + 1 + 1) tight in
    let z : Span = record { from = end; to = end } in
    let c : Span = record { from = colon; to = colon + 1 } in
    subst (λ ts. JudgedAt ts e f)
    (sym (ap (λ ts. with_end ts end) (tokens_append 0 (expr_items true e space) (colon_item ∷ expr_items true f tight))
    ∙ append_assoc (tokens_of 0 (expr_items true e space)) (sign c ColonSign ∷ tokens_of (colon + 1 + 1) (expr_items true f tight)) (sign z EndSign ∷ [])))
    (record {
      tree = record { object = first.tree; family = second.tree };
      spells = judgement (tokens_of 0 (expr_items true e space)) (tokens_of (colon + 1 + 1) (expr_items true f tight)) c z first.spells second.spells;
      object = first.same;
      family = second.same;
    })

same_judged : (e f : Expr) (j : Judgement) → IsSameExpr e j.object → IsSameExpr f j.family → judged_text e f ≡ judgement_text j
unfolding judgement_text expr_text
same_judged e f j h k = ap₂ (λ is js. text_of is ++ (codes " : " ++ text_of js)) (same_items e j.object h) (same_items f j.family k)

-- the printed judgement is cut into the items of its two expressions
pub judgement_lexed : (j : Judgement) (s : IsSpelledExpr j.object) (r : IsSpelledExpr j.family)
    → IsLexed (judgement_text j) (Tokens (tokens_of 0 (judged_items s.tree r.tree)) (length (text_of (judged_items s.tree r.tree))))
judgement_lexed j s r =
    subst (λ t. IsLexed t (Tokens (tokens_of 0 (judged_items s.tree r.tree)) (length (text_of (judged_items s.tree r.tree))))) (same_judged s.tree r.tree j s.same r.same)
    (judged_lexed s.tree r.tree (spelled_written s) (spelled_written r))

pub printed_judgements : (j : Judgement) → IsSpelledExpr j.object → IsSpelledExpr j.family → SpellsBackJudgement (judgement_text j) j
unfolding nesting
printed_judgements j s r =
    let last : ℕ = length (text_of (judged_items s.tree r.tree)) in
    let tokens = tokens_of 0 (judged_items s.tree r.tree) in
    let lexed = judgement_lexed j s r in
    let at = judged_at s.tree r.tree last (spelled_written s) (spelled_written r) in
    record {
      tokens = tokens;
      end = last;
      tree = at.tree;
      lexed = lexed;
      spells = at.spells;
      same = record { object = at.object ∙ s.same; family = at.family ∙ r.same };
      reads = λ shallow. (Tokens tokens last, lexed, (spells_judgement at.spells, shallow));
    }

pub printed_within : (e : Expr) → IsSpelledExpr e → SpellsBackWithin (expr_text e) e
unfolding judgement_text
printed_within e s = record {
  object = λ f r. printed_judgements (record { object = e; family = f }) s r;
  family = λ f r. printed_judgements (record { object = f; family = e }) r s;
}

-- ---- the expressions of a judgement

record AreWrittenParts (j : Judgement) : Type 0 where
  object : IsWellWritten j.object
  family : IsWellWritten j.family

parts_written : {ts : List Token} {j : Judgement} → SpellsJudgement ts j → AreValid ts → AreWrittenParts j
parts_written (judgement ts us c z d f) v =
    record { object = expr_written d (valid_left ts _ v); family = expr_written f (valid_left us _ (valid_right ts _ v).1) }

-- a well-written expression is spelled by its own text
itself : (e f : Expr) → IsWellWritten e → IsSameExpr e f → IsSpelledExpr f
itself e f w h = let back = expression_back e w in record { text = expr_text e; tree = back.tree; spells = back.spells; same = back.same ∙ h }

pub judged_expressions : (j : Judgement) → IsSpelledJudgement j → IsSpelledExpr j.object × IsSpelledExpr j.family
judged_expressions j s =
    let w = parts_written s.spells (end_valid s.tokens s.end (valid_tokens s.text s.tokens s.end s.lexed)) in
    (itself s.tree.object j.object w.object s.same.object, itself s.tree.family j.family w.family s.same.family)
