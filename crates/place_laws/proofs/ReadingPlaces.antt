-- What is read stands within its text.
use Rattle.std.proofs.Common.{◌≡◌, ℕ, ◌≤◌, List, [], ◌∷◌, ◌++◌, length, sym, subst, arith}
use Rattle.std.proofs.lemmas.Str.{utf8_valid_len_le}
use Rattle.text_meaning.specs.Tokens.{Token}
use Rattle.text_meaning.specs.Cut.{Lexed, Tokens, NotUtf8, OpenComment, IsLexed}
use Rattle.text_meaning.specs.Reading.{Target, Answer, Read, Syntax, TooDeep, Unsupported, IsAnswer, with_end, IsAnswerTo}
use Rattle.text_meaning.specs.TextAnswers.{read}
use Rattle.token_laws.specs.SpanLaws.{InOrder}
use Rattle.token_laws.proofs.Spans.{tokens_stand_well, open_within}
use Rattle.reading_laws.proofs.OneAnswer.{one_reading}
use Rattle.span_meaning.specs.Spans.{AnswerStands}
use Rattle.place_laws.specs.PlaceLaws.{ReadingStandsWithin}
use Rattle.place_laws.proofs.Derived.{Rises}
use Rattle.place_laws.proofs.DerivedModules.{token_in, tree_at}

-- the tokens of a text rise, and so does the end of the input behind them
pub ended : (from : ℕ) (ts : List Token) (end bytes : ℕ) → InOrder from ts end → end ≤ bytes → Rises from (with_end ts end) bytes
ended from [] end bytes h g = (h, omega arith, g)
ended from (t ∷ ts) end bytes h g = (h.0, (let l = h.1 in omega (arith, l)), ended t.span.to ts end bytes h.2 g)

stop_within : (bytes : ℕ) (input before : List Token) (t : Token) (rest : List Token) (at : ℕ) → Rises 0 input bytes → input ≡ before ++ (t ∷ rest) → at ≡ t.span.from → at ≤ bytes
stop_within bytes input before t rest at r e h =
    let s = token_in 0 bytes before t rest (subst (λ z. Rises 0 z bytes) e r) in
    let x = s.forward in
    let y = s.before in
    omega (arith, h, x, y)

answer_within : (target : Target) (bytes : ℕ) (input : List Token) (answer : Answer) → Rises 0 input bytes → IsAnswer target input answer → AnswerStands bytes answer
answer_within target bytes input (Read tree) r h = tree_at h.0 0 bytes r
answer_within target bytes input (Syntax at) r h = stop_within bytes input h.0 h.1 (h.2).rest at r (h.2).parts h.4
answer_within target bytes input (TooDeep at) r h = stop_within bytes input h.0 h.1 (h.2).rest at r (h.2).parts h.3
answer_within target bytes input (Unsupported at) r h = stop_within bytes input h.0 h.1 (h.2).rest at r (h.2).parts h.4

lexed_within : (target : Target) (text : List ℕ) (lexed : Lexed) (answer : Answer) → IsLexed text lexed → IsAnswerTo target lexed answer → AnswerStands (length text) answer
lexed_within target text (Tokens ts end) answer l h =
    let s = tokens_stand_well text ts end l in
    answer_within target (length text) (with_end ts end) answer (ended 0 ts end (length text) s.order s.within) h
lexed_within target text (NotUtf8 at) answer l h = subst (AnswerStands (length text)) (sym h) (let n = utf8_valid_len_le text in let e = l.1 in omega (arith, n, e))
lexed_within target text (OpenComment at) answer l h = subst (AnswerStands (length text)) (sym h) (open_within text (l.1).0 at (l.1).1)

pub reading_stands_within : ReadingStandsWithin
reading_stands_within target text = let r = (one_reading target text).is_read in lexed_within target text r.0 (read target text) r.1 r.2
