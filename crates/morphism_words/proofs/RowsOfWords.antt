-- Rows of words, word by word.
use Rattle.std.proofs.Common.{◌≡◌, ℕ, suc, ◌+◌, Bool, true, false, cond, List, [], ◌∷◌, Option, Ok, refl, sym, ap, ◌∙◌, arith}
use Rattle.std.specs.Prelude.{slice_get}
use Rattle.name_meaning.specs.Names.{Path}
use Rattle.text_meaning.specs.Trees.{Written}
use Rattle.answer_meaning.specs.Answers.{◌>>=◌}
use Rattle.elaborate_meaning.specs.Rules.{Rule}
use Rattle.library_meaning.specs.Faces.{Environment, TheoryFace}
use Rattle.library_meaning.specs.Words.{Link, Meaning, Means, Faulty, EndsApart, RowFaulty, first_by, followed_by, meets, next_by, row_from, row_meaning, word_meaning}
use Rattle.link_meaning.specs.Assignments.{or_word_fault, paths_of, place_of, rule_of, word_place}
use Rattle.link_meaning.specs.Refusals.{demand, refused}
use Rattle.morphism_words.specs.Steps.{next_answer, row_answer, word_answer}

module _ (environment : Environment) (here : Option TheoryFace) (label : Path) (whole : List Written) where
  met : (index : ℕ) (so_far link : Link) (word : Written) (rest : List Written) (b : Bool) → word_place whole index ≡ word.span
      → ((next : Link) → or_word_fault whole label (row_from environment here (suc index) next (paths_of rest)) ≡ row_answer environment here label next rest)
      → or_word_fault whole label (cond b (row_from environment here (suc index) (followed_by so_far link) (paths_of rest)) (RowFaulty index EndsApart))
      ≡ ((demand b word.span Rule.MorphismEnds label >>= (λ _. Ok (followed_by so_far link))) >>= (λ next. row_answer environment here label next rest))
  met index so_far link word rest true at behind = behind (followed_by so_far link)
  met index so_far link word rest false at behind = ap (λ span. refused span Rule.MorphismEnds label) at

  next_word : (index : ℕ) (so_far : Link) (word : Written) (rest : List Written) (m : Meaning) → word_place whole index ≡ word.span
      → ((next : Link) → or_word_fault whole label (row_from environment here (suc index) next (paths_of rest)) ≡ row_answer environment here label next rest)
      → or_word_fault whole label (next_by environment index so_far m (λ (link : Link). row_from environment here (suc index) link (paths_of rest)))
      ≡ ((word_answer word.span label m >>= (λ next. demand (meets environment so_far next) word.span Rule.MorphismEnds label >>= (λ _. Ok (followed_by so_far next)))) >>= (λ next. row_answer environment here label next rest))
  next_word index so_far word rest (Faulty fault) at behind = ap (λ span. refused span (rule_of fault) label) at
  next_word index so_far word rest (Means link) at behind = met index so_far link word rest (meets environment so_far link) at behind

  -- From a word on: the words that are left are those of the whole from this number on.
  pub row_answered : (index : ℕ) (so_far : Link) (words : List Written) → ((i : ℕ) → slice_get words i ≡ slice_get whole (index + i))
      → or_word_fault whole label (row_from environment here index so_far (paths_of words)) ≡ row_answer environment here label so_far words
  unfolding row_from
  row_answered index so_far [] left = refl
  row_answered index so_far (word ∷ rest) left =
      next_word index so_far word rest (word_meaning environment here word.path)
      (let none : index + 0 ≡ index = omega arith in ap place_of (ap (slice_get whole) (sym none) ∙ sym (left 0)))
      (λ next. row_answered (suc index) next rest (λ i. left (suc i) ∙ (let one : index + suc i ≡ suc index + i = omega arith in ap (slice_get whole) one)))

-- A row begins with the link of its first word.
pub row_begins : (environment : Environment) (here : Option TheoryFace) (label : Path) (word : Written) (words : List Written)
    → or_word_fault (word ∷ words) label (row_meaning environment here (paths_of (word ∷ words)))
    ≡ (word_answer word.span label (word_meaning environment here word.path) >>= (λ first. row_answer environment here label first words))
unfolding row_meaning
row_begins environment here label word words = by (word_meaning environment here word.path)
  where
    by : (m : Meaning) → or_word_fault (word ∷ words) label (first_by m (λ (link : Link). row_from environment here 1 link (paths_of words)))
        ≡ (word_answer word.span label m >>= (λ first. row_answer environment here label first words))
    by (Faulty fault) = refl
    by (Means link) = row_answered environment here label (word ∷ words) 1 link words (λ i. let one : 1 + i ≡ suc i = omega arith in ap (slice_get (word ∷ words)) (sym one))

-- One word more, by whether it follows the link so far.
pub word_met : (environment : Environment) (here : Option TheoryFace) (label : Path) (so_far : Link) (word : Written) (next : Link) (b : Bool)
    → word_answer word.span label (word_meaning environment here word.path) ≡ Ok next → meets environment so_far next ≡ b
    → next_answer environment here label so_far word ≡ (demand b word.span Rule.MorphismEnds label >>= (λ _. Ok (followed_by so_far next)))
word_met environment here label so_far word next b means follows =
    ap (λ o. o >>= (λ n. demand (meets environment so_far n) word.span Rule.MorphismEnds label >>= (λ _. Ok (followed_by so_far n)))) means
    ∙ ap (λ b. demand b word.span Rule.MorphismEnds label >>= (λ _. Ok (followed_by so_far next))) follows
