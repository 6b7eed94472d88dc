use Rattle.std.proofs.Common.{◌≡◌, ℕ, ◌+◌, ◌<◌, List, drop, length, get_or, Option, refl, ap, ◌∙◌}
use Rattle.std.specs.Option.{option_map}
use Rattle.std.proofs.lemmas.List.{drop_all}
use Rattle.std.proofs.lemmas.Result.{err_from_is_err_and}
use Rattle.name_meaning.specs.Names.{Path}
use Rattle.answer_meaning.specs.Answers.{◌>>=◌}
use Rattle.library_meaning.specs.Faces.{Environment, TheoryFace}
use Rattle.library_meaning.specs.Words.{Link}
use Rattle.mmt_syntax.specs.Readings.{read_words, read_written}
use Rattle.mmt_syntax.specs.declared.written.Written.{Written}
use Rattle.mmt_interface.specs.Readings.{environment_of, read_theory}
use Rattle.morphism_words.specs.LentLinks.{read_lent}
use Rattle.morphism_words.specs.Steps.{next_answer, row_answer}
use Rattle.morphism_words.proofs.ListsLeft.{left}
use Rattle.list_laws.proofs.Answers.{goes_on}
use Rattle.morphism_words.proofs.Refusals.{refuses_first}
use Rattle.morphism_words.proofs.rows.row_link.Goals as goal

next : (environment : Environment) (here : Option TheoryFace) (label : Path) (link : Link) (words : List Written) (i : ℕ) (word : Written) → i < length words → word ≡ get_or words i word
    → row_answer environment here label link (read_words (drop i words)) ≡ (next_answer environment here label link (read_written word) >>= (λ n. row_answer environment here label n (read_words (drop (i + 1) words))))
next environment here label link words i word within at = ap (λ ws. row_answer environment here label link (read_words ws)) (left words i word within at)

pub loop-word-init : goal.loop-word-init
loop-word-init c = record { holds = c.requires.so_far; left = λ label. refl }

pub returns-in_err-link : goal.returns-in_err-link
returns-in_err-link c = λ label.
    let p = err_from_is_err_and c.from_residual.result c.from_residual.ensures.1 in
    let more = next (environment_of c.args.faces.now) (option_map (λ face. read_theory face.now) c.args.here) label (read_lent c.loop-word.link) c.args.words.now c.loop-word.word-index c.word-item.result c.loop-word-test.true c.word-item.is in
    rw (p.1, p.2) (refuses_first c.in_err-link.field-0.0 label _ _ _ (c.loop-word.invariant.left label ∙ more) (c.in_err-link.ensures.answer label))

pub loop-word-preserved : goal.loop-word-preserved
loop-word-preserved c = record {
  holds = c.in_ok-link.ensures.holds;
  left = λ label.
      let more = next (environment_of c.args.faces.now) (option_map (λ face. read_theory face.now) c.args.here) label (read_lent c.loop-word.link) c.args.words.now c.loop-word.word-index c.word-item.result c.loop-word-test.true c.word-item.is in
      goes_on _ _ _ _ (c.loop-word.invariant.left label ∙ more) (c.in_ok-link.ensures.answer label);
}

pub returns : goal.returns
returns c = λ label.
    c.loop-word.invariant.left label
    ∙ ap (λ ws. row_answer (environment_of c.args.faces.now) (option_map (λ face. read_theory face.now) c.args.here) label (read_lent c.loop-word.link) (read_words ws)) (drop_all c.loop-word.word-index c.args.words.now c.loop-word-test.false)
