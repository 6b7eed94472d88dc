use Rattle.std.proofs.Common.{[], Ok, inl, inr, refl, sym, ap, ◌∙◌}
use Rattle.std.proofs.lemmas.Result.{err_from_is_err_and}
use Rattle.library_meaning.specs.Words.{longer_word}
use Rattle.mmt_syntax.specs.Readings.{read_span}
use Rattle.mmt_interface.specs.Readings.{environment_of, read_theory}
use Rattle.morphism_words.specs.LentLinks.{read_lent}
use Rattle.morphism_words.specs.Steps.{known_interface, word_answer}
use Rattle.morphism_words.proofs.CoherentLinks.{structures_of_accepted}
use Rattle.morphism_words.proofs.KnownWords.{longer_known}
use Rattle.list_laws.proofs.Answers.{goes_on}
use Rattle.morphism_words.proofs.Refusals.{answers_same, refuses_first}
use Rattle.morphism_words.proofs.words.theory_word.Goals as goal

pub returns-in_err-face : goal.returns-in_err-face
returns-in_err-face c = λ label.
    let environment = environment_of c.args.faces.now in
    let name = c.args.name.now in
    let p = err_from_is_err_and c.from_residual.result c.from_residual.ensures.1 in
    rw (p.1, p.2) (refuses_first c.in_err-face.field-0.0 label _ _ _ (longer_known (read_span c.args.span) label environment name c.args.path.now (environment name)) (c.in_err-face.ensures label))

pub returns-in-Theory : goal.returns-in-Theory
returns-in-Theory c = λ label.
    let environment = environment_of c.args.faces.now in
    let name = c.args.name.now in
    let span = read_span c.args.span in
    let known = goes_on _ _ _ _ (longer_known span label environment name c.args.path.now (environment name)) (c.in_ok-face.ensures label)
    ∙ ap (λ v. word_answer span label (longer_word environment name (known_interface v) c.args.path.now)) c.in-Theory.is in
    answers_same read_lent c.structures_word.result label _ _ (sym known) (c.structures_word.ensures label)

pub returns-in-View : goal.returns-in-View
returns-in-View c = λ label.
    let environment = environment_of c.args.faces.now in
    let name = c.args.name.now in
    let span = read_span c.args.span in (
      inr (inl refl),
      goes_on _ _ _ _ (longer_known span label environment name c.args.path.now (environment name)) (c.in_ok-face.ensures label)
          ∙ ap (λ v. word_answer span label (longer_word environment name (known_interface v) c.args.path.now)) c.in-View.is,
    )

pub structures_word-requires-clause-structures : goal.structures_word-requires-clause-structures
structures_word-requires-clause-structures c =
    structures_of_accepted (environment_of c.args.faces.now) c.requires (read_span c.args.span) [] c.args.name.now (read_theory c.in-Theory.face)
    (c.in_ok-face.ensures [] ∙ ap (λ v. Ok (known_interface v)) c.in-Theory.is)
