use Rattle.std.proofs.Common.{Ok, inl, inr, refl, sym, ap, ◌∙◌}
use Rattle.std.proofs.lemmas.Result.{err_from_is_err_and}
use Rattle.library_meaning.specs.Words.{simple_word}
use Rattle.mmt_syntax.specs.Readings.{read_span}
use Rattle.mmt_interface.specs.Readings.{environment_of}
use Rattle.morphism_words.specs.Steps.{known_interface, word_answer}
use Rattle.morphism_words.proofs.KnownWords.{simple_known}
use Rattle.list_laws.proofs.Answers.{goes_on}
use Rattle.morphism_words.proofs.Refusals.{refuses_first}
use Rattle.morphism_words.proofs.words.view_word.Goals as goal

pub returns-in_err-view : goal.returns-in_err-view
returns-in_err-view c = λ label.
    let span = read_span c.args.span in
    let p = err_from_is_err_and c.from_residual.result c.from_residual.ensures.1 in
    rw (p.1, p.2) (refuses_first c.in_err-view.field-0.0 label _ _ _ (simple_known span label (environment_of c.args.faces.now c.args.name.now)) (c.in_err-view.ensures label))

pub returns-in-View : goal.returns-in-View
returns-in-View c = λ label.
    let span = read_span c.args.span in
    goes_on _ _ _ _ (simple_known span label (environment_of c.args.faces.now c.args.name.now)) (c.in_ok-view.ensures label)
    ∙ ap (λ v. word_answer span label (simple_word (known_interface v))) c.in-View.is ∙ ap Ok (sym c.view_link.ensures)

pub returns-in-Theory : goal.returns-in-Theory
returns-in-Theory c = λ label.
    let span = read_span c.args.span in (
      inr (inl refl),
      goes_on _ _ _ _ (simple_known span label (environment_of c.args.faces.now c.args.name.now)) (c.in_ok-view.ensures label)
          ∙ ap (λ v. word_answer span label (simple_word (known_interface v))) c.in-Theory.is,
    )
