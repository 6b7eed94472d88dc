use Rattle.std.proofs.Common.{◌≡◌, ◌-◌, ◌≤◌, [], List, take, drop, length, get_or, Option, Ok, sym, ap, ◌∙◌}
use Rattle.std.specs.Option.{option_map}
use Rattle.std.proofs.lemmas.Result.{err_from_is_err_and}
use Rattle.name_meaning.specs.Names.{Path}
use Rattle.answer_meaning.specs.Answers.{◌>>=◌}
use Rattle.library_meaning.specs.Faces.{Environment, TheoryFace}
use Rattle.library_meaning.specs.Words.{row_meaning, word_meaning}
use Rattle.link_meaning.specs.Assignments.{or_word_fault, paths_of}
use Rattle.mmt_syntax.specs.Readings.{read_span, read_words, read_written}
use Rattle.mmt_syntax.specs.declared.written.Written.{Written}
use Rattle.mmt_interface.specs.Readings.{environment_of, read_theory}
use Rattle.morphism_words.specs.Steps.{row_answer, word_answer}
use Rattle.morphism_words.specs.LentLinks.{read_lent}
use Rattle.morphism_words.proofs.CoherentLinks.{meant_holds}
use Rattle.morphism_words.proofs.ListsLeft.{first_and_rest}
use Rattle.list_laws.proofs.Answers.{goes_on}
use Rattle.morphism_words.proofs.Refusals.{first_fault, refuses_first, refuses_same}
use Rattle.morphism_words.proofs.RowsOfWords.{row_begins}
use Rattle.morphism_words.proofs.rows.meaning.Goals as goal

-- The row, by its first word and the others.
begun : (environment : Environment) (here : Option TheoryFace) (label : Path) (words whole : List Written) (first : Written) → words ≡ whole → 1 ≤ length words → first ≡ get_or words 0 first
    → or_word_fault (read_words whole) label (row_meaning environment here (paths_of (read_words whole)))
    ≡ (word_answer (read_span first.span) label (word_meaning environment here first.path) >>= (λ link. row_answer environment here label link (read_words (take (length words - 1) (drop 1 words)))))
begun environment here label words whole first same some at =
    ap (λ ws. or_word_fault (read_words ws) label (row_meaning environment here (paths_of (read_words ws)))) (sym same ∙ first_and_rest words first some at)
    ∙ row_begins environment here label (read_written first) (read_words (take (length words - 1) (drop 1 words)))

pub returns-in_err-first-in-len1-up : goal.returns-in_err-first-in-len1-up
returns-in_err-first-in-len1-up c = λ label.
    let p = err_from_is_err_and c.from_residual.result c.from_residual.ensures.1 in
    let row = begun (environment_of c.args.faces.now) (option_map (λ face. read_theory face.now) c.args.here) label c.as_slice.result.now c.args.morph.now.words c.first-item.result c.as_slice.ensures c.in-len1-up.len_at_least c.first-item.is in
    rw (p.1, p.2) (first_fault c.in_err-first-in-len1-up.field-0.0 label _ (refuses_first c.in_err-first-in-len1-up.field-0.0 label _ _ _ row (c.in_err-first-in-len1-up.ensures label)))

pub returns-in_err-link-in-len1-up : goal.returns-in_err-link-in-len1-up
returns-in_err-link-in-len1-up c = λ label.
    let p = err_from_is_err_and c.from_residual-in_err-link-in-len1-up.result c.from_residual-in_err-link-in-len1-up.ensures.1 in
    let row = begun (environment_of c.args.faces.now) (option_map (λ face. read_theory face.now) c.args.here) label c.as_slice.result.now c.args.morph.now.words c.first-item.result c.as_slice.ensures c.in-len1-up.len_at_least c.first-item.is in
    let rest = goes_on _ _ _ _ row (c.in_ok-first-in-len1-up.ensures label) in
    rw (p.1, p.2) (first_fault c.in_err-link-in-len1-up.field-0.0 label _ (refuses_same c.in_err-link-in-len1-up.field-0.0 label _ _ (sym rest) (c.in_err-link-in-len1-up.ensures label)))

pub returns : goal.returns
returns c = λ label.
    let row = begun (environment_of c.args.faces.now) (option_map (λ face. read_theory face.now) c.args.here) label c.as_slice.result.now c.args.morph.now.words c.first-item.result c.as_slice.ensures c.in-len1-up.len_at_least c.first-item.is in
    goes_on _ _ _ _ row (c.in_ok-first-in-len1-up.ensures label) ∙ c.in_ok-link-in-len1-up.ensures label ∙ ap Ok (sym c.in_ok-into_link-in-len1-up.ensures)

pub row_link-requires-clause-so_far : goal.row_link-requires-clause-so_far
row_link-requires-clause-so_far c =
    let word = read_written c.first-item.result in
    (meant_holds (environment_of c.args.faces.now) (option_map (λ face. read_theory face.now) c.args.here) c.requires.coherent c.requires.here word.path word.span [] (read_lent c.in_ok-first-in-len1-up.first)
    (c.in_ok-first-in-len1-up.ensures [])).1
