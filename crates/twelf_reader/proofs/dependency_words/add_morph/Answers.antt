use Rattle.std.proofs.Common.{[], ◌∷◌, refl, ◌∙◌}
use Rattle.text_meaning.specs.Parsing.{MoreWords}
use Rattle.text_meaning.specs.Dependencies.{word_dependencies}
use Rattle.mmt_syntax.specs.DependenciesLeft.{own_name}
use Rattle.mmt_syntax.specs.Readings.{read_written}
use Rattle.twelf_reader.proofs.AddedNames.{one_before, passes_from}
use Rattle.twelf_reader.proofs.dependency_words.add_morph.Goals as goal

pub returns-clause-goes : goal.returns-clause-goes
returns-clause-goes c = λ done a.
    let w = read_written c.in_ok-word.word in
    let came = c.in_ok-word.ensures.goes (λ v. MoreWords (v ∷ []) done) (λ _. refl) in
    passes_from c.add_words.result _ _ came
    (λ _ g. record { item = w ∷ g.item; goes = came ∙ g.goes; names = one_before (word_dependencies (own_name c.args.own) []) _ _ _ w g.item c.in_ok-add_word.ensures g.names })
    (c.add_words.ensures.goes done (w ∷ []) a)
