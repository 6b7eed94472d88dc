use Rattle.std.proofs.Common.{◌++◌, [], ◌∷◌, append_assoc, refl, sym, ap, ◌∙◌, arith}
use Rattle.text_meaning.specs.Parsing.{MoreWords, answer_on}
use Rattle.text_meaning.specs.Dependencies.{word_dependencies}
use Rattle.mmt_syntax.specs.DependenciesLeft.{own_name}
use Rattle.mmt_syntax.specs.Readings.{read_written}
use Rattle.twelf_expressions.specs.Left.{left}
use Rattle.twelf_expressions.proofs.Moves.{failed, took, words_end}
use Rattle.twelf_expressions.proofs.Outlines.{passing_stopped}
use Rattle.twelf_reader.proofs.AddedNames.{one_more}
use Rattle.twelf_reader.proofs.dependency_words.add_words.Goals as goal

pub loop-reader-preserved : goal.loop-reader-preserved
loop-reader-preserved c =
    let w = read_written c.in_ok-word.word in
    record {
      goes = λ done first.
          let h = c.loop-reader.invariant.goes done first in
          let vs = first ++ h.item in
          one_more _ _ (λ ws. answer_on (MoreWords (first ++ ws) done) (left c.take_path.new.self)) (word_dependencies (own_name c.args.own) []) _ _ _ h w
          (took (MoreWords vs done) (MoreWords (vs ++ (w ∷ [])) done) c.in_ok-word.ensures.takes refl refl refl ∙ ap (λ us. answer_on (MoreWords us done) (left c.take_path.new.self)) (append_assoc first h.item (w ∷ [])))
          c.in_ok-added.ensures;
      less = omega (arith, c.loop-reader.invariant.less, c.in_ok-word.ensures.less);
    }

pub returns-in_err-expect-clause-goes : goal.returns-in_err-expect-clause-goes
returns-in_err-expect-clause-goes c = λ done first a.
    let h = c.loop-reader.invariant.goes done first in
    let vs = first ++ h.item in
    passing_stopped c.from_residual-in_err-expect.result _ _ _ c.from_residual-in_err-expect.ensures.1
    (failed _ (h.goes ∙ words_end c.loop-reader.reader vs done (sym c.loop-reader-test.ensures)) (c.in_err-expect.ensures.goes (done vs) (a vs)))

pub returns-clause-goes : goal.returns-clause-goes
returns-clause-goes c = λ done first a.
    let h = c.loop-reader.invariant.goes done first in
    let vs = first ++ h.item in
    record { item = h.item; goes = h.goes ∙ words_end c.loop-reader.reader vs done (sym c.loop-reader-test.ensures) ∙ c.in_ok-expect.ensures.goes (done vs) (a vs); names = h.names }
