use Rattle.std.proofs.Common.{◌≡◌, ◌++◌, [], ◌∷◌, refl, sym, ap, ◌∙◌, arith, length, length-append}
use Rattle.std.proofs.lemmas.List.{map-append}
use Rattle.text_meaning.specs.Parsing.{MoreWords, answer_on}
use Rattle.mmt_syntax.specs.Readings.{read_words, read_written}
use Rattle.twelf_expressions.specs.Left.{left}
use Rattle.twelf_expressions.proofs.Moves.{took, words_end}
use Rattle.twelf_reader.proofs.words.words.Goals as goal

pub loop-reader-preserved : goal.loop-reader-preserved
loop-reader-preserved c =
    let word = c.in_ok-word.word in
    let ws = c.loop-reader.words in
    let longer = c.in_ok-add-2.ensures.ok in
    let more : read_words c.add-in-loop-reader.new.self ≡ read_words ws ++ (read_written word ∷ []) = ap read_words longer ∙ map-append read_written ws (word ∷ []) in
    record {
      some = omega (arith, ap length longer, length-append ws (word ∷ []));
      goes = λ done.
          c.loop-reader.invariant.goes done
          ∙ took (MoreWords (read_words ws) done) (MoreWords (read_words ws ++ (read_written word ∷ [])) done) c.in_ok-word.ensures.takes refl refl refl
          ∙ ap (λ vs. answer_on (MoreWords vs done) (left c.take_path.new.self)) (sym more);
      less = omega (arith, c.loop-reader.invariant.less, c.in_ok-word.ensures.less);
    }

pub returns-clause-goes : goal.returns-clause-goes
returns-clause-goes c = λ done. c.loop-reader.invariant.goes done ∙ words_end c.loop-reader.reader (read_words c.loop-reader.words) done (sym c.loop-reader-test.ensures)
