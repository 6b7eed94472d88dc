use Rattle.std.proofs.Common.{◌≡◌, ◌<◌, ◌≤◌, List, [], ◌∷◌, length}
use Rattle.text_meaning.specs.Trees as trees
use Rattle.text_meaning.specs.Parsing.{MoreWords, State, answer_on}
use Rattle.mmt_syntax.specs.Readings.{read_words, read_written}
use Rattle.twelf_expressions.specs.Left.{left}
use Rattle.twelf_reader.proofs.words.words.Given as goal

abbrev pub invariant-loop-reader : goal.invariant-loop-reader
invariant-loop-reader l = record {
  some : 0 < length l.words;
  goes : (done : List trees.Written → State) → answer_on (MoreWords (read_written l.fn.first ∷ []) done) (left l.initial.reader) ≡ answer_on (MoreWords (read_words l.words) done) (left l.reader);
  less : length (left l.reader) ≤ length (left l.initial.reader);
}

abbrev pub decreases-loop-reader : goal.decreases-loop-reader
decreases-loop-reader l = length (left l.reader)
