use Rattle.std.proofs.Common.{◌≤◌, ◌++◌, List, [], length}
use Rattle.std.specs.Prelude.{flat_map}
use Rattle.text_meaning.specs.Trees as trees
use Rattle.text_meaning.specs.Parsing.{MoreWords, State, answer_on}
use Rattle.text_meaning.specs.Dependencies.{word_dependencies}
use Rattle.mmt_syntax.specs.DependenciesLeft.{own_name}
use Rattle.twelf_expressions.specs.Left.{left}
use Rattle.twelf_reader.specs.Dependencies.{Adds}
use Rattle.twelf_reader.proofs.dependency_words.add_words.Given as goal

abbrev pub invariant-loop-reader : goal.invariant-loop-reader
invariant-loop-reader l = record {
  goes : (done : List trees.Written → State) (first : List trees.Written) → Adds (answer_on (MoreWords first done) (left l.fn.reader)) (λ ws. answer_on (MoreWords (first ++ ws) done) (left l.reader)) (flat_map (word_dependencies (own_name l.own) [])) l.fn.names l.names;
  less : length (left l.reader) ≤ length (left l.fn.reader);
}

abbrev pub decreases-loop-reader : goal.decreases-loop-reader
decreases-loop-reader l = length (left l.reader)
