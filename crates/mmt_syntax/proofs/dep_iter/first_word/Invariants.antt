use Rattle.std.proofs.Common.{◌≡◌, length}
use Rattle.mmt_syntax.specs.Readings.{read_words}
use Rattle.mmt_syntax.specs.DependenciesLeft.{own_name, word_dependencies}
use Rattle.mmt_syntax.proofs.dep_iter.first_word.Given as goal

abbrev pub invariant-loop-word : goal.invariant-loop-word
invariant-loop-word l =
    word_dependencies (own_name l.own) (read_words l.initial.words) ≡ word_dependencies (own_name l.own) (read_words l.words)

abbrev pub decreases-loop-word : goal.decreases-loop-word
decreases-loop-word l = length l.words
