use Rattle.std.proofs.Common.{◌≡◌, drop}
use Rattle.std.specs.Prelude.{flat_map}
use Rattle.text_meaning.specs.Dependencies as meaning
use Rattle.text_meaning.specs.Labels.{label_in}
use Rattle.mmt_syntax.specs.DependenciesLeft.{own_name}
use Rattle.mmt_syntax.specs.Readings.{read_words}
use Rattle.module_check.specs.Mentions.{first_among}
use Rattle.module_check.proofs.mentions.in_words.Given as goal

abbrev pub invariant-loop-word : goal.invariant-loop-word
invariant-loop-word l = first_among l.names (flat_map (meaning.word_dependencies (own_name l.theory) (label_in (own_name l.structure) l.label)) (read_words l.words)) ≡ first_among l.names (flat_map (meaning.word_dependencies (own_name l.theory) (label_in (own_name l.structure) l.label)) (read_words (drop l.word-index l.words)))
