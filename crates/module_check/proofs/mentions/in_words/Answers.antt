use Rattle.std.proofs.Common.{Some, None, refl}
use Rattle.name_meaning.specs.Names.{is_among}
use Rattle.text_meaning.specs.Dependencies as meaning
use Rattle.text_meaning.specs.Labels.{label_in}
use Rattle.mmt_syntax.specs.DependenciesLeft.{own_name}
use Rattle.mmt_syntax.specs.Readings.{read_written}
use Rattle.module_check.specs.Mentions.{read_mention}
use Rattle.module_check.proofs.FirstAmong.{found_here, none_here}
use Rattle.module_check.proofs.mentions.in_words.Goals as goal

pub returns-in-Some : goal.returns-in-Some
returns-in-Some c =
    found_here (λ (d : meaning.Dependency). is_among c.args.names.now d.name) read_written (meaning.word_dependencies (own_name c.args.theory) (label_in (own_name c.args.structure) c.args.label.now)) c.args.words.now c.loop-word.word-index _ c.loop-word.invariant
    c.word-item.result (Some (read_mention c.in-Some.found)) (read_mention c.in-Some.found) c.loop-word-test.true c.word-item.is refl c.in-Some.ensures

pub loop-word-preserved : goal.loop-word-preserved
loop-word-preserved c =
    none_here (λ (d : meaning.Dependency). is_among c.args.names.now d.name) read_written (meaning.word_dependencies (own_name c.args.theory) (label_in (own_name c.args.structure) c.args.label.now)) c.args.words.now c.loop-word.word-index _ c.loop-word.invariant
    c.word-item.result None c.loop-word-test.true c.word-item.is refl c.in_default.ensures
