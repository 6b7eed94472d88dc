use Rattle.std.proofs.Common.{subst}
use Rattle.std.specs.Option.{option_map}
use Rattle.library_meaning.specs.Resolution.{Scope}
use Rattle.term_trees.specs.Readings.{read_declaration}
use Rattle.mmt_syntax.specs.Readings.{read_expr, read_written}
use Rattle.link_setting.specs.Answers.{Links}
use Rattle.module_verdicts.specs.Steps.{constant_answer}
use Rattle.module_verdicts.proofs.declarations.constant_in.Goals as goal

pub returns : goal.returns
returns c =
    subst (λ (s : Scope). Links read_declaration c.constant.result (constant_answer s c.args.here.now.name (read_written c.args.name.now) (read_expr c.args.class.now) (option_map read_expr c.args.value.now))) c.new-tabled.ensures c.constant.ensures
