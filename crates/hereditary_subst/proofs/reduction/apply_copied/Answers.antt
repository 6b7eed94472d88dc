use Rattle.term_trees.specs.Readings.{read_simple}
use Rattle.hereditary_subst.proofs.Heads.{takes_copied}
use Rattle.hereditary_subst.proofs.reduction.apply_copied.Goals as goal

pub returns-in_ok-add-in-At : goal.returns-in_ok-add-in-At
returns-in_ok-add-in-At c =
    takes_copied (read_simple c.args.simple.now) c.args.value c.in-At.head c.in-At.spine c.add.new.self c.args.argument.now c.in_ok-copy-in-At.field-0 c.in-At.is c.in_ok-add-in-At.ensures.ok c.in_ok-copy-in-At.ensures
