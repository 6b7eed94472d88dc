use Rattle.std.proofs.Common.{sym, ◌∙◌}
use Rattle.mmt_syntax.specs.Readings as trees
use Rattle.link_setting.specs.Below.Readings.{read_link}
use Rattle.link_setting.specs.Readings.{read_setting}
use Rattle.assignment_pass.specs.Steps.{earlier_targets}
use Rattle.assignment_pass.proofs.SharedStructures.{ends_refused}
use Rattle.assignment_pass.proofs.assignments.sharing_link.Goals as goal

pub returns : goal.returns
returns c =
    ends_refused (read_setting c.args.setting.now) (earlier_targets c.args.earlier.now) (trees.read_written c.args.target.now) (trees.read_morph c.args.morph.now)
    (read_link c.args.structure.now) (read_link c.in_ok-by.by) c.broken.result (trees.read_span c.first_place-first.result)
    c.requires.known c.in_ok-demand_free.ensures c.in_ok-by.ensures (sym c.sharing_ends.ensures ∙ c.if-sharing_ends.false) c.first_place-first.ensures c.broken.ensures
