use Rattle.std.proofs.Common.{◌∙◌}
use Rattle.link_setting.specs.PathTrees.{steps_of}
use Rattle.link_setting.proofs.PathTrees.{pushed}
use Rattle.link_setting.proofs.path_tree.PathTree.add_step.Goals as goal

pub returns-clause-steps : goal.returns-clause-steps
returns-clause-steps c =
    c.in_ok-insert.ensures.keys ∙ pushed (steps_of c.args.self.now) (record { from = c.args.from; name = c.args.name }) c.requires
