use Rattle.std.proofs.Common.{take}
use Rattle.link_setting.specs.Readings.{read_all_assigned}
use Rattle.link_passes.specs.Targets.{AreNumbered}
use Rattle.link_passes.proofs.reached.targets_of.Given as goal

-- The targets are those of the assignments so far.
abbrev pub invariant-loop-number : goal.invariant-loop-number
invariant-loop-number l = AreNumbered l.targets (read_all_assigned (take l.number l.assigned))
