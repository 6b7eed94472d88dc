use Rattle.std.proofs.Common.{◌≡◌, drop}
use Rattle.term_trees.specs.Readings.{read_objects}
use Rattle.term_text.specs.Arguments.{arguments_use}
use Rattle.term_text.proofs.uses.+uses.Given as goal

-- The arguments that are left decide.
abbrev pub invariant-spine_uses-loop-item : goal.invariant-spine_uses-loop-item
invariant-spine_uses-loop-item l = arguments_use l.variable (read_objects (drop l.item-index l.item-items)) ≡ arguments_use l.variable (read_objects l.item-items)
