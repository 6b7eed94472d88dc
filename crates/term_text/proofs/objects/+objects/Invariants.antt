use Rattle.std.proofs.Common.{◌≡◌, ◌++◌, take}
use Rattle.term_trees.specs.Readings.{read_objects}
use Rattle.term_text.specs.Arguments.{arguments_text}
use Rattle.term_text.specs.Readings.{read_seen}
use Rattle.term_text.proofs.objects.+objects.Given as goal

-- The arguments so far.
abbrev pub invariant-arguments-loop-argument : goal.invariant-arguments-loop-argument
invariant-arguments-loop-argument l = l.out ≡ l.initial.out ++ arguments_text (read_seen l.seen) l.depth (read_objects (take l.argument-index l.argument-items))
