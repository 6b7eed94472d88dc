use Rattle.term_text.specs.Readings.{read_seen}
use Rattle.term_text.proofs.Binders.{Bound}
use Rattle.term_text.proofs.classes.value.Given as goal

-- The binders so far.
abbrev pub invariant-loop-number : goal.invariant-loop-number
invariant-loop-number l = Bound (read_seen l.seen) l.number-end l.initial.out l.out l.number
