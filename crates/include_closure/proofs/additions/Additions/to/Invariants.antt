use Rattle.std.proofs.Common.{take}
use Rattle.include_closure.specs.Additions.{HaveSame}
use Rattle.include_closure.proofs.additions.Additions.to.Given as goal

abbrev pub invariant-loop-name : goal.invariant-loop-name
invariant-loop-name l = HaveSame l.known.keys (take l.name-index l.names)
