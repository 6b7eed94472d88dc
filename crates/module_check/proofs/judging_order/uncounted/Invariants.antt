use Rattle.std.proofs.Common.{◌≡◌, ℕ, map, take}
use Rattle.name_meaning.specs.Names.{Name}
use Rattle.module_check.proofs.judging_order.uncounted.Given as goal

abbrev pub invariant-loop-name : goal.invariant-loop-name
invariant-loop-name l = l.names.items ≡ map (λ (item : ℕ × Name). item.1) (take l.name-index l.counted)
