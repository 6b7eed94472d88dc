use Rattle.std.proofs.Common.{◌≡◌, not, filter, take}
use Rattle.name_meaning.specs.Names.{Name, is_among}
use Rattle.name_meaning.specs.Rows.{row_names}
use Rattle.module_check.proofs.ungrounded.others.Given as goal

abbrev pub invariant-loop-place : goal.invariant-loop-place
invariant-loop-place l = l.others.items ≡ filter (λ (n : Name). not (is_among l.names n)) (take l.place (row_names l.graph))
