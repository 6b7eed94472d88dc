use Rattle.module_graph.specs.Merging.{IsMerge}
use Rattle.verdict_board.proofs.Marks.{marked_both}
use Rattle.verdict_board.proofs.marked_names.MarkedNames.merged.Goals as goal

pub invariant_of-result : goal.invariant_of-result
invariant_of-result c =
    let both : IsMerge c.self.inside.names c.other.inside.names c.in_ok-new.field-0 = rw (← c.get.ensures, ← c.get-2.ensures, c.in_ok-new.ensures) c.in_ok-names.ensures in
    λ name m. marked_both c.self.inside.names c.other.inside.names c.in_ok-new.field-0 c.self.inside.marks c.other.inside.marks c.self.invariant c.other.invariant both name m
