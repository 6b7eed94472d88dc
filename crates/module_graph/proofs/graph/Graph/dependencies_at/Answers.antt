use Rattle.std.proofs.Common.{Some, ap, ◌∙◌, sym}
use Rattle.module_graph.proofs.graph.Graph.dependencies_at.Goals as goal

pub returns : goal.returns
returns c =
    (c.row_at.result.0.now, rw (← c.self.view_is) (c.row_at.ensures ∙ ap (λ deps. Some (c.row_at.result.0.now, deps)) (sym c.get.ensures)))
