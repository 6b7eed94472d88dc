use Rattle.std.proofs.Common.{ap, ◌∙◌}
use Rattle.lf_meaning.specs.Terms.{At, Var, apply_all}
use Rattle.term_trees.specs.Readings.{read_objects}
use Rattle.term_trees.specs.declared.obj.Head.TheVariants as head
use Rattle.term_trees.proofs.ReadingEquations.{read_object_at}
use Rattle.elaborate.proofs.HeadsStand.{variable_first}
use Rattle.elaborate.proofs.heads.Head.into_object.Goals as goal

pub returns-in-Variable : goal.returns-in-Variable
returns-in-Variable c object family stands =
    let put = c.in_ok-of-in-Variable in
    read_object_at (head.Var c.in-Variable.index) put.field-0
    ∙ ap (λ os. At (apply_all (Var c.in-Variable.index) (read_objects os))) put.ensures
    ∙ variable_first c.args.self c.in-Variable.index object family c.in-Variable.is stands
