use Rattle.std.proofs.Common.{[], None, subst, ◌∙◌, arith}
use Rattle.text_meaning.specs.Parsing.{AtAssign, answer_on}
use Rattle.text_meaning.specs.Dependencies.{assign_dependencies}
use Rattle.mmt_syntax.specs.DependenciesLeft.{own_name}
use Rattle.twelf_expressions.specs.Left.{left}
use Rattle.twelf_expressions.proofs.Moves.{failed}
use Rattle.twelf_expressions.proofs.Outlines.{passing_stopped}
use Rattle.twelf_reader.specs.Dependencies.{AddsOrEnds}
use Rattle.twelf_reader.proofs.AddedNames.{one_more}
use Rattle.twelf_reader.proofs.dependency_assigns.add_assigns.Goals as goal

pub loop-preserved : goal.loop-preserved
loop-preserved c =
    record {
      goes = λ o.
          let h = c.loop.invariant.goes o in
          let g = subst (AddsOrEnds _ _ _ _ _ _) c.if-branch.true (c.in_ok-add_assign.ensures.goes o h.item) in
          one_more _ _ (λ xs. answer_on (AtAssign o xs) (left c.add_assign.new.reader)) (assign_dependencies (own_name c.args.own) None []) _ _ _ h g.item g.goes g.names;
      less = omega (arith, c.loop.invariant.less, c.in_ok-add_assign.ensures.less);
    }

pub returns-in_err-add_assign-clause-goes : goal.returns-in_err-add_assign-clause-goes
returns-in_err-add_assign-clause-goes c = λ o.
    let h = c.loop.invariant.goes o in
    passing_stopped c.from_residual.result _ _ _ c.from_residual.ensures.1 (failed _ h.goes (c.in_err-add_assign.ensures.goes o h.item))

pub returns-clause-goes : goal.returns-clause-goes
returns-clause-goes c = λ o.
    let h = c.loop.invariant.goes o in
    let g = subst (AddsOrEnds _ _ _ _ _ _) c.if-branch.false (c.in_ok-add_assign.ensures.goes o h.item) in
    record { item = h.item; goes = h.goes ∙ g.0; names = g.1 ∙ h.names }
