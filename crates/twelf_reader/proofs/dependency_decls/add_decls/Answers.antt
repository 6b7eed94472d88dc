use Rattle.std.proofs.Common.{subst, ◌∙◌, arith}
use Rattle.text_meaning.specs.Parsing.{AtDecl, answer_on}
use Rattle.text_meaning.specs.Dependencies.{decl_dependencies}
use Rattle.twelf_expressions.specs.Left.{left}
use Rattle.twelf_expressions.proofs.Moves.{failed}
use Rattle.twelf_expressions.proofs.Outlines.{passing_stopped}
use Rattle.twelf_reader.specs.Dependencies.{AddsOrEnds}
use Rattle.twelf_reader.proofs.AddedNames.{one_more}
use Rattle.twelf_reader.proofs.dependency_decls.add_decls.Goals as goal

pub loop-preserved : goal.loop-preserved
loop-preserved c =
    record {
      goes = λ sig.
          let h = c.loop.invariant.goes sig in
          let g = subst (AddsOrEnds _ _ _ _ _ _) c.if-branch.true (c.in_ok-add_decl.ensures.goes sig h.item) in
          one_more _ _ (λ xs. answer_on (AtDecl sig xs) (left c.add_decl.new.reader)) (decl_dependencies c.args.own.now) _ _ _ h g.item g.goes g.names;
      less = omega (arith, c.loop.invariant.less, c.in_ok-add_decl.ensures.less);
    }

pub returns-in_err-add_decl-clause-goes : goal.returns-in_err-add_decl-clause-goes
returns-in_err-add_decl-clause-goes c = λ sig.
    let h = c.loop.invariant.goes sig in
    passing_stopped c.from_residual.result _ _ _ c.from_residual.ensures.1 (failed _ h.goes (c.in_err-add_decl.ensures.goes sig h.item))

pub returns-clause-goes : goal.returns-clause-goes
returns-clause-goes c = λ sig.
    let h = c.loop.invariant.goes sig in
    let g = subst (AddsOrEnds _ _ _ _ _ _) c.if-branch.false (c.in_ok-add_decl.ensures.goes sig h.item) in
    record { item = h.item; goes = h.goes ∙ g.0; names = g.1 ∙ h.names }
