use Rattle.std.proofs.Common.{◌++◌, [], ◌∷◌, refl, ◌∙◌}
use Rattle.text_meaning.specs.Tokens.{AssignSign, DotSign}
use Rattle.text_meaning.specs.Trees.{ConstAssign}
use Rattle.text_meaning.specs.Parsing.{AtAssign, Ends, Expect, ValueFor, at_expr}
use Rattle.twelf_expressions.proofs.Moves.{failed, took, with_expected}
use Rattle.twelf_expressions.proofs.Outlines.{passing_stopped}
use Rattle.twelf_reader.proofs.dependency_assigns.pass_const_assign.Goals as goal

pub returns-in_err-expect-clause-goes : goal.returns-in_err-expect-clause-goes
returns-in_err-expect-clause-goes c = λ o xs.
    let target = c.skip_path.ensures.passes.0 in
    let purpose = ValueFor o xs target in
    let value = at_expr 1 (Ends purpose) in
    let taken = took (AtAssign o xs) (Expect AssignSign value) c.skip_path.ensures.passes.1 refl refl refl in
    passing_stopped c.from_residual.result _ _ _ c.from_residual.ensures.1 (failed _ taken (c.in_err-expect.ensures.goes value refl))

pub returns-in_err-pass_expr-clause-goes : goal.returns-in_err-pass_expr-clause-goes
returns-in_err-pass_expr-clause-goes c = λ o xs.
    let target = c.skip_path.ensures.passes.0 in
    let purpose = ValueFor o xs target in
    let value = at_expr 1 (Ends purpose) in
    let taken = took (AtAssign o xs) (Expect AssignSign value) c.skip_path.ensures.passes.1 refl refl refl in
    passing_stopped c.from_residual-in_err-pass_expr.result _ _ _ c.from_residual-in_err-pass_expr.ensures.1 (failed _ (taken ∙ c.in_ok-expect.ensures.goes value refl) (c.in_err-pass_expr.ensures.goes purpose))

pub returns-in_err-expect-2-clause-goes : goal.returns-in_err-expect-2-clause-goes
returns-in_err-expect-2-clause-goes c = λ o xs.
    let target = c.skip_path.ensures.passes.0 in
    let purpose = ValueFor o xs target in
    let value = at_expr 1 (Ends purpose) in
    let taken = took (AtAssign o xs) (Expect AssignSign value) c.skip_path.ensures.passes.1 refl refl refl in
    let behind = c.in_ok-pass_expr.ensures.goes purpose in
    let next = AtAssign o (xs ++ (ConstAssign target behind.tree ∷ [])) in
    passing_stopped c.from_residual-in_err-expect-2.result _ _ _ c.from_residual-in_err-expect-2.ensures.1
    (failed _ (taken ∙ c.in_ok-expect.ensures.goes value refl ∙ behind.goes ∙ with_expected c.pass_expr.new.self DotSign next) (c.in_err-expect-2.ensures.goes next refl))

pub returns-clause-goes : goal.returns-clause-goes
returns-clause-goes c = λ o xs.
    let target = c.skip_path.ensures.passes.0 in
    let purpose = ValueFor o xs target in
    let value = at_expr 1 (Ends purpose) in
    let taken = took (AtAssign o xs) (Expect AssignSign value) c.skip_path.ensures.passes.1 refl refl refl in
    let behind = c.in_ok-pass_expr.ensures.goes purpose in
    let next = AtAssign o (xs ++ (ConstAssign target behind.tree ∷ [])) in
    (target, behind.tree, taken ∙ c.in_ok-expect.ensures.goes value refl ∙ behind.goes ∙ with_expected c.pass_expr.new.self DotSign next ∙ c.in_ok-expect-2.ensures.goes next refl)
