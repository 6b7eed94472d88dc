use Rattle.std.proofs.Common.{◌++◌, [], ◌∷◌, refl, ◌∙◌}
use Rattle.text_meaning.specs.Tokens.{AssignSign, DotSign}
use Rattle.text_meaning.specs.Trees.{ConstAssign}
use Rattle.text_meaning.specs.Parsing.{AtAssign, Ends, Expect, ValueFor, at_expr}
use Rattle.mmt_syntax.specs.Readings.{read_expr, read_written}
use Rattle.twelf_expressions.proofs.Moves.{stopped, took, with_expected}
use Rattle.twelf_reader.proofs.assigns.const_assign.Goals as goal

pub returns-in_err-expect-clause-goes : goal.returns-in_err-expect-clause-goes
returns-in_err-expect-clause-goes c = λ o xs.
    let target = c.in_ok-target.target in
    let value = at_expr 1 (Ends (ValueFor o xs (read_written target))) in
    let taken = took (AtAssign o xs) (Expect AssignSign value) c.in_ok-target.ensures.takes refl refl refl in
    stopped c.from_residual-in_err-expect.result _ _ c.from_residual-in_err-expect.ensures.1 taken (c.in_err-expect.ensures.goes value refl)

pub returns-in_err-value-clause-goes : goal.returns-in_err-value-clause-goes
returns-in_err-value-clause-goes c = λ o xs.
    let target = c.in_ok-target.target in
    let value = at_expr 1 (Ends (ValueFor o xs (read_written target))) in
    let taken = took (AtAssign o xs) (Expect AssignSign value) c.in_ok-target.ensures.takes refl refl refl in
    stopped c.from_residual-in_err-value.result _ _ c.from_residual-in_err-value.ensures.1 (taken ∙ c.in_ok-expect.ensures.goes value refl) (c.in_err-value.ensures.goes (ValueFor o xs (read_written target)))

pub returns-in_err-expect-2-clause-goes : goal.returns-in_err-expect-2-clause-goes
returns-in_err-expect-2-clause-goes c = λ o xs.
    let target = c.in_ok-target.target in
    let value = at_expr 1 (Ends (ValueFor o xs (read_written target))) in
    let taken = took (AtAssign o xs) (Expect AssignSign value) c.in_ok-target.ensures.takes refl refl refl in
    let next = AtAssign o (xs ++ (ConstAssign (read_written target) (read_expr c.in_ok-value.value) ∷ [])) in
    stopped c.from_residual-in_err-expect-2.result _ _ c.from_residual-in_err-expect-2.ensures.1
    (taken ∙ c.in_ok-expect.ensures.goes value refl ∙ c.in_ok-value.ensures.goes (ValueFor o xs (read_written target)) ∙ with_expected c.expr.new.self DotSign next)
    (c.in_err-expect-2.ensures.goes next refl)

pub returns-clause-goes : goal.returns-clause-goes
returns-clause-goes c = λ o xs.
    let target = c.in_ok-target.target in
    let value = at_expr 1 (Ends (ValueFor o xs (read_written target))) in
    let taken = took (AtAssign o xs) (Expect AssignSign value) c.in_ok-target.ensures.takes refl refl refl in
    let next = AtAssign o (xs ++ (ConstAssign (read_written target) (read_expr c.in_ok-value.value) ∷ [])) in
    taken ∙ c.in_ok-expect.ensures.goes value refl ∙ c.in_ok-value.ensures.goes (ValueFor o xs (read_written target)) ∙ with_expected c.expr.new.self DotSign next ∙ c.in_ok-expect-2.ensures.goes next refl
