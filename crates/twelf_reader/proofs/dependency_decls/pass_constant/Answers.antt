use Rattle.std.proofs.Common.{refl, ◌∙◌}
use Rattle.text_meaning.specs.Tokens.{ColonSign}
use Rattle.text_meaning.specs.Parsing.{AtDecl, ClassOf, Ends, Expect, as_written, at_expr}
use Rattle.twelf_expressions.proofs.Moves.{failed, took}
use Rattle.twelf_expressions.proofs.Outlines.{passing_stopped}
use Rattle.twelf_reader.proofs.AddedNames.{passes_from}
use Rattle.twelf_reader.proofs.dependency_decls.pass_constant.Goals as goal

pub returns-in_err-expect-clause-goes : goal.returns-in_err-expect-clause-goes
returns-in_err-expect-clause-goes c = λ sig ds.
    let (name, passes) = c.skip_name.ensures.passes in
    let purpose = ClassOf sig ds name in
    let class = at_expr 1 (Ends purpose) in
    let taken = took (AtDecl sig ds) (Expect ColonSign class) passes refl refl refl in
    passing_stopped c.from_residual.result _ _ _ c.from_residual.ensures.1 (failed _ taken (c.in_err-expect.ensures.goes class refl))

pub returns-in_err-pass_expr-clause-goes : goal.returns-in_err-pass_expr-clause-goes
returns-in_err-pass_expr-clause-goes c = λ sig ds.
    let (name, passes) = c.skip_name.ensures.passes in
    let purpose = ClassOf sig ds name in
    let class = at_expr 1 (Ends purpose) in
    let taken = took (AtDecl sig ds) (Expect ColonSign class) passes refl refl refl in
    passing_stopped c.from_residual-in_err-pass_expr.result _ _ _ c.from_residual-in_err-pass_expr.ensures.1 (failed _ (taken ∙ c.in_ok-expect.ensures.goes class refl) (c.in_err-pass_expr.ensures.goes purpose))

pub returns-clause-goes : goal.returns-clause-goes
returns-clause-goes c = λ sig ds.
    let (name, passes) = c.skip_name.ensures.passes in
    let purpose = ClassOf sig ds name in
    let class = at_expr 1 (Ends purpose) in
    let taken = took (AtDecl sig ds) (Expect ColonSign class) passes refl refl refl in
    let behind = c.in_ok-pass_expr.ensures.goes purpose in
    let came = taken ∙ c.in_ok-expect.ensures.goes class refl ∙ behind.goes in
    passes_from c.pass_value.result _ _ came (λ _ g. (as_written name, behind.tree, g.0, came ∙ g.1)) (c.pass_value.ensures.goes sig ds name behind.tree)
