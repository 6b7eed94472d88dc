use Rattle.std.proofs.Common.{◌++◌, [], ◌∷◌, None, Some, refl, ◌∙◌}
use Rattle.text_meaning.specs.Tokens.{DotSign}
use Rattle.text_meaning.specs.Trees.{ConstDecl}
use Rattle.text_meaning.specs.Parsing.{AtDecl, Ends, ValueOf, as_written, at_expr, class_ends}
use Rattle.twelf_expressions.proofs.Moves.{failed, took_behind, with_expected}
use Rattle.twelf_expressions.proofs.Outlines.{passing_stopped}
use Rattle.twelf_reader.proofs.dependency_decls.pass_value.Goals as goal

pub returns-in_err-pass_expr-in-Equal-clause-goes : goal.returns-in_err-pass_expr-in-Equal-clause-goes
returns-in_err-pass_expr-in-Equal-clause-goes c = λ sig ds n e.
    let purpose = ValueOf sig ds n e in
    let taken = took_behind (λ t. class_ends sig ds n e t.kind) (at_expr 1 (Ends purpose)) c.take-in-Equal.ensures.takes refl refl in
    passing_stopped c.from_residual.result _ _ _ c.from_residual.ensures.1 (failed _ taken (c.in_err-pass_expr-in-Equal.ensures.goes purpose))

pub returns-in_err-expect-in-Equal-clause-goes : goal.returns-in_err-expect-in-Equal-clause-goes
returns-in_err-expect-in-Equal-clause-goes c = λ sig ds n e.
    let purpose = ValueOf sig ds n e in
    let taken = took_behind (λ t. class_ends sig ds n e t.kind) (at_expr 1 (Ends purpose)) c.take-in-Equal.ensures.takes refl refl in
    let behind = c.in_ok-pass_expr-in-Equal.ensures.goes purpose in
    let next = AtDecl sig (ds ++ (ConstDecl (as_written n) e (Some behind.tree) ∷ [])) in
    passing_stopped c.from_residual-in_err-expect-in-Equal.result _ _ _ c.from_residual-in_err-expect-in-Equal.ensures.1 (failed _ (taken ∙ behind.goes ∙ with_expected c.pass_expr.new.self DotSign next) (c.in_err-expect-in-Equal.ensures.goes next refl))

pub returns-in_ok-expect-in-Equal-clause-goes : goal.returns-in_ok-expect-in-Equal-clause-goes
returns-in_ok-expect-in-Equal-clause-goes c = λ sig ds n e.
    let purpose = ValueOf sig ds n e in
    let taken = took_behind (λ t. class_ends sig ds n e t.kind) (at_expr 1 (Ends purpose)) c.take-in-Equal.ensures.takes refl refl in
    let behind = c.in_ok-pass_expr-in-Equal.ensures.goes purpose in
    let next = AtDecl sig (ds ++ (ConstDecl (as_written n) e (Some behind.tree) ∷ [])) in
    (Some behind.tree, taken ∙ behind.goes ∙ with_expected c.pass_expr.new.self DotSign next ∙ c.in_ok-expect-in-Equal.ensures.goes next refl)

pub returns-in-Dot-clause-goes : goal.returns-in-Dot-clause-goes
returns-in-Dot-clause-goes c = λ sig ds n e.
    (None, took_behind (λ t. class_ends sig ds n e t.kind) (AtDecl sig (ds ++ (ConstDecl (as_written n) e None ∷ []))) c.take.ensures.takes refl refl)
