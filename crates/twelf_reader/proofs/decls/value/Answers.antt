use Rattle.std.proofs.Common.{◌++◌, [], ◌∷◌, refl, None, Some, ◌∙◌}
use Rattle.text_meaning.specs.Tokens.{DotSign}
use Rattle.text_meaning.specs.Trees.{ConstDecl}
use Rattle.text_meaning.specs.Parsing.{AtDecl, Ends, ValueOf, as_written, at_expr, class_ends}
use Rattle.mmt_syntax.specs.Readings.{read_expr}
use Rattle.twelf_expressions.proofs.Moves.{stopped, took_behind, with_expected}
use Rattle.twelf_reader.proofs.decls.value.Goals as goal

pub returns-in_err-expect-in-Equal-clause-goes : goal.returns-in_err-expect-in-Equal-clause-goes
returns-in_err-expect-in-Equal-clause-goes c = λ sig ds n e.
    let taken = took_behind (λ t. class_ends sig ds n e t.kind) (at_expr 1 (Ends (ValueOf sig ds n e))) c.take-in-Equal.ensures.takes refl refl in
    let next = AtDecl sig (ds ++ (ConstDecl (as_written n) e (Some (read_expr c.in_ok-value-in-Equal.value)) ∷ [])) in
    stopped c.from_residual-in_err-expect-in-Equal.result _ _ c.from_residual-in_err-expect-in-Equal.ensures.1 (taken ∙ c.in_ok-value-in-Equal.ensures.goes (ValueOf sig ds n e) ∙ with_expected c.expr.new.self DotSign next) (c.in_err-expect-in-Equal.ensures.goes next refl)

pub returns-in_ok-expect-in-Equal-clause-goes : goal.returns-in_ok-expect-in-Equal-clause-goes
returns-in_ok-expect-in-Equal-clause-goes c = λ sig ds n e.
    let taken = took_behind (λ t. class_ends sig ds n e t.kind) (at_expr 1 (Ends (ValueOf sig ds n e))) c.take-in-Equal.ensures.takes refl refl in
    let next = AtDecl sig (ds ++ (ConstDecl (as_written n) e (Some (read_expr c.in_ok-value-in-Equal.value)) ∷ [])) in
    taken ∙ c.in_ok-value-in-Equal.ensures.goes (ValueOf sig ds n e) ∙ with_expected c.expr.new.self DotSign next ∙ c.in_ok-expect-in-Equal.ensures.goes next refl

pub returns-in_err-value-in-Equal-clause-goes : goal.returns-in_err-value-in-Equal-clause-goes
returns-in_err-value-in-Equal-clause-goes c = λ sig ds n e.
    let taken = took_behind (λ t. class_ends sig ds n e t.kind) (at_expr 1 (Ends (ValueOf sig ds n e))) c.take-in-Equal.ensures.takes refl refl in
    stopped c.from_residual.result _ _ c.from_residual.ensures.1 taken (c.in_err-value-in-Equal.ensures.goes (ValueOf sig ds n e))

pub returns-in-Dot-clause-goes : goal.returns-in-Dot-clause-goes
returns-in-Dot-clause-goes c = λ sig ds n e.
    took_behind (λ t. class_ends sig ds n e t.kind) (AtDecl sig (ds ++ (ConstDecl (as_written n) e None ∷ []))) c.take.ensures.takes refl refl
