use Rattle.std.proofs.Common.{◌++◌, [], ◌∷◌, refl, ap, ◌∙◌}
use Rattle.std.specs.Option.{option_map}
use Rattle.text_meaning.specs.Tokens.{ColonSign}
use Rattle.text_meaning.specs.Trees.{ConstDecl}
use Rattle.text_meaning.specs.Parsing.{AtDecl, ClassOf, Ends, Expect, answer_on, at_expr}
use Rattle.mmt_syntax.specs.Readings.{read_expr}
use Rattle.twelf_expressions.specs.Left.{left}
use Rattle.twelf_expressions.specs.Going.{simple_of}
use Rattle.twelf_expressions.proofs.Moves.{stopped, took}
use Rattle.twelf_reader.proofs.decls.constant.Goals as goal

pub returns-in_err-expect-clause-goes : goal.returns-in_err-expect-clause-goes
returns-in_err-expect-clause-goes c = λ sig ds.
    let name = c.in_ok-name.name in
    let class = at_expr 1 (Ends (ClassOf sig ds (simple_of name))) in
    let taken = took (AtDecl sig ds) (Expect ColonSign class) c.in_ok-name.ensures.takes refl refl refl in
    stopped c.from_residual-in_err-expect.result _ _ c.from_residual-in_err-expect.ensures.1 taken (c.in_err-expect.ensures.goes class refl)

pub returns-in_err-class-clause-goes : goal.returns-in_err-class-clause-goes
returns-in_err-class-clause-goes c = λ sig ds.
    let name = c.in_ok-name.name in
    let class = at_expr 1 (Ends (ClassOf sig ds (simple_of name))) in
    let taken = took (AtDecl sig ds) (Expect ColonSign class) c.in_ok-name.ensures.takes refl refl refl in
    stopped c.from_residual-in_err-class.result _ _ c.from_residual-in_err-class.ensures.1 (taken ∙ c.in_ok-expect.ensures.goes class refl) (c.in_err-class.ensures.goes (ClassOf sig ds (simple_of name)))

pub returns-in_err-value-clause-goes : goal.returns-in_err-value-clause-goes
returns-in_err-value-clause-goes c = λ sig ds.
    let name = c.in_ok-name.name in
    let class = at_expr 1 (Ends (ClassOf sig ds (simple_of name))) in
    let taken = took (AtDecl sig ds) (Expect ColonSign class) c.in_ok-name.ensures.takes refl refl refl in
    stopped c.from_residual-in_err-value.result _ _ c.from_residual-in_err-value.ensures.1 (taken ∙ c.in_ok-expect.ensures.goes class refl ∙ c.in_ok-class.ensures.goes (ClassOf sig ds (simple_of name)))
    (c.in_err-value.ensures.goes sig ds (simple_of name) (read_expr c.in_ok-class.class))

pub returns-clause-goes : goal.returns-clause-goes
returns-clause-goes c = λ sig ds.
    let name = c.in_ok-name.name in
    let class = at_expr 1 (Ends (ClassOf sig ds (simple_of name))) in
    let taken = took (AtDecl sig ds) (Expect ColonSign class) c.in_ok-name.ensures.takes refl refl refl in
    let came = taken ∙ c.in_ok-expect.ensures.goes class refl ∙ c.in_ok-class.ensures.goes (ClassOf sig ds (simple_of name)) ∙ c.in_ok-value.ensures.goes sig ds (simple_of name) (read_expr c.in_ok-class.class) in
    came
    ∙ ap (λ n. answer_on (AtDecl sig (ds ++ (ConstDecl n (read_expr c.in_ok-class.class) (option_map read_expr c.in_ok-value.value) ∷ []))) (left c.value.new.reader)) c.in_ok-name.ensures.one
