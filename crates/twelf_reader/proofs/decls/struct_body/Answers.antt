use Rattle.std.proofs.Common.{◌++◌, [], ◌∷◌, refl, sym, ap, ◌∙◌}
use Rattle.text_meaning.specs.Tokens.{LeftBrace}
use Rattle.text_meaning.specs.Trees.{StructDecl}
use Rattle.text_meaning.specs.Parsing.{AfterDomain, AtAssign, AtDecl, Expect, InStruct, answer_on, as_written}
use Rattle.mmt_syntax.specs.Readings.{read_assigns}
use Rattle.twelf_expressions.specs.Left.{left}
use Rattle.twelf_expressions.proofs.Moves.{stopped, took}
use Rattle.twelf_reader.proofs.decls.struct_body.Goals as goal

pub returns-in_err-expect-in-Equal-clause-goes : goal.returns-in_err-expect-in-Equal-clause-goes
returns-in_err-expect-in-Equal-clause-goes c = λ sig ds y z.
    let o = InStruct sig ds y z in
    let taken = took (AfterDomain sig ds y z) (Expect LeftBrace (AtAssign o [])) c.take-in-Equal.ensures.takes refl refl refl in
    stopped c.from_residual.result _ _ c.from_residual.ensures.1 (taken) (c.in_err-expect-in-Equal.ensures.goes (AtAssign o []) refl)

pub returns-in_err-assigns-in-Equal-clause-goes : goal.returns-in_err-assigns-in-Equal-clause-goes
returns-in_err-assigns-in-Equal-clause-goes c = λ sig ds y z.
    let o = InStruct sig ds y z in
    let taken = took (AfterDomain sig ds y z) (Expect LeftBrace (AtAssign o [])) c.take-in-Equal.ensures.takes refl refl refl in
    stopped c.from_residual-in_err-assigns-in-Equal.result _ _ c.from_residual-in_err-assigns-in-Equal.ensures.1 (taken ∙ c.in_ok-expect-in-Equal.ensures.goes (AtAssign o []) refl) (c.in_err-assigns-in-Equal.ensures.goes o)

pub returns-in_err-expect-in-Equal-2-clause-goes : goal.returns-in_err-expect-in-Equal-2-clause-goes
returns-in_err-expect-in-Equal-2-clause-goes c = λ sig ds y z.
    let o = InStruct sig ds y z in
    let taken = took (AfterDomain sig ds y z) (Expect LeftBrace (AtAssign o [])) c.take-in-Equal.ensures.takes refl refl refl in
    let next = AtDecl sig (ds ++ (StructDecl (as_written y) (as_written z) (read_assigns c.in_ok-assigns-in-Equal.assigns) ∷ [])) in
    stopped c.from_residual-in_err-expect-in-Equal-2.result _ _ c.from_residual-in_err-expect-in-Equal-2.ensures.1 (taken ∙ c.in_ok-expect-in-Equal.ensures.goes (AtAssign o []) refl ∙ c.in_ok-assigns-in-Equal.ensures.goes o) (c.in_err-expect-in-Equal-2.ensures.goes next refl)

pub returns-in_ok-expect-in-Equal-2-clause-goes : goal.returns-in_ok-expect-in-Equal-2-clause-goes
returns-in_ok-expect-in-Equal-2-clause-goes c = λ sig ds y z.
    let o = InStruct sig ds y z in
    let taken = took (AfterDomain sig ds y z) (Expect LeftBrace (AtAssign o [])) c.take-in-Equal.ensures.takes refl refl refl in
    let next = AtDecl sig (ds ++ (StructDecl (as_written y) (as_written z) (read_assigns c.in_ok-assigns-in-Equal.assigns) ∷ [])) in
    taken ∙ c.in_ok-expect-in-Equal.ensures.goes (AtAssign o []) refl ∙ c.in_ok-assigns-in-Equal.ensures.goes o ∙ c.in_ok-expect-in-Equal-2.ensures.goes next refl

pub returns-in-Dot-clause-goes : goal.returns-in-Dot-clause-goes
returns-in-Dot-clause-goes c = λ sig ds y z.
    took (AfterDomain sig ds y z) (AtDecl sig (ds ++ (StructDecl (as_written y) (as_written z) [] ∷ []))) c.take.ensures.takes refl refl refl
    ∙ ap (λ xs. answer_on (AtDecl sig (ds ++ (StructDecl (as_written y) (as_written z) (read_assigns xs) ∷ []))) (left c.take.new.self)) (sym c.new.ensures)
