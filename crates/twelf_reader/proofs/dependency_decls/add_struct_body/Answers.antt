use Rattle.std.proofs.Common.{◌++◌, [], ◌∷◌, append-nil, refl, sym, ◌∙◌}
use Rattle.text_meaning.specs.Tokens.{LeftBrace}
use Rattle.text_meaning.specs.Trees.{StructDecl}
use Rattle.text_meaning.specs.Parsing.{AfterDomain, AtAssign, AtDecl, Expect, InStruct, as_written}
use Rattle.twelf_expressions.proofs.Moves.{failed, took}
use Rattle.twelf_expressions.proofs.Outlines.{passing_stopped}
use Rattle.twelf_reader.proofs.dependency_decls.add_struct_body.Goals as goal

pub returns-in_err-expect-in-Equal-clause-goes : goal.returns-in_err-expect-in-Equal-clause-goes
returns-in_err-expect-in-Equal-clause-goes c = λ sig ds y z.
    let o = InStruct sig ds y z in
    let taken = took (AfterDomain sig ds y z) (Expect LeftBrace (AtAssign o [])) c.take-in-Equal.ensures.takes refl refl refl in
    passing_stopped c.from_residual.result _ _ _ c.from_residual.ensures.1 (failed _ taken (c.in_err-expect-in-Equal.ensures.goes (AtAssign o []) refl))

pub returns-in_err-add_assigns-in-Equal-clause-goes : goal.returns-in_err-add_assigns-in-Equal-clause-goes
returns-in_err-add_assigns-in-Equal-clause-goes c = λ sig ds y z.
    let o = InStruct sig ds y z in
    let taken = took (AfterDomain sig ds y z) (Expect LeftBrace (AtAssign o [])) c.take-in-Equal.ensures.takes refl refl refl in
    passing_stopped c.from_residual-in_err-add_assigns-in-Equal.result _ _ _ c.from_residual-in_err-add_assigns-in-Equal.ensures.1 (failed _ (taken ∙ c.in_ok-expect-in-Equal.ensures.goes (AtAssign o []) refl) (c.in_err-add_assigns-in-Equal.ensures.goes o))

pub returns-in_err-expect-in-Equal-2-clause-goes : goal.returns-in_err-expect-in-Equal-2-clause-goes
returns-in_err-expect-in-Equal-2-clause-goes c = λ sig ds y z.
    let o = InStruct sig ds y z in
    let taken = took (AfterDomain sig ds y z) (Expect LeftBrace (AtAssign o [])) c.take-in-Equal.ensures.takes refl refl refl in
    let g = c.in_ok-add_assigns-in-Equal.ensures.goes o in
    let next = AtDecl sig (ds ++ (StructDecl (as_written y) (as_written z) g.item ∷ [])) in
    passing_stopped c.from_residual-in_err-expect-in-Equal-2.result _ _ _ c.from_residual-in_err-expect-in-Equal-2.ensures.1 (failed _ (taken ∙ c.in_ok-expect-in-Equal.ensures.goes (AtAssign o []) refl ∙ g.goes) (c.in_err-expect-in-Equal-2.ensures.goes next refl))

pub returns-in_ok-expect-in-Equal-2-clause-goes : goal.returns-in_ok-expect-in-Equal-2-clause-goes
returns-in_ok-expect-in-Equal-2-clause-goes c = λ sig ds y z.
    let o = InStruct sig ds y z in
    let taken = took (AfterDomain sig ds y z) (Expect LeftBrace (AtAssign o [])) c.take-in-Equal.ensures.takes refl refl refl in
    let g = c.in_ok-add_assigns-in-Equal.ensures.goes o in
    let next = AtDecl sig (ds ++ (StructDecl (as_written y) (as_written z) g.item ∷ [])) in
    record { item = g.item; goes = taken ∙ c.in_ok-expect-in-Equal.ensures.goes (AtAssign o []) refl ∙ g.goes ∙ c.in_ok-expect-in-Equal-2.ensures.goes next refl; names = g.names }

pub returns-in-Dot-clause-goes : goal.returns-in-Dot-clause-goes
returns-in-Dot-clause-goes c = λ sig ds y z.
    record {
      item = [];
      goes = took (AfterDomain sig ds y z) (AtDecl sig (ds ++ (StructDecl (as_written y) (as_written z) [] ∷ []))) c.take.ensures.takes refl refl refl;
      names = sym (append-nil c.args.names.now);
    }
