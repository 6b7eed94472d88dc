use Rattle.std.proofs.Common.{◌++◌, [], ◌∷◌, refl, ap, ◌∙◌}
use Rattle.text_meaning.specs.Tokens.{DotSign}
use Rattle.text_meaning.specs.Trees.{IncludeDecl}
use Rattle.text_meaning.specs.Parsing.{AtDecl, Expect, ExpectName, Simple, answer_on, as_written}
use Rattle.twelf_expressions.specs.Left.{left}
use Rattle.twelf_expressions.specs.Going.{simple_of}
use Rattle.twelf_reader.specs.Items.{struct_named, theory_ends}
use Rattle.twelf_expressions.proofs.Moves.{stopped, took}
use Rattle.twelf_reader.proofs.decls.decl.Goals as goal

pub returns-in_err-theory-in-Percent-Include-clause-goes : goal.returns-in_err-theory-in-Percent-Include-clause-goes
returns-in_err-theory-in-Percent-Include-clause-goes c = λ sig ds.
    let first = λ (y : Simple). Expect DotSign (AtDecl sig (ds ++ (IncludeDecl (as_written y) ∷ []))) in
    let taken = took (AtDecl sig ds) (ExpectName first) c.take.ensures.takes refl refl refl in
    stopped c.from_residual.result _ _ c.from_residual.ensures.1 taken (c.in_err-theory-in-Percent-Include.ensures.goes first (λ _. refl))

pub returns-in_err-expect-in-Percent-Include-clause-goes : goal.returns-in_err-expect-in-Percent-Include-clause-goes
returns-in_err-expect-in-Percent-Include-clause-goes c = λ sig ds.
    let first = λ (y : Simple). Expect DotSign (AtDecl sig (ds ++ (IncludeDecl (as_written y) ∷ []))) in
    let taken = took (AtDecl sig ds) (ExpectName first) c.take.ensures.takes refl refl refl in
    let next = AtDecl sig (ds ++ (IncludeDecl (as_written (simple_of c.in_ok-theory-in-Percent-Include.theory)) ∷ [])) in
    stopped c.from_residual-in_err-expect-in-Percent-Include.result _ _ c.from_residual-in_err-expect-in-Percent-Include.ensures.1 (taken ∙ c.in_ok-theory-in-Percent-Include.ensures.goes first (λ _. refl)) (c.in_err-expect-in-Percent-Include.ensures.goes next refl)

pub returns-in_ok-expect-in-Percent-Include-clause-goes : goal.returns-in_ok-expect-in-Percent-Include-clause-goes
returns-in_ok-expect-in-Percent-Include-clause-goes c = λ sig ds.
    let first = λ (y : Simple). Expect DotSign (AtDecl sig (ds ++ (IncludeDecl (as_written y) ∷ []))) in
    let taken = took (AtDecl sig ds) (ExpectName first) c.take.ensures.takes refl refl refl in
    let next = AtDecl sig (ds ++ (IncludeDecl (as_written (simple_of c.in_ok-theory-in-Percent-Include.theory)) ∷ [])) in
    taken ∙ c.in_ok-theory-in-Percent-Include.ensures.goes first (λ _. refl) ∙ c.in_ok-expect-in-Percent-Include.ensures.goes next refl
    ∙ ap (λ w. answer_on (AtDecl sig (ds ++ (IncludeDecl w ∷ []))) (left c.expect.new.self)) c.in_ok-theory-in-Percent-Include.ensures.one

pub returns-in_err-decl-in-Percent-Struct-clause-goes : goal.returns-in_err-decl-in-Percent-Struct-clause-goes
returns-in_err-decl-in-Percent-Struct-clause-goes c = λ sig ds.
    let taken = took (AtDecl sig ds) (ExpectName (struct_named sig ds)) c.take-in-Percent-Struct.ensures.takes refl refl refl in
    stopped c.from_residual-in_err-decl-in-Percent-Struct.result _ _ c.from_residual-in_err-decl-in-Percent-Struct.ensures.1 taken (c.in_err-decl-in-Percent-Struct.ensures.goes sig ds)

pub returns-in_ok-decl-in-Percent-Struct-clause-goes : goal.returns-in_ok-decl-in-Percent-Struct-clause-goes
returns-in_ok-decl-in-Percent-Struct-clause-goes c = λ sig ds.
    let taken = took (AtDecl sig ds) (ExpectName (struct_named sig ds)) c.take-in-Percent-Struct.ensures.takes refl refl refl in
    taken ∙ c.in_ok-decl-in-Percent-Struct.ensures.goes sig ds

pub returns-in-RBrace-clause-goes : goal.returns-in-RBrace-clause-goes
returns-in-RBrace-clause-goes c = λ sig ds.
    took (AtDecl sig ds) (theory_ends sig ds) c.take-in-RBrace.ensures.takes refl refl refl
