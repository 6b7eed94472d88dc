use Rattle.std.proofs.Common.{◌++◌, [], ◌∷◌, append-nil, refl, sym, ◌∙◌}
use Rattle.text_meaning.specs.Tokens.{DotSign}
use Rattle.text_meaning.specs.Trees.{ConstDecl, IncludeDecl}
use Rattle.text_meaning.specs.Parsing.{AtDecl, Expect, ExpectName, Simple, as_written}
use Rattle.twelf_expressions.specs.Going.{simple_of}
use Rattle.twelf_reader.specs.Items.{struct_named, theory_ends}
use Rattle.twelf_expressions.proofs.Moves.{failed, took}
use Rattle.twelf_expressions.proofs.Outlines.{passing_stopped}
use Rattle.twelf_reader.proofs.dependency_decls.add_decl.Goals as goal

pub returns-in_err-theory-in-Percent-Include-clause-goes : goal.returns-in_err-theory-in-Percent-Include-clause-goes
returns-in_err-theory-in-Percent-Include-clause-goes c = λ sig ds.
    let first = λ (y : Simple). Expect DotSign (AtDecl sig (ds ++ (IncludeDecl (as_written y) ∷ []))) in
    let taken = took (AtDecl sig ds) (ExpectName first) c.take.ensures.takes refl refl refl in
    passing_stopped c.from_residual.result _ _ _ c.from_residual.ensures.1 (failed _ taken (c.in_err-theory-in-Percent-Include.ensures.goes first (λ _. refl)))

pub returns-in_err-expect-in-Percent-Include-clause-goes : goal.returns-in_err-expect-in-Percent-Include-clause-goes
returns-in_err-expect-in-Percent-Include-clause-goes c = λ sig ds.
    let first = λ (y : Simple). Expect DotSign (AtDecl sig (ds ++ (IncludeDecl (as_written y) ∷ []))) in
    let taken = took (AtDecl sig ds) (ExpectName first) c.take.ensures.takes refl refl refl in
    let next = AtDecl sig (ds ++ (IncludeDecl (as_written (simple_of c.in_ok-theory-in-Percent-Include.theory)) ∷ [])) in
    passing_stopped c.from_residual-in_err-expect-in-Percent-Include.result _ _ _ c.from_residual-in_err-expect-in-Percent-Include.ensures.1 (failed _ (taken ∙ c.in_ok-theory-in-Percent-Include.ensures.goes first (λ _. refl)) (c.in_err-expect-in-Percent-Include.ensures.goes next refl))

pub returns-in_ok-expect-in-Percent-Include-clause-goes : goal.returns-in_ok-expect-in-Percent-Include-clause-goes
returns-in_ok-expect-in-Percent-Include-clause-goes c = λ sig ds.
    let first = λ (y : Simple). Expect DotSign (AtDecl sig (ds ++ (IncludeDecl (as_written y) ∷ []))) in
    let taken = took (AtDecl sig ds) (ExpectName first) c.take.ensures.takes refl refl refl in
    let included = IncludeDecl (as_written (simple_of c.in_ok-theory-in-Percent-Include.theory)) in
    record {
      item = included;
      goes = taken ∙ c.in_ok-theory-in-Percent-Include.ensures.goes first (λ _. refl) ∙ c.in_ok-expect-in-Percent-Include.ensures.goes (AtDecl sig (ds ++ (included ∷ []))) refl;
      names = c.in_ok-add_first-in-Percent-Include.ensures;
    }

pub returns-in_err-add_structure-in-Percent-Struct-clause-goes : goal.returns-in_err-add_structure-in-Percent-Struct-clause-goes
returns-in_err-add_structure-in-Percent-Struct-clause-goes c = λ sig ds.
    let taken = took (AtDecl sig ds) (ExpectName (struct_named sig ds)) c.take-in-Percent-Struct.ensures.takes refl refl refl in
    passing_stopped c.from_residual-in_err-add_structure-in-Percent-Struct.result _ _ _ c.from_residual-in_err-add_structure-in-Percent-Struct.ensures.1 (failed _ taken (c.in_err-add_structure-in-Percent-Struct.ensures.goes sig ds))

pub returns-in_ok-add_structure-in-Percent-Struct-clause-goes : goal.returns-in_ok-add_structure-in-Percent-Struct-clause-goes
returns-in_ok-add_structure-in-Percent-Struct-clause-goes c = λ sig ds.
    let g = c.in_ok-add_structure-in-Percent-Struct.ensures.goes sig ds in
    record { item = g.item; goes = took (AtDecl sig ds) (ExpectName (struct_named sig ds)) c.take-in-Percent-Struct.ensures.takes refl refl refl ∙ g.goes; names = g.names }

pub returns-in-RBrace-clause-goes : goal.returns-in-RBrace-clause-goes
returns-in-RBrace-clause-goes c = λ sig ds.
    (took (AtDecl sig ds) (theory_ends sig ds) c.take-in-RBrace.ensures.takes refl refl refl, refl)

pub returns-in_ok-pass_constant-in-Name-clause-goes : goal.returns-in_ok-pass_constant-in-Name-clause-goes
returns-in_ok-pass_constant-in-Name-clause-goes c = λ sig ds.
    let (n, e, v, goes) = c.in_ok-pass_constant-in-Name.ensures.goes sig ds in
    record { item = ConstDecl n e v; goes = goes; names = sym (append-nil c.args.names.now) }
