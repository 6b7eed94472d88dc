use Rattle.std.proofs.Common.{◌++◌, [], ◌∷◌, refl, ap₂, ◌∙◌}
use Rattle.text_meaning.specs.Trees.{StructDecl}
use Rattle.text_meaning.specs.Parsing.{AfterDomain, AtDecl, answer_on}
use Rattle.mmt_syntax.specs.Readings.{read_assigns}
use Rattle.twelf_expressions.specs.Left.{left}
use Rattle.twelf_expressions.specs.Going.{simple_of}
use Rattle.twelf_expressions.proofs.Moves.{stopped}
use Rattle.twelf_reader.specs.Items.{struct_named}
use Rattle.twelf_reader.proofs.decls.structure.Goals as goal

pub returns-in_err-domain-clause-goes : goal.returns-in_err-domain-clause-goes
returns-in_err-domain-clause-goes c = λ sig ds.
    let x = simple_of c.in_ok-name.name in
    stopped c.from_residual-in_err-domain.result _ _ c.from_residual-in_err-domain.ensures.1 (c.in_ok-name.ensures.goes (struct_named sig ds) (λ _. refl)) (c.in_err-domain.ensures.goes (AfterDomain sig ds x) (λ _. refl))

pub returns-in_err-assigns-clause-goes : goal.returns-in_err-assigns-clause-goes
returns-in_err-assigns-clause-goes c = λ sig ds.
    let x = simple_of c.in_ok-name.name in
    stopped c.from_residual-in_err-assigns.result _ _ c.from_residual-in_err-assigns.ensures.1
    (c.in_ok-name.ensures.goes (struct_named sig ds) (λ _. refl) ∙ c.in_ok-domain.ensures.goes (AfterDomain sig ds x) (λ _. refl)) (c.in_err-assigns.ensures.goes sig ds x (simple_of c.in_ok-domain.domain))

pub returns-clause-goes : goal.returns-clause-goes
returns-clause-goes c = λ sig ds.
    let x = simple_of c.in_ok-name.name in
    c.in_ok-name.ensures.goes (struct_named sig ds) (λ _. refl) ∙ c.in_ok-domain.ensures.goes (AfterDomain sig ds x) (λ _. refl) ∙ c.in_ok-assigns.ensures.goes sig ds x (simple_of c.in_ok-domain.domain)
    ∙ ap₂ (λ a b. answer_on (AtDecl sig (ds ++ (StructDecl a b (read_assigns c.in_ok-assigns.assigns) ∷ []))) (left c.struct_body.new.reader)) c.in_ok-name.ensures.one c.in_ok-domain.ensures.one
