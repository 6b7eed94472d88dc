use Rattle.std.proofs.Common.{[], ◌∷◌, Some, refl, ◌∙◌}
use Rattle.text_meaning.specs.Trees.{StructDecl, first_name}
use Rattle.text_meaning.specs.Parsing.{AfterDomain, as_written}
use Rattle.twelf_expressions.specs.Going.{simple_of}
use Rattle.twelf_expressions.proofs.Moves.{failed}
use Rattle.twelf_expressions.proofs.Outlines.{passing_stopped}
use Rattle.twelf_reader.specs.Items.{struct_named}
use Rattle.twelf_reader.proofs.AddedNames.{name_before, passes_from, same_assigns}
use Rattle.twelf_reader.proofs.dependency_decls.add_structure.Goals as goal

pub returns-in_err-domain-clause-goes : goal.returns-in_err-domain-clause-goes
returns-in_err-domain-clause-goes c = λ sig ds.
    let (x, named) = c.in_ok-pass_name.ensures.goes (struct_named sig ds) (λ _. refl) in
    passing_stopped c.from_residual-in_err-domain.result _ _ _ c.from_residual-in_err-domain.ensures.1 (failed _ named (c.in_err-domain.ensures.goes (AfterDomain sig ds x) (λ _. refl)))

pub returns-clause-goes : goal.returns-clause-goes
returns-clause-goes c = λ sig ds.
    let (x, named) = c.in_ok-pass_name.ensures.goes (struct_named sig ds) (λ _. refl) in
    let y = simple_of c.in_ok-domain.domain in
    let came = named ∙ c.in_ok-domain.ensures.goes (AfterDomain sig ds x) (λ _. refl) in
    passes_from c.add_struct_body.result _ _ came
    (λ _ g. record {
      item = StructDecl (as_written x) (as_written y) g.item;
      goes = came ∙ g.goes;
      names = name_before _ _ _ (first_name c.in_ok-domain.domain.path) _ _ c.in_ok-add_first.ensures g.names (same_assigns (Some c.args.own.now) (Some x.name) (x.name ∷ []) g.item);
    })
    (c.add_struct_body.ensures.goes sig ds x y)
