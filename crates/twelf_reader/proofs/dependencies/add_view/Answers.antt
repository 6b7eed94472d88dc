use Rattle.std.proofs.Common.{[], ◌∷◌, None, refl, ◌∙◌}
use Rattle.text_meaning.specs.Trees.{ViewModule, first_name}
use Rattle.text_meaning.specs.Parsing.{as_written}
use Rattle.twelf_expressions.specs.Going.{simple_of}
use Rattle.twelf_expressions.proofs.Moves.{failed}
use Rattle.twelf_expressions.proofs.Outlines.{passing_stopped}
use Rattle.twelf_reader.specs.Items.{view_from, view_named, view_to}
use Rattle.twelf_reader.proofs.AddedNames.{name_before, passes_from, same_assigns}
use Rattle.twelf_reader.proofs.dependencies.add_view.Goals as goal

pub returns-in_err-domain : goal.returns-in_err-domain
returns-in_err-domain c =
    let (x, named) = c.in_ok-pass_name.ensures.goes view_named (λ _. refl) in
    passing_stopped c.from_residual-in_err-domain.result _ _ _ c.from_residual-in_err-domain.ensures.1 (failed _ named (c.in_err-domain.ensures.goes (view_from x) (λ _. refl)))

pub returns-in_err-codomain : goal.returns-in_err-codomain
returns-in_err-codomain c =
    let (x, named) = c.in_ok-pass_name.ensures.goes view_named (λ _. refl) in
    let y = simple_of c.in_ok-domain.domain in
    passing_stopped c.from_residual-in_err-codomain.result _ _ _ c.from_residual-in_err-codomain.ensures.1
    (failed _ (named ∙ c.in_ok-domain.ensures.goes (view_from x) (λ _. refl)) (c.in_err-codomain.ensures.goes (view_to x y) (λ _. refl)))

pub returns : goal.returns
returns c =
    let (x, named) = c.in_ok-pass_name.ensures.goes view_named (λ _. refl) in
    let y = simple_of c.in_ok-domain.domain in
    let z = simple_of c.in_ok-codomain.codomain in
    let came = named ∙ c.in_ok-domain.ensures.goes (view_from x) (λ _. refl) ∙ c.in_ok-codomain.ensures.goes (view_to x y) (λ _. refl) in
    passes_from c.add_view_body.result _ _ came
    (λ _ g. record {
      item = ViewModule (as_written x) (as_written y) (as_written z) g.item;
      goes = came ∙ g.goes;
      names = name_before _ _ _ (first_name c.in_ok-domain.domain.path) _ _ c.in_ok-add_first.ensures
          (name_before _ _ _ (first_name c.in_ok-codomain.codomain.path) _ _ c.in_ok-add_first-2.ensures g.names (same_assigns None None (x.name ∷ []) g.item)) refl;
    })
    (c.add_view_body.ensures x y z)
