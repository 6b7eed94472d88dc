use Rattle.std.proofs.Common.{refl, ap, ap₂, ◌∙◌}
use Rattle.text_meaning.specs.Trees.{ViewModule}
use Rattle.text_meaning.specs.Reading.{ModuleTree, Read}
use Rattle.text_meaning.specs.Parsing.{as_written}
use Rattle.mmt_syntax.specs.Readings.{read_assigns, read_written}
use Rattle.twelf_expressions.specs.Going.{simple_of}
use Rattle.twelf_expressions.proofs.Moves.{stopped}
use Rattle.twelf_reader.specs.Items.{view_from, view_named, view_to}
use Rattle.twelf_reader.proofs.modules.view.Goals as goal

pub returns-in_err-domain : goal.returns-in_err-domain
returns-in_err-domain c =
    let x = simple_of c.in_ok-name.name in
    stopped c.from_residual-in_err-domain.result _ _ c.from_residual-in_err-domain.ensures.1 (c.in_ok-name.ensures.goes view_named (λ _. refl)) (c.in_err-domain.ensures.goes (view_from x) (λ _. refl))

pub returns-in_err-codomain : goal.returns-in_err-codomain
returns-in_err-codomain c =
    let x = simple_of c.in_ok-name.name in
    let y = simple_of c.in_ok-domain.domain in
    stopped c.from_residual-in_err-codomain.result _ _ c.from_residual-in_err-codomain.ensures.1
    (c.in_ok-name.ensures.goes view_named (λ _. refl) ∙ c.in_ok-domain.ensures.goes (view_from x) (λ _. refl)) (c.in_err-codomain.ensures.goes (view_to x y) (λ _. refl))

pub returns-in_err-assigns : goal.returns-in_err-assigns
returns-in_err-assigns c =
    let x = simple_of c.in_ok-name.name in
    let y = simple_of c.in_ok-domain.domain in
    stopped c.from_residual-in_err-assigns.result _ _ c.from_residual-in_err-assigns.ensures.1
    (c.in_ok-name.ensures.goes view_named (λ _. refl) ∙ c.in_ok-domain.ensures.goes (view_from x) (λ _. refl) ∙ c.in_ok-codomain.ensures.goes (view_to x y) (λ _. refl))
    (c.in_err-assigns.ensures x y (simple_of c.in_ok-codomain.codomain))

pub returns : goal.returns
returns c =
    let x = simple_of c.in_ok-name.name in
    let y = simple_of c.in_ok-domain.domain in
    let z = simple_of c.in_ok-codomain.codomain in
    let xs = read_assigns c.in_ok-assigns.assigns in
    c.in_ok-name.ensures.goes view_named (λ _. refl) ∙ c.in_ok-domain.ensures.goes (view_from x) (λ _. refl) ∙ c.in_ok-codomain.ensures.goes (view_to x y) (λ _. refl) ∙ c.in_ok-assigns.ensures x y z
    ∙ ap₂ (λ a b. Read (ModuleTree (ViewModule a b (as_written z) xs))) c.in_ok-name.ensures.one c.in_ok-domain.ensures.one
    ∙ ap (λ d. Read (ModuleTree (ViewModule (read_written c.in_ok-name.name) (read_written c.in_ok-domain.domain) d xs))) c.in_ok-codomain.ensures.one
