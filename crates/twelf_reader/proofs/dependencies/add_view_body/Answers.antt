use Rattle.std.proofs.Common.{[], refl, ◌∙◌}
use Rattle.text_meaning.specs.Trees.{ViewModule}
use Rattle.text_meaning.specs.Reading.{ModuleTree}
use Rattle.text_meaning.specs.Parsing.{AtAssign, InView, as_written}
use Rattle.twelf_expressions.proofs.Moves.{failed}
use Rattle.twelf_expressions.proofs.Outlines.{passing_stopped}
use Rattle.twelf_reader.proofs.dependencies.add_view_body.Goals as goal

pub returns-in_err-open_body : goal.returns-in_err-open_body
returns-in_err-open_body c = λ x y z.
    passing_stopped c.from_residual.result _ _ _ c.from_residual.ensures.1 (c.in_err-open_body.ensures.goes (AtAssign (InView x y z) []) refl)

pub returns-in_err-add_assigns : goal.returns-in_err-add_assigns
returns-in_err-add_assigns c = λ x y z.
    let o = InView x y z in
    let opened = c.in_ok-open_body.ensures.goes (AtAssign o []) refl in
    passing_stopped c.from_residual-in_err-add_assigns.result _ _ _ c.from_residual-in_err-add_assigns.ensures.1 (failed _ opened (c.in_err-add_assigns.ensures.goes o))

pub returns-in_err-end_text : goal.returns-in_err-end_text
returns-in_err-end_text c = λ x y z.
    let o = InView x y z in
    let opened = c.in_ok-open_body.ensures.goes (AtAssign o []) refl in
    let g = c.in_ok-add_assigns.ensures.goes o in
    passing_stopped c.from_residual-in_err-end_text.result _ _ _ c.from_residual-in_err-end_text.ensures.1
    (failed _ (opened ∙ g.goes) (c.in_err-end_text.ensures (ModuleTree (ViewModule (as_written x) (as_written y) (as_written z) g.item))))

pub returns : goal.returns
returns c = λ x y z.
    let o = InView x y z in
    let opened = c.in_ok-open_body.ensures.goes (AtAssign o []) refl in
    let g = c.in_ok-add_assigns.ensures.goes o in
    record { item = g.item; goes = opened ∙ g.goes ∙ c.in_ok-end_text.ensures (ModuleTree (ViewModule (as_written x) (as_written y) (as_written z) g.item)); names = g.names }
