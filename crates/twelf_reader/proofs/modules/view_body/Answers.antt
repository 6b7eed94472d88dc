use Rattle.std.proofs.Common.{[], refl, ◌∙◌}
use Rattle.text_meaning.specs.Trees.{ViewModule}
use Rattle.text_meaning.specs.Reading.{ModuleTree}
use Rattle.text_meaning.specs.Parsing.{AtAssign, InView, as_written}
use Rattle.mmt_syntax.specs.Readings.{read_assigns}
use Rattle.twelf_expressions.proofs.Moves.{stopped}
use Rattle.twelf_reader.proofs.modules.view_body.Goals as goal

pub returns-in_err-open_body : goal.returns-in_err-open_body
returns-in_err-open_body c = λ x y z.
    stopped c.from_residual.result _ _ c.from_residual.ensures.1 refl (c.in_err-open_body.ensures.goes (AtAssign (InView x y z) []) refl)

pub returns-in_err-assigns : goal.returns-in_err-assigns
returns-in_err-assigns c = λ x y z.
    let o = InView x y z in
    stopped c.from_residual-in_err-assigns.result _ _ c.from_residual-in_err-assigns.ensures.1 (c.in_ok-open_body.ensures.goes (AtAssign o []) refl) (c.in_err-assigns.ensures.goes o)

pub returns-in_err-end_text : goal.returns-in_err-end_text
returns-in_err-end_text c = λ x y z.
    let o = InView x y z in
    let tree = ModuleTree (ViewModule (as_written x) (as_written y) (as_written z) (read_assigns c.in_ok-assigns.assigns)) in
    stopped c.from_residual-in_err-end_text.result _ _ c.from_residual-in_err-end_text.ensures.1
    (c.in_ok-open_body.ensures.goes (AtAssign o []) refl ∙ c.in_ok-assigns.ensures.goes o)
    (c.in_err-end_text.ensures tree)

pub returns : goal.returns
returns c = λ x y z.
    let o = InView x y z in
    let tree = ModuleTree (ViewModule (as_written x) (as_written y) (as_written z) (read_assigns c.in_ok-assigns.assigns)) in
    c.in_ok-open_body.ensures.goes (AtAssign o []) refl ∙ c.in_ok-assigns.ensures.goes o ∙ c.in_ok-end_text.ensures tree
