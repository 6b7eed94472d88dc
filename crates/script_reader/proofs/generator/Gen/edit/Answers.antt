use Rattle.std.proofs.Common.{◌≡◌, ℕ, ◌-◌, ◌+◌, subst, ap, refl, ◌∙◌, arith}
use Rattle.std.specs.Prelude.{IfOk}
use Rattle.std.proofs.lemmas.Result.{IfOk-weaker}
use Rattle.edit_log.specs.declared.edit.Edit.{Edit}
use Rattle.edit_log.specs.Readings.{read_edit}
use Rattle.run_meaning.specs.Generator.{generated_put}
use Rattle.script_reader.specs.Generating.{Generating, ComesNext}
use Rattle.script_reader.proofs.GeneratedPlaces.{first_next, later_next}
use Rattle.script_reader.proofs.generator.Gen.edit.Goals as goal

pub returns-then-self : goal.returns-then-self
returns-then-self c =
    let here : Generating = record { start = c.self.inside.start; modules = c.self.inside.modules; given = c.self.inside.given } in
    subst (λ (generating : Generating). IfOk c.generated_put.result (λ (edit : Edit). ComesNext generating (read_edit edit))) c.self.view_is
    (IfOk-weaker c.generated_put.result (λ (edit : Edit). read_edit edit ≡ generated_put c.self.inside.start c.self.inside.given 0)
    (λ (edit : Edit). ComesNext here (read_edit edit)) (λ edit e. first_next here (read_edit edit) (omega (arith, c.if-self.true)) e) c.generated_put.ensures)

pub returns : goal.returns
returns c =
    let here : Generating = record { start = c.self.inside.start; modules = c.self.inside.modules; given = c.self.inside.given } in
    let revision : ℕ = c.self.inside.given - c.self.inside.modules + 1 in
    subst (λ (generating : Generating). IfOk c.generated_put-2.result (λ (edit : Edit). ComesNext generating (read_edit edit))) c.self.view_is
    (IfOk-weaker c.generated_put-2.result (λ (edit : Edit). read_edit edit ≡ generated_put c.self.inside.start c.draw_below-index.result revision)
    (λ (edit : Edit). ComesNext here (read_edit edit))
    (λ edit e. later_next here (read_edit edit) revision (omega (arith, c.self.invariant)) (omega (arith, c.if-self.false)) refl
    (e ∙ ap (λ (index : ℕ). generated_put c.self.inside.start index revision) c.draw_below-index.ensures.value)) c.generated_put-2.ensures)
