use Rattle.std.proofs.Common.{refl, ◌∙◌}
use Rattle.text_meaning.specs.Tokens.{EndSign}
use Rattle.text_meaning.specs.Reading.{JudgementTree}
use Rattle.text_meaning.specs.Parsing.{Ends, FamilyOf, Whole, at_expr}
use Rattle.mmt_syntax.specs.Readings.{read_expr}
use Rattle.twelf_expressions.proofs.Moves.{failed, stopped, with_expected}
use Rattle.twelf_reader.proofs.modules.judged_family.Goals as goal

pub returns-in_err-expect : goal.returns-in_err-expect
returns-in_err-expect c = λ o.
    stopped c.from_residual.result _ _ c.from_residual.ensures.1 refl (c.in_err-expect.ensures.goes (at_expr 1 (Ends (FamilyOf o))) refl)

pub returns-in_err-fam : goal.returns-in_err-fam
returns-in_err-fam c = λ o.
    let family = at_expr 1 (Ends (FamilyOf o)) in
    stopped c.from_residual-in_err-fam.result _ _ c.from_residual-in_err-fam.ensures.1 (c.in_ok-expect.ensures.goes family refl) (c.in_err-fam.ensures.goes (FamilyOf o))

pub returns-in-Err : goal.returns-in-Err
returns-in-Err c = λ o.
    let family = at_expr 1 (Ends (FamilyOf o)) in
    let tree = JudgementTree (record { object = o; family = read_expr c.in_ok-fam.fam }) in
    failed c.in-Err.fault (c.in_ok-expect.ensures.goes family refl ∙ c.in_ok-fam.ensures.goes (FamilyOf o) ∙ with_expected c.expr.new.self EndSign (Whole tree)) (c.in-Err.ensures tree)

pub returns-in-Ok : goal.returns-in-Ok
returns-in-Ok c = λ o.
    let family = at_expr 1 (Ends (FamilyOf o)) in
    let tree = JudgementTree (record { object = o; family = read_expr c.in_ok-fam.fam }) in
    c.in_ok-expect.ensures.goes family refl ∙ c.in_ok-fam.ensures.goes (FamilyOf o) ∙ with_expected c.expr.new.self EndSign (Whole tree) ∙ c.in-Ok.ensures tree
