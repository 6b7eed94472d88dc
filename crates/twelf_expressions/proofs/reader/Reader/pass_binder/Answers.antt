use Rattle.std.proofs.Common.{refl, ◌∙◌}
use Rattle.text_meaning.specs.Parsing.{AfterVariable, InDomain}
use Rattle.twelf_expressions.specs.Frames.{read_brace}
use Rattle.twelf_expressions.specs.Outlines.{inward}
use Rattle.twelf_expressions.proofs.Moves.{failed, took}
use Rattle.twelf_expressions.proofs.Outlines.{domain_waits, passing_stopped}
use Rattle.twelf_expressions.proofs.reader.Reader.pass_binder.Goals as goal

pub returns-in_err-pass_variable-clause-goes : goal.returns-in_err-pass_variable-clause-goes
returns-in_err-pass_variable-clause-goes c = λ p answer l h.
    passing_stopped c.from_residual.result _ _ _ c.from_residual.ensures.1
    (failed _ h.goes (c.in_err-pass_variable.ensures.goes (read_brace c.args.brace) l c.args.stack.now.operand.level.n h.row h.atoms h.waiting))

pub returns-then-not-sees-clause-goes : goal.returns-then-not-sees-clause-goes
returns-then-not-sees-clause-goes c = λ p answer l h.
    let variable = c.in_ok-pass_variable.ensures.goes (read_brace c.args.brace) l c.args.stack.now.operand.level.n h.row h.atoms h.waiting in
    c.pass_end_of_binder.ensures.goes p answer l variable.0
    (record { row = h.row; atoms = h.atoms; waiting = h.waiting; row_is = h.row_is; atoms_is = h.atoms_is; waits = h.waits; goes = h.goes ∙ variable.1 })

pub returns-clause-goes : goal.returns-clause-goes
returns-clause-goes c = λ p answer l h.
    let s = c.args.stack.now in
    let b = read_brace c.args.brace in
    let n = s.operand.level.n in
    let variable = c.in_ok-pass_variable.ensures.goes b l n h.row h.atoms h.waiting in
    c.enter.ensures p answer (InDomain b l variable.0 n h.row h.atoms h.waiting)
    (domain_waits p (inward s) c.args.brace s.operand.level l variable.0 h.row h.atoms h.waiting h.waits)
    (h.goes ∙ variable.1 ∙ took (AfterVariable b l variable.0 n h.row h.atoms h.waiting) _ c.take.ensures.takes refl refl refl)
