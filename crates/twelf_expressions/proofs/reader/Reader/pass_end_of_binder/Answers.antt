use Rattle.std.proofs.Common.{refl, sym, ap, ◌∙◌}
use Rattle.text_meaning.specs.Parsing.{AfterVariable, Curly, InBody, LamOf, Plain, Square, answer_on}
use Rattle.twelf_expressions.specs.Left.{left, next_kind}
use Rattle.twelf_expressions.specs.Frames.{read_brace}
use Rattle.twelf_expressions.specs.Outlines.{inward}
use Rattle.twelf_expressions.proofs.Moves.{failed, took}
use Rattle.twelf_expressions.proofs.Outlines.{body_waits, lam_refuses, pi_refuses}
use Rattle.twelf_expressions.proofs.reader.Reader.pass_end_of_binder.Goals as goal

pub returns-in-Curly-clause-goes : goal.returns-in-Curly-clause-goes
returns-in-Curly-clause-goes c = λ p answer l x h.
    let r = c.args.self.now in
    let n = c.args.stack.now.operand.level.n in
    let curly = ap (λ b. answer_on (AfterVariable (read_brace b) l x n h.row h.atoms h.waiting) (left r)) c.in-Curly.is in
    failed c.refuse.result (h.goes ∙ curly)
    (c.refuse.ensures (AfterVariable Curly l x n h.row h.atoms h.waiting) refl refl (pi_refuses l x n h.row h.atoms h.waiting (next_kind (left r)) c.requires))

pub returns-then-not-sees-clause-goes : goal.returns-then-not-sees-clause-goes
returns-then-not-sees-clause-goes c = λ p answer l x h.
    let r = c.args.self.now in
    let n = c.args.stack.now.operand.level.n in
    let square = ap (λ b. answer_on (AfterVariable (read_brace b) l x n h.row h.atoms h.waiting) (left r)) c.in-Square.is in
    failed c.refuse-then-not-sees.result (h.goes ∙ square)
    (c.refuse-then-not-sees.ensures (AfterVariable Square l x n h.row h.atoms h.waiting) refl refl (lam_refuses l x n h.row h.atoms h.waiting (next_kind (left r)) c.requires (sym c.if-not-sees.ensures)))

pub returns-else-not-sees-clause-goes : goal.returns-else-not-sees-clause-goes
returns-else-not-sees-clause-goes c = λ p answer l x h.
    let r = c.args.self.now in
    let s = c.args.stack.now in
    let n = s.operand.level.n in
    let square = ap (λ b. answer_on (AfterVariable (read_brace b) l x n h.row h.atoms h.waiting) (left r)) c.in-Square.is in
    c.next_operand.ensures p answer Plain (InBody l (LamOf x) h.row h.atoms h.waiting) refl (body_waits p (inward s) l (LamOf x) h.row h.atoms h.waiting h.waits)
    (h.goes ∙ square ∙ took (AfterVariable Square l x n h.row h.atoms h.waiting) _ c.take.ensures.takes refl refl refl)
