use Rattle.std.proofs.Common.{◌+◌, not, refl, sym, ap, ap₂, ◌∙◌}
use Rattle.text_meaning.specs.Tokens.{ArrowSign}
use Rattle.text_meaning.specs.Parsing as parsing
use Rattle.text_meaning.specs.Parsing.{AfterArrow, AtOperand, NoAtoms, is_refused}
use Rattle.twelf_expressions.specs.Left.{left, next_token}
use Rattle.twelf_expressions.specs.Outlines.{takes_arrow, inward}
use Rattle.twelf_expressions.proofs.SignCases.{is_sign_is}
use Rattle.twelf_expressions.proofs.Moves.{failed, took_operand}
use Rattle.twelf_expressions.proofs.Frames.{arrow_moves, codomain_of}
use Rattle.twelf_expressions.proofs.Outlines.{arrow_follows, codomain_waits}
use Rattle.twelf_expressions.proofs.reader.Reader.pass_arrow.Goals as goal

pub returns-then-not-takes_arrow-clause-goes : goal.returns-then-not-takes_arrow-clause-goes
returns-then-not-takes_arrow-clause-goes c = λ p answer h.
    let n = c.args.stack.now.operand.level.n in
    let t = next_token (left c.args.self.now) in
    let refused = arrow_follows n h.row h.atoms h.waiting ∙ ap₂ (λ b s. not (takes_arrow b s)) h.atoms_is h.row_is ∙ ap not (sym c.if-not-takes_arrow.ensures) in
    failed c.refuse.result h.goes
    (c.refuse.ensures (AtOperand n h.row h.atoms h.waiting) refl refl (ap (λ m. is_refused (parsing.at_operand n h.row h.atoms h.waiting t.span m)) (is_sign_is ArrowSign t.kind c.requires) ∙ refused))

pub returns-clause-goes : goal.returns-clause-goes
returns-clause-goes c = λ p answer h.
    let s = c.args.stack.now in
    let n = s.operand.level.n in
    let w = codomain_of h.atoms h.waiting in
    let goes_on = arrow_follows n h.row h.atoms h.waiting ∙ ap₂ (λ b s. not (takes_arrow b s)) h.atoms_is h.row_is ∙ ap not (sym c.if-not-takes_arrow.ensures) in
    let u = AtOperand (n + 1) (AfterArrow) NoAtoms w in
    c.next_operand.ensures p answer (AfterArrow) w (refl) (codomain_waits p (inward s) h.atoms h.waiting h.waits)
    (h.goes ∙ took_operand n h.row h.atoms h.waiting u s.operand.level.within c.take.ensures.takes (arrow_moves n h.row h.atoms h.waiting goes_on) refl)
