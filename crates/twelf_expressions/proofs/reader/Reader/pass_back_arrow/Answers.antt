use Rattle.std.proofs.Common.{◌+◌, not, refl, sym, ap, ap₂, ◌∙◌}
use Rattle.text_meaning.specs.Tokens.{BackSign}
use Rattle.text_meaning.specs.Parsing as parsing
use Rattle.text_meaning.specs.Parsing.{AtOperand, NoAtoms, is_refused}
use Rattle.twelf_expressions.specs.Left.{left, next_token}
use Rattle.twelf_expressions.specs.Outlines.{takes_back_arrow}
use Rattle.twelf_expressions.proofs.SignCases.{is_sign_is}
use Rattle.twelf_expressions.proofs.Moves.{failed, took_operand}
use Rattle.twelf_expressions.proofs.Frames.{back_moves, back_row}
use Rattle.twelf_expressions.proofs.Outlines.{back_arrow_follows, back_row_stands, begun_there}
use Rattle.twelf_expressions.proofs.reader.Reader.pass_back_arrow.Goals as goal

pub returns-then-not-takes_back_arrow-clause-goes : goal.returns-then-not-takes_back_arrow-clause-goes
returns-then-not-takes_back_arrow-clause-goes c = λ p answer h.
    let n = c.args.stack.now.operand.level.n in
    let t = next_token (left c.args.self.now) in
    let refused = back_arrow_follows n h.row h.atoms h.waiting ∙ ap₂ (λ b s. not (takes_back_arrow b s)) h.atoms_is h.row_is ∙ ap not (sym c.if-not-takes_back_arrow.ensures) in
    failed c.refuse.result h.goes
    (c.refuse.ensures (AtOperand n h.row h.atoms h.waiting) refl refl (ap (λ m. is_refused (parsing.at_operand n h.row h.atoms h.waiting t.span m)) (is_sign_is BackSign t.kind c.requires) ∙ refused))

pub returns-clause-goes : goal.returns-clause-goes
returns-clause-goes c = λ p answer h.
    let s = c.args.stack.now in
    let n = s.operand.level.n in
    let w = h.waiting in
    let goes_on = back_arrow_follows n h.row h.atoms h.waiting ∙ ap₂ (λ b s. not (takes_back_arrow b s)) h.atoms_is h.row_is ∙ ap not (sym c.if-not-takes_back_arrow.ensures) in
    let u = AtOperand (n + 1) (back_row h.row h.atoms) NoAtoms w in
    c.next_operand.ensures p answer (back_row h.row h.atoms) w (back_row_stands h.row h.atoms (h.atoms_is ∙ begun_there s.operand.begun s.operand.stand c.if-not-takes_back_arrow.ensures)) (h.waits)
    (h.goes ∙ took_operand n h.row h.atoms h.waiting u s.operand.level.within c.take.ensures.takes (back_moves n h.row h.atoms h.waiting goes_on) refl)
