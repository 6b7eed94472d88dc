use Rattle.std.proofs.Common.{refl, sym, ap, ◌∙◌}
use Rattle.text_meaning.specs.Reading.{TooDeep}
use Rattle.text_meaning.specs.Parsing.{AtOperand, NoAtoms}
use Rattle.twelf_expressions.specs.Left.{left, next_token}
use Rattle.twelf_expressions.proofs.SignCases.{empty_refuses}
use Rattle.twelf_expressions.proofs.Moves.{too_deep_as}
use Rattle.twelf_expressions.proofs.reader.Reader.too_deep.Goals as goal

pub returns-then-begins_operand : goal.returns-then-begins_operand
returns-then-begins_operand c = λ row k. too_deep_as c.args.self.now row k (sym c.if-begins_operand.ensures) ∙ ap TooDeep (sym c.place.ensures.place)

pub returns : goal.returns
returns c = λ row k.
    let t = next_token (left c.args.self.now) in
    c.refuse.ensures (AtOperand 501 row NoAtoms k) refl refl (empty_refuses 501 row k t.span t.kind (sym c.if-begins_operand.ensures))
