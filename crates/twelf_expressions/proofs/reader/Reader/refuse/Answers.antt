use Rattle.std.proofs.Common.{true, false, sym, ap, ◌∙◌}
use Rattle.text_meaning.specs.Reading.{Unsupported, Syntax}
use Rattle.twelf_expressions.proofs.Moves.{refused_as}
use Rattle.twelf_expressions.proofs.reader.Reader.refuse.Goals as goal

pub returns-then-is_left_out : goal.returns-then-is_left_out
returns-then-is_left_out c = λ s e g h. refused_as c.args.self.now s c.args.spot true e g h (sym c.if-is_left_out.ensures) ∙ ap Unsupported (sym c.place-at.ensures.place)

pub returns : goal.returns
returns c = λ s e g h. refused_as c.args.self.now s c.args.spot false e g h (sym c.if-is_left_out.ensures) ∙ ap Syntax (sym c.place-at.ensures.place)
