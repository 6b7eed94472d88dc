use Rattle.std.proofs.Common.{true, false, sym, ap, ◌∙◌}
use Rattle.text_meaning.specs.Reading.{Unsupported, Syntax}
use Rattle.twelf_expressions.proofs.Moves.{refused_behind}
use Rattle.twelf_expressions.proofs.reader.Reader.refuse_behind.Goals as goal

pub returns-then-is_left_out : goal.returns-then-is_left_out
returns-then-is_left_out c = λ f h. refused_behind c.args.self.now f true h (sym c.if-is_left_out.ensures) ∙ ap Unsupported (sym c.place-at.ensures.place)

pub returns : goal.returns
returns c = λ f h. refused_behind c.args.self.now f false h (sym c.if-is_left_out.ensures) ∙ ap Syntax (sym c.place-at.ensures.place)
