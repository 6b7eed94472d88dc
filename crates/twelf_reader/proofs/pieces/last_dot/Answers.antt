use Rattle.std.proofs.Common.{sym, ap, ◌∙◌}
use Rattle.text_meaning.specs.Splitting.{SyntaxFault}
use Rattle.text_meaning.specs.Dividing.{AtDot, divide_on}
use Rattle.mmt_syntax.specs.Readings.{read_span}
use Rattle.twelf_expressions.specs.Left.{left, next_token}
use Rattle.twelf_expressions.proofs.Moves.{behind_next}
use Rattle.twelf_reader.proofs.Dividing.{dotted, no_dot}
use Rattle.twelf_reader.proofs.pieces.last_dot.Goals as goal

pub returns-then-not-sees-clause-goes : goal.returns-then-not-sees-clause-goes
returns-then-not-sees-clause-goes c = λ word name.
    let ts = left c.args.reader.now in
    no_dot word name (next_token ts) (behind_next ts) (sym c.if-not-sees.ensures) ∙ ap SyntaxFault (sym c.place.ensures.place)

pub returns-clause-goes : goal.returns-clause-goes
returns-clause-goes c = λ word name. ap (divide_on (AtDot word name)) c.take.ensures.takes ∙ dotted word name (read_span c.take.result) (left c.take.new.self)
