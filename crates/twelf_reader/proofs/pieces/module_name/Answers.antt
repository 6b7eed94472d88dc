use Rattle.std.proofs.Common.{sym, ap, ◌∙◌}
use Rattle.text_meaning.specs.Splitting.{SyntaxFault}
use Rattle.text_meaning.specs.Trees.{first_name}
use Rattle.text_meaning.specs.Dividing.{AtName, BeforeBody, divide_on}
use Rattle.mmt_syntax.specs.Readings.{read_span}
use Rattle.twelf_expressions.specs.Left.{left, next_token}
use Rattle.twelf_expressions.proofs.Moves.{behind_next}
use Rattle.twelf_reader.proofs.Dividing.{named, no_name}
use Rattle.twelf_reader.proofs.pieces.module_name.Goals as goal

pub returns-then-not-sees_name-clause-goes : goal.returns-then-not-sees_name-clause-goes
returns-then-not-sees_name-clause-goes c = λ word.
    let ts = left c.args.reader.now in
    no_name word (next_token ts) (behind_next ts) (sym c.if-not-sees_name.ensures) ∙ ap SyntaxFault (sym c.place.ensures.place)

pub returns-clause-goes : goal.returns-clause-goes
returns-clause-goes c = λ word.
    let name = c.in_ok-name.name in
    let after = left c.take_simple.new.self in
    ap (divide_on (AtName word)) c.in_ok-name.ensures.takes ∙ named word (read_span name.span) (first_name name.path) after
    ∙ ap (λ x. divide_on (BeforeBody word x name.span.from) after) c.in_ok-name.ensures.one
