use Rattle.std.proofs.Common.{sym, ◌∙◌}
use Rattle.mmt_syntax.specs.Readings.{read_span, read_written}
use Rattle.twelf_expressions.specs.Left.{left, next_token}
use Rattle.twelf_expressions.proofs.Moves.{behind_next}
use Rattle.twelf_reader.proofs.Dividing.{ends, stopped}
use Rattle.twelf_reader.proofs.pieces.piece.Goals as goal

pub returns-then-sees-clause-goes : goal.returns-then-sees-clause-goes
returns-then-sees-clause-goes c = ends (next_token (left c.args.reader.now)) (behind_next (left c.args.reader.now)) (sym c.if-sees.ensures)

pub returns-in_err-name-clause-goes : goal.returns-in_err-name-clause-goes
returns-in_err-name-clause-goes c =
    let w = read_span c.in_ok-word.word in
    stopped c.from_residual-in_err-name.result _ _ c.from_residual-in_err-name.ensures.1 (c.in_ok-word.ensures.goes) (c.in_err-name.ensures.goes w)

pub returns-in_err-open_braces-clause-goes : goal.returns-in_err-open_braces-clause-goes
returns-in_err-open_braces-clause-goes c =
    let w = read_span c.in_ok-word.word in
    let x = read_written c.in_ok-name.name in
    stopped c.from_residual-in_err-open_braces.result _ _ c.from_residual-in_err-open_braces.ensures.1 (c.in_ok-word.ensures.goes ∙ c.in_ok-name.ensures.goes w) (c.in_err-open_braces.ensures.goes w x c.in_ok-name.name.span.from)

pub returns-in_err-close_braces-clause-goes : goal.returns-in_err-close_braces-clause-goes
returns-in_err-close_braces-clause-goes c =
    let w = read_span c.in_ok-word.word in
    let x = read_written c.in_ok-name.name in
    stopped c.from_residual-in_err-close_braces.result _ _ c.from_residual-in_err-close_braces.ensures.1 (c.in_ok-word.ensures.goes ∙ c.in_ok-name.ensures.goes w ∙ c.in_ok-open_braces.ensures.goes w x c.in_ok-name.name.span.from) (c.in_err-close_braces.ensures.goes w x 0)

pub returns-in_err-dot-clause-goes : goal.returns-in_err-dot-clause-goes
returns-in_err-dot-clause-goes c =
    let w = read_span c.in_ok-word.word in
    let x = read_written c.in_ok-name.name in
    stopped c.from_residual-in_err-dot.result _ _ c.from_residual-in_err-dot.ensures.1 (c.in_ok-word.ensures.goes ∙ c.in_ok-name.ensures.goes w ∙ c.in_ok-open_braces.ensures.goes w x c.in_ok-name.name.span.from ∙ c.in_ok-close_braces.ensures.goes w x 0) (c.in_err-dot.ensures.goes w x)

pub returns-clause-goes : goal.returns-clause-goes
returns-clause-goes c =
    let w = read_span c.in_ok-word.word in
    let x = read_written c.in_ok-name.name in
    c.in_ok-word.ensures.goes ∙ c.in_ok-name.ensures.goes w ∙ c.in_ok-open_braces.ensures.goes w x c.in_ok-name.name.span.from ∙ c.in_ok-close_braces.ensures.goes w x 0 ∙ c.in_ok-dot.ensures.goes w x
