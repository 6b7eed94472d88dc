use Rattle.std.proofs.Common.{ap, ◌∙◌}
use Rattle.text_meaning.specs.Parsing.{Expect, answer_on}
use Rattle.mmt_syntax.specs.Readings.{read_span}
use Rattle.twelf_lexer.specs.Lexemes.{mark_of}
use Rattle.twelf_expressions.specs.Left.{left}
use Rattle.twelf_expressions.proofs.Moves.{expected}
use Rattle.twelf_expressions.proofs.reader.Reader.expect.Goals as goal

pub returns-clause-goes : goal.returns-clause-goes
returns-clause-goes c = λ next h.
    ap (answer_on (Expect (mark_of c.args.mark) next)) c.take.ensures.takes ∙ expected (mark_of c.args.mark) next (read_span c.take.result) (left c.take.new.self) h
