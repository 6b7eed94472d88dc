use Rattle.std.proofs.Common.{sym}
use Rattle.text_meaning.specs.Parsing.{expect}
use Rattle.mmt_syntax.specs.Readings.{read_span}
use Rattle.twelf_lexer.specs.Lexemes.{mark_of}
use Rattle.reading_laws.proofs.Completes.{expect_here}
use Rattle.twelf_expressions.specs.Left.{left, next_token}
use Rattle.twelf_expressions.proofs.SignCases.{expect_other}
use Rattle.twelf_expressions.proofs.Moves.{took_behind}
use Rattle.twelf_expressions.proofs.reader.Reader.close_with.Goals as goal

pub returns-then-not-sees-clause-goes : goal.returns-then-not-sees-clause-goes
returns-then-not-sees-clause-goes c = λ next a.
    let m = mark_of c.args.closing in
    let t = next_token (left c.args.self.now) in
    c.refuse_behind.ensures (λ t. expect m t.kind (next t.span)) (expect_other m (next t.span) t.kind (sym c.if-not-sees.ensures))

pub returns-clause-goes : goal.returns-clause-goes
returns-clause-goes c = λ next a.
    let m = mark_of c.args.closing in
    let s = read_span c.take.result in
    (s, took_behind (λ t. expect m t.kind (next t.span)) (next s) c.take.ensures.takes (expect_here m (next s)) (a s))
