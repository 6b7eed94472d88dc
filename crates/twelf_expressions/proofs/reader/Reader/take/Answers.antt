use Rattle.std.proofs.Common.{ap, arith, length, rules}
use Rattle.text_meaning.specs.Tokens.{sign}
use Rattle.mmt_syntax.specs.Readings.{read_span}
use Rattle.twelf_lexer.specs.Lexemes.{mark_of, sign_kind}
use Rattle.twelf_expressions.proofs.SignCases.{is_sign_is}
use Rattle.twelf_expressions.proofs.Lexemes.{takes_next}
use Rattle.twelf_expressions.proofs.reader.Reader.take.Goals as goal

pub returns-clause-takes : goal.returns-clause-takes
returns-clause-takes c =
    let text = c.args.self.now.text.now in
    let l = c.args.self.now.next in
    let m = c.args.mark in
    let kind = is_sign_is (mark_of m) (sign_kind text l.span.from l.span.to l.sign) c.requires.sees in
    takes_next text l c.lexeme_at-self.result (sign (read_span l.span) (mark_of m)) (ap (λ k. record { span = read_span l.span; kind = k }) kind)
    (search rules) c.lexeme_at-self.ensures.stands c.lexeme_at-self.ensures.cut

pub returns-clause-less : goal.returns-clause-less
returns-clause-less c = let e = ap length (returns-clause-takes c) in omega (arith, e)
