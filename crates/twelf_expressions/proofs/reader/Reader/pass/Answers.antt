use Rattle.std.proofs.Common.{refl, ap}
use Rattle.text_meaning.specs.Cut.{Finished, Unclosed}
use Rattle.twelf_lexer.specs.Lexemes.{is_last, lexeme_token}
use Rattle.twelf_lexer.proofs.Lexemes.{more_of}
use Rattle.twelf_expressions.proofs.Lexemes.{end_alone, open_alone, takes_next}
use Rattle.twelf_expressions.proofs.reader.Reader.pass.Goals as goal

pub returns-in-End-clause-last : goal.returns-in-End-clause-last
returns-in-End-clause-last c = λ _.
    let r = c.args.self.now in
    (Finished r.next.span.from, end_alone r.text.now r.next.span.from r.next.span.to r.next.sign c.in-End.is (r.stands.still (ap is_last c.in-End.is)))

pub returns-in-OpenComment-clause-last : goal.returns-in-OpenComment-clause-last
returns-in-OpenComment-clause-last c = λ _.
    let r = c.args.self.now in
    (Unclosed r.next.span.from, open_alone r.text.now r.next.span.from r.next.span.to r.next.sign c.in-OpenComment.is (r.stands.still (ap is_last c.in-OpenComment.is)))

pub returns-in_default-clause-passes : goal.returns-in_default-clause-passes
returns-in_default-clause-passes c = λ _.
    let text = c.args.self.now.text.now in
    let l = c.args.self.now.next in
    takes_next text l c.lexeme_at-self.result (lexeme_token text l) refl (more_of l.sign c.in_default.not-End c.in_default.not-OpenComment) c.lexeme_at-self.ensures.stands c.lexeme_at-self.ensures.cut
