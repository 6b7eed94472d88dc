use Rattle.std.proofs.Common.{refl}
use Rattle.twelf_lexer.specs.Lexemes.{lexeme_token}
use Rattle.twelf_expressions.proofs.Lexemes.{takes_next}
use Rattle.twelf_expressions.proofs.reader.Reader.skip.Goals as goal

pub returns-clause-passes : goal.returns-clause-passes
returns-clause-passes c =
    let text = c.args.self.now.text.now in
    let l = c.args.self.now.next in
    takes_next text l c.lexeme_at-self.result (lexeme_token text l) refl c.requires c.lexeme_at-self.ensures.stands c.lexeme_at-self.ensures.cut
