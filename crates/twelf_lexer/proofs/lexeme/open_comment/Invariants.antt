use Rattle.std.proofs.Common.{length, ◌-◌}
use Rattle.twelf_lexer.proofs.Lexemes.{EndsAs}
use Rattle.twelf_lexer.proofs.lexeme.open_comment.Given as goal

abbrev pub invariant-tokens : goal.invariant-tokens
invariant-tokens l = EndsAs l.text l.lexeme

abbrev pub decreases-tokens : goal.decreases-tokens
decreases-tokens l = length l.text - l.lexeme.span.from
