use Rattle.std.proofs.Common.{length, ◌-◌}
use Rattle.twelf_lexer.proofs.LexLoop.{LexedSoFar}
use Rattle.twelf_lexer.proofs.lexer.lex_text.Given as goal

abbrev pub invariant-tokens : goal.invariant-tokens
invariant-tokens l = LexedSoFar l.text l.at l.tokens

abbrev pub decreases-tokens : goal.decreases-tokens
decreases-tokens l = length l.text - l.at
