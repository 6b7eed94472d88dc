use Rattle.std.proofs.Common.{length, ◌-◌}
use Rattle.twelf_lexer.proofs.Lexemes.{Over}
use Rattle.twelf_lexer.proofs.lexeme.lexeme_at.Given as goal

abbrev pub invariant-loop-from : goal.invariant-loop-from
invariant-loop-from l = Over l.text l.at l.from

abbrev pub decreases-loop-from : goal.decreases-loop-from
decreases-loop-from l = length l.text - l.from
