use Rattle.std.proofs.Common.{length, ◌-◌}
use Rattle.name_meaning.specs.Characters as characters
use Rattle.twelf_lexer.proofs.Fronts.{PassesTo}
use Rattle.twelf_lexer.proofs.scan.run_end.Given as goal

abbrev pub invariant-loop-to : goal.invariant-loop-to
invariant-loop-to l = PassesTo characters.is_identifier_byte l.text l.at l.to

abbrev pub decreases-loop-to : goal.decreases-loop-to
decreases-loop-to l = length l.text - l.to
