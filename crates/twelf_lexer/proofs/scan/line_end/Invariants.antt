use Rattle.std.proofs.Common.{length, ◌-◌, not, ◌==◌}
use Rattle.text_meaning.specs.Bytes.{line_feed}
use Rattle.twelf_lexer.proofs.Fronts.{PassesTo}
use Rattle.twelf_lexer.proofs.scan.line_end.Given as goal

abbrev pub invariant-loop-to : goal.invariant-loop-to
invariant-loop-to l = PassesTo (λ b. not (b == line_feed)) l.text l.at l.to

abbrev pub decreases-loop-to : goal.decreases-loop-to
decreases-loop-to l = length l.text - l.to
