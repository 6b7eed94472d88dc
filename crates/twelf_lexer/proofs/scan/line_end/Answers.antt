use Rattle.std.proofs.Common.{ap, not, ne_eqb, get_or}
use Rattle.twelf_lexer.proofs.Fronts.{one_more}
use Rattle.twelf_lexer.proofs.scan.line_end.Goals as goal

pub loop-to-preserved : goal.loop-to-preserved
loop-to-preserved c = one_more _ c.args.text.now c.args.at c.loop-to.to c.loop-to.invariant c.loop-to-test.true (ap not (ne_eqb (get_or c.args.text.now c.loop-to.to 0) 10 c.if-text-to-ne10.true))
