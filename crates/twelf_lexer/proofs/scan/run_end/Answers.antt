use Rattle.std.proofs.Common.{sym, ◌∙◌}
use Rattle.twelf_lexer.proofs.Fronts.{one_more}
use Rattle.twelf_lexer.proofs.scan.run_end.Goals as goal

pub loop-to-preserved : goal.loop-to-preserved
loop-to-preserved c = one_more _ c.args.text.now c.args.at c.loop-to.to c.loop-to.invariant c.loop-to-test.true (sym c.is_identifier_byte.ensures ∙ c.if-is_identifier_byte.true)
