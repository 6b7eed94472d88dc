use Rattle.std.proofs.Common.{sym, subst, ◌∙◌}
use Rattle.twelf_lexer.proofs.RowLoops.{RowSoFar, row_so_far, row_goes_further}
use Rattle.twelf_lexer.proofs.row.row_end.Goals as goal

pub loop-several-init : goal.loop-several-init
loop-several-init c = row_so_far c.args.text.now c.args.at c.run_end-to.result c.is_reserved-reserved.result c.requires.at c.requires.run c.run_end-to.ensures c.is_reserved-reserved.ensures

pub loop-several-preserved : goal.loop-several-preserved
loop-several-preserved c =
    subst (RowSoFar c.args.text.now c.args.at c.run_end-to-in-loop-several.result _) (sym c.either-reserved.ensures)
    (row_goes_further c.args.text.now c.args.at c.loop-several.to c.run_end-to-in-loop-several.result c.loop-several.several c.loop-several.reserved c.is_reserved.result c.loop-several.invariant
    (sym c.goes_on.ensures ∙ c.loop-several-test.true) c.run_end-to-in-loop-several.ensures c.is_reserved.ensures)
