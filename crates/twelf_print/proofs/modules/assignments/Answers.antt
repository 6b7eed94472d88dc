use Rattle.std.proofs.Common.{sym, append-nil}
use Rattle.mmt_syntax.specs.Readings.{read_assign}
use Rattle.print_meaning.specs.PrintedItems.{text_of}
use Rattle.print_meaning.specs.PrintedModules.{assign_items}
use Rattle.twelf_print.proofs.FrontTexts.{next_part}
use Rattle.twelf_print.proofs.modules.assignments.Goals as goal

pub loop-assign-init : goal.loop-assign-init
unfolding text_of
loop-assign-init c = sym (append-nil c.args.out.now)

pub loop-assign-preserved : goal.loop-assign-preserved
loop-assign-preserved c =
    next_part (assign_items c.args.gap.now) read_assign c.args.out.now c.as_slice-assign-items.result.now c.loop-assign.assign-index c.assign-item.result c.assign-item.is c.loop-assign-test.true c.loop-assign.invariant c.in_ok-assignment.ensures.ok
