use Rattle.std.proofs.Common.{sym, append-nil}
use Rattle.mmt_syntax.specs.Readings.{read_decl}
use Rattle.print_meaning.specs.PrintedItems.{text_of}
use Rattle.print_meaning.specs.PrintedModules.{decl_items}
use Rattle.twelf_print.proofs.FrontTexts.{next_part}
use Rattle.twelf_print.proofs.modules.declarations.Goals as goal

pub loop-decl-init : goal.loop-decl-init
unfolding text_of
loop-decl-init c = sym (append-nil c.args.out.now)

pub loop-decl-preserved : goal.loop-decl-preserved
loop-decl-preserved c =
    next_part decl_items read_decl c.args.out.now c.as_slice-decl-items.result.now c.loop-decl.decl-index c.decl-item.result c.decl-item.is c.loop-decl-test.true c.loop-decl.invariant c.in_ok-declaration.ensures.ok
