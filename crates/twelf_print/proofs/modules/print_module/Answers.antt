use Rattle.mmt_syntax.specs.Readings.{read_module}
use Rattle.twelf_print.proofs.FrontTexts.{module_written}
use Rattle.twelf_print.proofs.PublicClauses.{module_spells, module_fewest}
use Rattle.twelf_print.proofs.modules.print_module.Goals as goal

pub returns-clause-text : goal.returns-clause-text
returns-clause-text c = module_written c.new-out.result (read_module c.args.module.now) c.new-out.ensures c.in_ok-front.ensures.ok c.in_ok-extend.ensures.ok

pub returns-clause-spells : goal.returns-clause-spells
returns-clause-spells c = module_spells (module_written c.new-out.result (read_module c.args.module.now) c.new-out.ensures c.in_ok-front.ensures.ok c.in_ok-extend.ensures.ok)

pub returns-clause-fewest : goal.returns-clause-fewest
returns-clause-fewest c = module_fewest (module_written c.new-out.result (read_module c.args.module.now) c.new-out.ensures c.in_ok-front.ensures.ok c.in_ok-extend.ensures.ok)
