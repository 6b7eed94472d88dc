use Rattle.mmt_interface.specs.Readings.{environment_of}
use Rattle.module_verdicts.proofs.DueTables.{no_table}
use Rattle.module_verdicts.proofs.declarations.declare_all.Goals as goal

pub declare_each-requires-clause-fits : goal.declare_each-requires-clause-fits
declare_each-requires-clause-fits c = no_table c.new-due.result.table c.args.here.now.includes (environment_of c.args.faces.now) c.new-due.ensures

pub declare_each-requires-clause-known : goal.declare_each-requires-clause-known
declare_each-requires-clause-known c = c.new-inclusions.ensures c.args.here.now.includes
