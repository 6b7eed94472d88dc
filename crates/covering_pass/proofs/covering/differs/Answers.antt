use Rattle.std.proofs.Common.{[], is_some, sym, ap}
use Rattle.term_trees.specs.Readings.{read_map}
use Rattle.covering_pass.specs.CoverTables.{read_covering}
use Rattle.covering_pass.proofs.Identities.{nothing_differs}
use Rattle.covering_pass.proofs.covering.differs.Goals as goal

pub returns-in_default : goal.returns-in_default
returns-in_default c = rw c.in_default.is (sym (ap is_some (nothing_differs (read_covering [] c.args.covering) (read_map c.args.map.now))))
