use Rattle.std.proofs.Common.{◌∙◌}
use Rattle.names.proofs.IncludedNames.{among_same}
use Rattle.names.proofs.included_table.IncludedTable.has.Goals as goal

pub returns : goal.returns
returns c names same = c.contains.ensures ∙ among_same c.args.self.now.theories.keys names c.args.theory.now same
