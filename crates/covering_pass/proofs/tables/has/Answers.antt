use Rattle.name_meaning.specs.Names.{is_among}
use Rattle.covering_pass.proofs.tables.has.Goals as goal

pub returns : goal.returns
unfolding is_among
returns c = c.contains.ensures
