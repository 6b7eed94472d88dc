use Rattle.reading_laws.proofs.Spelled.{trees_are_determined}
use Rattle.reading_laws.proofs.tree_laws.law_one_tree.Goals as goal

pub returns : goal.returns
returns c = trees_are_determined
