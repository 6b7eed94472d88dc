-- The law of rows.
use Rattle.link_laws.specs.LinkTargets.{RowsAreCoherent}
use Rattle.link_laws.proofs.WordsHold.{row_holds}

pub rows_are_coherent : RowsAreCoherent
rows_are_coherent environment here words link coherent holds h = row_holds environment coherent here holds words link h
