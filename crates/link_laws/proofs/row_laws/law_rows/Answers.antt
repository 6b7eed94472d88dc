use Rattle.link_laws.proofs.Rows.{rows_are_coherent}
use Rattle.link_laws.proofs.row_laws.law_rows.Goals as goal

pub returns : goal.returns
returns c = rows_are_coherent
