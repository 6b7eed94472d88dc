use Rattle.std.proofs.Common.{subst}
use Rattle.verdict_board.specs.Tables.{AreTables}
use Rattle.verdict_board.proofs.Tables.{new_kept}
use Rattle.verdict_board.proofs.change.make_edit.Goals as goal

pub returns-in-Ok-clause-kept : goal.returns-in-Ok-clause-kept
returns-in-Ok-clause-kept g c =
    let tables = subst AreTables c.in-Anew.is c.requires.tables in
    new_kept c.in-Anew.next_stages c.in-Anew.next_graph c.len.result c.in_ok-next_candidates-in-Anew.next_candidates tables.0 tables.1 c.len.ensures.len c.in_ok-next_candidates-in-Anew.ensures
