use Rattle.name_table.proofs.table.NameTable.push.Goals as goal
use Rattle.name_table.proofs.table.NameTable.push.Goals.{in-Ok, in-Err}

pub invariant_of-self : goal.invariant_of-self
invariant_of-self g c =
    elim c.match-push.branch [ in-Ok w ↦ rw (w.in-Ok.ensures.items, c.self.view_is) c.requires | in-Err w ↦ rw w.in-Err.ensures.items c.self.invariant ]
