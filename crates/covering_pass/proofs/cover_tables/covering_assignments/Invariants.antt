use Rattle.std.proofs.Common.{◌≡◌, take, filter_map}
use Rattle.name_meaning.specs.Names.{Name}
use Rattle.link_meaning.specs.Coverings.{cover_by}
use Rattle.mmt_interface.specs.Readings.{environment_of}
use Rattle.link_setting.specs.Readings.{read_all_assigned}
use Rattle.covering_pass.specs.CoverTables.{covers_in}
use Rattle.covering_pass.proofs.cover_tables.covering_assignments.Given as goal

abbrev pub invariant-loop-item : goal.invariant-loop-item
invariant-loop-item l = (theory : Name) → covers_in l.covers.items theory ≡ filter_map (cover_by (environment_of l.faces) theory) (read_all_assigned (take l.item-index l.assigned))
