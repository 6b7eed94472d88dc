use Rattle.std.proofs.Common.{◌≡◌, take}
use Rattle.name_meaning.specs.Names.{Path}
use Rattle.mmt_interface.specs.Readings.{environment_of}
use Rattle.names.specs.IncludedTables.{place_among, place_in}
use Rattle.names.proofs.included_table.all_places.Given as goal

abbrev pub invariant-loop-place : goal.invariant-loop-place
invariant-loop-place l = (path : Path) → place_in l.places.entries path ≡ place_among (environment_of l.faces) path (take l.place l.theories)
