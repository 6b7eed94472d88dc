use Rattle.std.proofs.Common.{◌≡◌, take}
use Rattle.name_meaning.specs.Names.{Path}
use Rattle.term_trees.specs.Readings.{read_signature}
use Rattle.names.specs.IncludedTables.{place_in}
use Rattle.names.proofs.IncludedPlaces.{with_all}
use Rattle.names.proofs.included_table.add_own.Given as goal

abbrev pub invariant-loop-index : goal.invariant-loop-index
invariant-loop-index l = (path : Path) → place_in l.places.entries path ≡ with_all l.place path (place_in l.initial.places.entries path) (take l.index (read_signature l.own))
