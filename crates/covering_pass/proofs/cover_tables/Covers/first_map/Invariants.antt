use Rattle.std.proofs.Common.{◌≡◌, drop}
use Rattle.link_meaning.specs.Coverings.{first_map}
use Rattle.covering_pass.specs.CoverTables.{covers_in}
use Rattle.covering_pass.proofs.cover_tables.Covers.first_map.Given as goal

abbrev pub invariant-loop-cover : goal.invariant-loop-cover
invariant-loop-cover l = first_map (covers_in (drop l.cover-index l.self.covers.items) l.theory) ≡ first_map (covers_in l.self.covers.items l.theory)
