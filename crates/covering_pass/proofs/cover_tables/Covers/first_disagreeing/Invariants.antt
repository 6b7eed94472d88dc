use Rattle.std.proofs.Common.{◌≡◌, drop, find}
use Rattle.std.specs.Option.{option_copied}
use Rattle.link_meaning.specs.Coverings.{disagrees}
use Rattle.covering_pass.specs.CoverTables.{covers_in, read_covering, read_own, setting_of}
use Rattle.covering_pass.proofs.cover_tables.Covers.first_disagreeing.Given as goal

abbrev pub invariant-loop-cover : goal.invariant-loop-cover
invariant-loop-cover l =
    find (disagrees (setting_of l.self) l.theory (read_covering (read_own (option_copied l.own)) l.covering)) (covers_in (drop l.cover-index l.self.covers.items) l.theory)
    ≡ find (disagrees (setting_of l.self) l.theory (read_covering (read_own (option_copied l.own)) l.covering)) (covers_in l.self.covers.items l.theory)
