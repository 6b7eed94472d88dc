-- Names that rest on verdicts (this profile).
use Rattle.std.specs.Prelude.{◌≡◌, true, List}
use Rattle.name_meaning.specs.Names.{Name}
use Rattle.edit_log_meaning.specs.Log.{is_present}
use Rattle.module_graph_meaning.specs.Walks.{Dependencies}
use Rattle.board_meaning.specs.Events.{History, library_after}
use Rattle.board_meaning.specs.Standing.{stands}
use Rattle.list_laws.proofs.Members.{Member}

-- Each of these names that is present has a standing verdict.
abbrev pub DoRest : Dependencies → History → List Name → Type 0
DoRest dependencies history names = (name : Name) → Member name names → is_present (library_after history) name ≡ true → stands dependencies history name ≡ true
