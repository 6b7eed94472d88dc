-- Laws of how many verdicts are installed (this profile).
use Rattle.std.specs.Prelude.{◌≡◌, ◌+◌, true, false, List, [], ◌∷◌, ◌++◌, length, is_some}
use Rattle.name_meaning.specs.Names.{Name, is_among}
use Rattle.edit_log_meaning.specs.Log.{Edit, Put, Drop, Log, is_present, library_of}
use Rattle.module_graph_meaning.specs.Walks.{Dependencies, is_grounded}
use Rattle.module_graph_meaning.specs.Reach.{reach}
use Rattle.board_meaning.specs.Events.{History, edit_in, log_of, library_after}
use Rattle.board_meaning.specs.Standing.{stands, standing_count, installs}
use Rattle.board_meaning.specs.Legal.{IsLegal}
use Rattle.run_meaning.specs.Parts.{Telling, told_of_all}
use Rattle.run_meaning.specs.Backing.{AreBacked}
use Rattle.run_meaning.specs.Generator.{grounded_names, asked_after}

-- Every grounded name stands after this history.
abbrev pub AllStand : Dependencies → History → Type 0
AllStand dependencies history = (name : Name) → is_grounded dependencies (library_after history) name ≡ true → stands dependencies history name ≡ true

-- Behind this history, every grounded name stands before each of these entries that is an edit, and after the last entry.
unfoldable pub StandBetween : Dependencies → History → History → Type 0
StandBetween dependencies history [] = AllStand dependencies history
StandBetween dependencies history (entry ∷ later) =
    (is_some (edit_in entry) ≡ true → AllStand dependencies history) × StandBetween dependencies (history ++ entry ∷ []) later

-- Where nothing was installed, and then every grounded name is brought to a verdict without an edit, there are as many
-- installs as grounded names.
abbrev pub FirstInstallsAreGrounded : Type 0
FirstInstallsAreGrounded =
    (dependencies : Dependencies) (history later : History) → IsLegal dependencies (history ++ later)
    → installs history ≡ 0 → log_of later ≡ [] → AllStand dependencies (history ++ later)
    → installs (history ++ later) ≡ length (grounded_names dependencies (library_after (history ++ later)))

-- Where every grounded name stands, then before each edit and at the end, there are as many further installs as the edits
-- ask for.
abbrev pub InstallsAreAsked : Type 0
InstallsAreAsked =
    (dependencies : Dependencies) (history later : History) → IsLegal dependencies (history ++ later)
    → AllStand dependencies history → StandBetween dependencies history later
    → installs (history ++ later) ≡ installs history + asked_after dependencies (log_of history) (log_of later)

-- The edit puts a text under a name that no module of the library reaches.
abbrev pub IsApart : Dependencies → Log → Edit → Type 0
IsApart dependencies log (Put name text) =
    (other : Name) → is_present (library_of log) other ≡ true → is_among (reach dependencies (library_of log) other) name ≡ false
IsApart dependencies log (Drop name) = ⊥

-- So is each of these edits, over this log and those before it.
unfoldable pub AreApart : Dependencies → Log → List Edit → Type 0
AreApart dependencies log [] = Unit {0}
AreApart dependencies log (edit ∷ edits) = IsApart dependencies log edit × AreApart dependencies (log ++ edit ∷ []) edits

-- Where every edit is such a one, no verdict falls, whenever it was brought: there are as many installs as names that stand.
abbrev pub ApartInstallsStand : Type 0
ApartInstallsStand =
    (dependencies : Dependencies) (history : History) → IsLegal dependencies history → AreApart dependencies [] (log_of history)
    → installs history ≡ standing_count dependencies history

-- Where every grounded name stands, what a check tells over the log of the history is backed; and what a history backs, it
-- backs whatever comes later.
abbrev pub ChecksAreBacked : Type 0
ChecksAreBacked =
    (dependencies : Dependencies) (history : History) → AllStand dependencies history
    → AreBacked dependencies history (told_of_all dependencies (log_of history))

abbrev pub BackedStayBacked : Type 0
BackedStayBacked =
    (dependencies : Dependencies) (history later : History) (tellings : List Telling) → AreBacked dependencies history tellings
    → AreBacked dependencies (history ++ later) tellings
