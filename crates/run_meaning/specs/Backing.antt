-- Which histories of the board back what is told (this profile).
use Rattle.std.specs.Prelude.{◌≡◌, ℕ, List, slice_get, Some}
use Rattle.module_graph_meaning.specs.Walks.{Dependencies}
use Rattle.board_meaning.specs.Events.{History}
use Rattle.board_meaning.specs.Standing.{IsBacked}
use Rattle.run_meaning.specs.Judging.{Judging}
use Rattle.run_meaning.specs.Parts.{Telling}
use Rattle.run_meaning.specs.ScriptLogs.{told_by}

-- Each of these tellings is backed by the history.
abbrev pub AreBacked : Dependencies → History → List Telling → Type 0
AreBacked dependencies history tellings =
    (place : ℕ) (telling : Telling) → slice_get tellings place ≡ Some telling → IsBacked dependencies history telling.name telling.version

-- What is told of a script, where so many bytes of its output are written, is backed.
abbrev pub BacksScript : Judging → History → ℕ → List ℕ → Type 0
BacksScript judging history count bytes = AreBacked judging.dependencies history (told_by judging count bytes)
