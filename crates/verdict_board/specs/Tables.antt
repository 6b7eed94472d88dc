-- The tables of a board after an edit (this profile).
use Rattle.std.specs.Prelude.{◌≡◌, ⊤, Bool, false, List, is_some, if◌then◌else◌}
use Rattle.name_meaning.specs.Names.{Name}
use Rattle.name_meaning.specs.Rows.{Rows, row_names, row_of, with_row, without_row, IsTable}
use Rattle.edit_log_meaning.specs.Log.{Edit, Put, Drop, edited, edited_name}
use Rattle.module_graph_meaning.specs.Walks.{Dependencies, is_ungrounded}
use Rattle.module_graph_meaning.specs.Graphs.{Graph, HoldsDependencies}
use Rattle.module_graph_meaning.specs.Subject.{Subject}
use Rattle.board_meaning.specs.Events.{History, library_after}
use Rattle.verdict_board.specs.declared.change.Change.{Change}
use Rattle.verdict_board.specs.declared.change.Change.TheVariants.{InPlace, Anew}
use Rattle.verdict_board.specs.declared.stage.Stage.{Stage}
use Rattle.verdict_board.specs.declared.stage.Stage.TheVariants.{Waiting}
use Rattle.verdict_board.specs.Stages.{fallen, AreStages, after_edit_of}

-- These are the direct dependencies of the text that an edit puts, if it puts one.
abbrev pub AreDependencies : Dependencies → Edit → List Name → Type 0
AreDependencies dependencies (Put name text) names = names ≡ dependencies name text
AreDependencies dependencies (Drop name) names = ⊤

-- The stages of the modules that the edit leaves, before any falls: that of a module which it makes new waits.
abbrev pub stages_with : {Answer : Type 0} → Edit → Rows (Stage Answer) → Rows (Stage Answer)
stages_with (Put name text) rows = if is_some (row_of rows name) then rows else with_row name Waiting rows
stages_with (Drop name) rows = without_row name rows

-- The stages after an edit, if all modules are grounded then.
abbrev pub stages_in_place : {Answer : Type 0} → Edit → Rows (Stage Answer) → Rows (Stage Answer)
stages_in_place edit rows = fallen (edited_name edit) (stages_with edit rows)

-- The graph after an edit that puts a text with these direct dependencies, or drops a module.
abbrev pub graph_in_place : List Name → Edit → Graph → Graph
graph_in_place names (Put name text) graph = with_row name names graph
graph_in_place names (Drop name) graph = without_row name graph

-- The tables after an edit: those that were made anew, else the old ones where all modules are grounded after it.
abbrev pub stages_changed : {Answer : Type 0} → Change Answer → Edit → Rows (Stage Answer) → Rows (Stage Answer)
stages_changed (InPlace names) edit rows = stages_in_place edit rows
stages_changed (Anew graph stages rings) edit rows = stages

abbrev pub graph_changed : {Answer : Type 0} → Change Answer → Edit → Graph → Graph
graph_changed (InPlace names) edit graph = graph_in_place names edit graph
graph_changed (Anew next stages rings) edit graph = next

-- Whether a module may be ungrounded after the edit.
abbrev pub rings_in : {Answer : Type 0} → Change Answer → Bool
rings_in (InPlace names) = false
rings_in (Anew graph stages rings) = rings

-- Tables that were made anew have the same names, in byte order.
abbrev pub AreTables : {Answer : Type 0} → Change Answer → Type 0
AreTables (InPlace names) = ⊤
AreTables (Anew graph stages rings) = IsTable stages × (row_names stages ≡ row_names graph)

-- No module is ungrounded after the edit, and these are the dependencies of its text; or these are the tables after it, and none is where
-- there are no rings.
abbrev pub IsChange : {Answer Meaning : Type 0} → Subject Meaning → (Answer → Meaning) → History → Edit → Change Answer → Type 0
IsChange subject meaning history edit (InPlace names) =
    ((name : Name) → is_ungrounded subject.dependencies (edited (library_after history) edit) name ≡ false)
    × AreDependencies subject.dependencies edit names
IsChange subject meaning history edit (Anew graph stages rings) =
    HoldsDependencies graph subject.dependencies (edited (library_after history) edit)
    × AreStages subject meaning (after_edit_of history edit) stages
    × (rings ≡ false → (name : Name) → is_ungrounded subject.dependencies (edited (library_after history) edit) name ≡ false)
