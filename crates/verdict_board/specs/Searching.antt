-- The candidates of a board, as its tables keep them (this profile).
use Rattle.std.specs.Prelude.{ℕ}
use Rattle.name_meaning.specs.Rows.{Rows}
use Rattle.module_graph_meaning.specs.Graphs.{Graph}
use Rattle.verdict_board.specs.declared.candidates.Candidates.{Candidates}
use Rattle.verdict_board.specs.declared.stage.Stage.{Stage}
use Rattle.verdict_board.specs.Readiness.{AreCandidates, AreAll}

-- A module that is no candidate is not ready.
abbrev pub AreKept : {Answer : Type 0} → Rows (Stage Answer) → Graph → Candidates → Type 0
AreKept stages graph candidates = AreCandidates stages graph (λ list. list.items) candidates.candidate candidates.parked.items

-- So many modules are candidates.
abbrev pub AreNew : ℕ → Candidates → Type 0
AreNew count candidates = AreAll (λ list. list.items) count candidates.candidate candidates.parked.items
