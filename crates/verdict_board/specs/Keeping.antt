-- What the tables of a board keep true of its history (this profile).
use Rattle.std.specs.Prelude.{◌≡◌, ℕ, ◌+◌, ◌<◌, ◌≤◌, ◌^◌, Bool, false, length, if◌then◌else◌}
use Rattle.name_meaning.specs.Names.{Name}
use Rattle.name_meaning.specs.Rows.{Rows}
use Rattle.edit_log_meaning.specs.Log.{Log}
use Rattle.module_graph_meaning.specs.Walks.{is_ungrounded}
use Rattle.module_graph_meaning.specs.Graphs.{Graph, HoldsDependencies}
use Rattle.module_graph_meaning.specs.Subject.{Subject}
use Rattle.board_meaning.specs.Events.{History, log_of, library_after}
use Rattle.board_meaning.specs.Claims.{open_claims}
use Rattle.board_meaning.specs.Standing.{installs}
use Rattle.board_meaning.specs.Ready.{is_closed}
use Rattle.board_meaning.specs.Legal.{IsLegal}
use Rattle.verdict_board.specs.declared.candidates.Candidates.{Candidates}
use Rattle.verdict_board.specs.declared.stage.Stage.{Stage}
use Rattle.verdict_board.specs.Stages.{AreStages}
use Rattle.verdict_board.specs.Searching.{AreKept}

-- There is a number left for the end of each open claim, and for the close.
abbrev pub HasRoom : (closed : Bool) (opened entries : ℕ) → Type 0
HasRoom closed opened entries = entries + opened + (if closed then 0 else 1) < 2 ^ 64

module _ {Answer Meaning : Type 0} (subject : Subject Meaning) (meaning : Answer → Meaning) (history : History) where
  pub record IsKept (log : Log) (graph : Graph) (stages : Rows (Stage Answer)) (closed : Bool) (opened entries installed : ℕ) (candidates : Candidates) (rings : Bool) : Type 0 where
    pub legal : IsLegal subject.dependencies history
    pub logged : log ≡ log_of history
    pub holds : HoldsDependencies graph subject.dependencies (library_after history)
    pub staged : AreStages subject meaning history stages
    pub closed_is : closed ≡ is_closed history
    pub opened_all : length (open_claims history) ≤ opened
    pub counted : entries ≡ length history
    pub installed_all : installed ≡ installs history
    pub room : HasRoom closed opened entries
    pub candidates_all : AreKept stages graph candidates
    pub sound : rings ≡ false → (name : Name) → is_ungrounded subject.dependencies (library_after history) name ≡ false
