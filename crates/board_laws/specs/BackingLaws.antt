-- Laws of what is told and backed by a history (this profile).
use Rattle.std.specs.Prelude.{◌≡◌, ℕ, ◌≤◌, true, List, ◌++◌, take, Option, Some}
use Rattle.name_meaning.specs.Names.{Name}
use Rattle.edit_log_meaning.specs.Log.{library_of}
use Rattle.module_graph_meaning.specs.Walks.{Dependencies, is_grounded}
use Rattle.module_graph_meaning.specs.Subject.{Subject}
use Rattle.board_meaning.specs.Events.{History, log_of, library_after, version_after}
use Rattle.board_meaning.specs.Standing.{stands, IsBacked}
use Rattle.board_meaning.specs.Machine.{IsVerdict}
use Rattle.board_meaning.specs.Legal.{IsLegal}
use Rattle.board_meaning.specs.Points.{Reports, AsksAnswers, ReportReply, AnswersReply, Happens}

-- What stands is backed at the present version.
abbrev pub StandingIsBacked : Type 0
StandingIsBacked =
    (dependencies : Dependencies) (history : History) (name : Name) → stands dependencies history name ≡ true
    → IsBacked dependencies history name (version_after history)

-- What is backed stays backed, whatever comes later.
abbrev pub BackedStaysBacked : Type 0
BackedStaysBacked =
    (dependencies : Dependencies) (history later : History) (name : Name) (version : ℕ) → IsBacked dependencies history name version
    → IsBacked dependencies (history ++ later) name version

-- A name that is backed at a version is grounded in the library that the edits up to that version leave.
abbrev pub BackedWasGrounded : Type 0
BackedWasGrounded =
    (dependencies : Dependencies) (history : History) (name : Name) (version : ℕ) → IsLegal dependencies history
    → IsBacked dependencies history name version
    → (version ≤ version_after history) × (is_grounded dependencies (library_of (take version (log_of history))) name ≡ true)

-- A verdict of a grounded name that a pass is told, and the answers of a reach, are backed by what it has then seen.
abbrev pub ToldIsBacked : Type 0 → Type 0
ToldIsBacked Answer =
    (subject : Subject Answer) (seen : History) (pass : ℕ) (name : Name) (answer : Answer) (version : ℕ) (after : History)
    → Happens subject seen pass (Reports name) (ReportReply (IsVerdict answer version)) after
    → is_grounded subject.dependencies (library_after after) name ≡ true → IsBacked subject.dependencies after name version

abbrev pub AnswersAreBacked : Type 0 → Type 0
AnswersAreBacked Answer =
    (subject : Subject Answer) (seen : History) (pass : ℕ) (name : Name) (answers : List (Name × Option Answer)) (after : History)
    → Happens subject seen pass (AsksAnswers name) (AnswersReply (Some answers)) after → IsBacked subject.dependencies after name (version_after after)
