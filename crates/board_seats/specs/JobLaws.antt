-- Laws of the jobs that a pass may end (this profile).
use Rattle.std.specs.Prelude.{◌≡◌, ℕ, Bool, false, nat_eq, Option}
use Rattle.module_graph_meaning.specs.Subject.{Subject}
use Rattle.turn_meaning.specs.Passes.{Pass, Joins}
use Rattle.board_meaning.specs.Events.{Entry}
use Rattle.board_meaning.specs.Machine.{Job, Call, EditCall, ClaimCall, InstallCall, ReleaseCall, CloseCall}
use Rattle.board_meaning.specs.Legal.{IsLegal}
use Rattle.board_meaning.specs.Points.{number_of, BoardCall, Makes, Reports, AsksAnswers, AsksClosed, Reply}
use Rattle.board_seats.specs.Seats.{IsCalled, MayEnd}

-- The call ends the claim at this place.
abbrev pub is_end : ℕ → Call → Bool
is_end place (EditCall edit) = false
is_end place ClaimCall = false
is_end place (InstallCall claim) = nat_eq place claim
is_end place (ReleaseCall claim) = nat_eq place claim
is_end place CloseCall = false

abbrev pub is_end_call : ℕ → BoardCall → Bool
is_end_call place (Makes call) = is_end place call
is_end_call place (Reports name) = false
is_end_call place (AsksAnswers name) = false
is_end_call place AsksClosed = false

-- A pass that may end the claim of a job may end it after each call that does not, whatever other passes do.
abbrev pub JobsStay : Type 0 → Type 0 → Type 0
JobsStay Lock Meaning =
    (subject : Subject Meaning) (before after : Pass Lock Entry) (call : BoardCall) (reply : Option (Reply Meaning)) (job : Job Meaning)
    → IsCalled subject before call reply after → is_end_call job.claim call ≡ false
    → MayEnd subject before.seen before.number job → MayEnd subject after.seen after.number job

-- So may a pass that takes in another one.
abbrev pub JobsStayJoined : Type 0 → Type 0 → Type 0
JobsStayJoined Lock Meaning =
    (subject : Subject Meaning) (before other after : Pass Lock Entry) (job : Job Meaning)
    → IsLegal subject.dependencies before.seen → IsLegal subject.dependencies other.seen → Joins number_of before other after
    → MayEnd subject before.seen before.number job → MayEnd subject after.seen after.number job
