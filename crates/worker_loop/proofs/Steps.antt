-- A turn of a worker from the calls that it makes.
use Rattle.std.proofs.Common.{◌≡◌, ℕ, List, Bool, true, false, Option, Some, None, option_map, sym, ap, ◌∙◌, subst}
use Rattle.name_meaning.specs.Names.{Name, Text}
use Rattle.edit_log_meaning.specs.Log.{Library}
use Rattle.module_graph_meaning.specs.Subject.{Subject}
use Rattle.turn_meaning.specs.Passes.{Pass}
use Rattle.board_meaning.specs.Events.{Entry}
use Rattle.board_meaning.specs.Machine.{Job, Installed, ClaimCall, InstallCall, ReleaseCall}
use Rattle.board_meaning.specs.Points.{Makes, AsksClosed, BoardCall, Reply, ClaimReply, InstallReply, ClosedReply, NoReply, Happens}
use Rattle.board_meaning.specs.Turns.{Worked, Idle, Closed, FindsNoJob, Turns, TurnFindsNoMemory, ForJob}
use Rattle.module_graph.specs.Subjects.{IsGiven, read_answers}
use Rattle.verdict_board.specs.Readings.{read_job}
use Rattle.board_seats.specs.Seats.{Keeps, IsRepliedTo}

module _ {Lock : Type 0} where
  pub keeps_on : (before between after : Pass Lock Entry) → Keeps before between → Keeps between after → Keeps before after
  keeps_on before between after k m = m ∙ ap (λ (p : Pass Lock Entry). record p { seen = after.seen }) k

  pub number_still : (before after : Pass Lock Entry) → Keeps before after → after.number ≡ before.number
  number_still before after k = ap (λ (p : Pass Lock Entry). p.number) k

  module _ {Answer Meaning : Type 0} (subject : Subject Meaning) (meaning : Answer → Meaning) (before between after : Pass Lock Entry) (found : Option (Job Answer)) (claims : IsRepliedTo subject before (Makes ClaimCall) (ClaimReply (option_map (read_job meaning) found)) between) where
    -- the claim, where it gave this job, or none
    claims_so : (job : Option (Job Answer)) → found ≡ job → Happens subject before.seen before.number (Makes ClaimCall) (ClaimReply (option_map (read_job meaning) job)) between.seen
    claims_so job is = subst (λ (o : Option (Job Answer)). Happens subject before.seen before.number (Makes ClaimCall) (ClaimReply (option_map (read_job meaning) o)) between.seen) is claims.happens

    -- the second call, by the number that the pass had at first
    second : (call : BoardCall) (reply : Reply Meaning) → IsRepliedTo subject between call reply after → Happens subject between.seen before.number call reply after.seen
    second call reply r = subst (λ (pass : ℕ). Happens subject between.seen pass call reply after.seen) (number_still before between claims.keeps) r.happens

    no_job : (closed : Bool) → found ≡ None → IsRepliedTo subject between AsksClosed (ClosedReply closed) after → FindsNoJob subject before.seen before.number closed after.seen
    no_job closed is r = record { between = between.seen; claims = claims_so None is; asks = second AsksClosed (ClosedReply closed) r }

    pub ends_closed : (closed : Bool) → closed ≡ true → found ≡ None → IsRepliedTo subject between AsksClosed (ClosedReply closed) after → Turns subject before.seen before.number Closed after.seen
    unfolding Turns
    ends_closed closed so is r = subst (λ (b : Bool). FindsNoJob subject before.seen before.number b after.seen) so (no_job closed is r)

    pub ends_idle : (closed : Bool) → closed ≡ false → found ≡ None → IsRepliedTo subject between AsksClosed (ClosedReply closed) after → Turns subject before.seen before.number Idle after.seen
    unfolding Turns
    ends_idle closed so is r = subst (λ (b : Bool). FindsNoJob subject before.seen before.number b after.seen) so (no_job closed is r)

    module _ (job : Job Answer) (is : found ≡ Some job) where
      pub ends_worked : (name : Name) (how : Installed) → name ≡ job.name → IsRepliedTo subject between (Makes (InstallCall job.claim)) (InstallReply how) after
          → Turns subject before.seen before.number (Worked name how) after.seen
      unfolding Turns
      ends_worked name how named r =
          record { job = read_job meaning job; between = between.seen; claims = claims_so (Some job) is; named = sym named; brings = second (Makes (InstallCall job.claim)) (InstallReply how) r }

      pub ends_released : IsRepliedTo subject between (Makes (ReleaseCall job.claim)) NoReply after → TurnFindsNoMemory subject before.seen before.number after.seen
      ends_released r = ForJob (read_job meaning job) between.seen (claims_so (Some job) is) (second (Makes (ReleaseCall job.claim)) NoReply r)

-- a verdict that was judged by a copy of the name, and by the job's text and answers, is that of the job
pub judged : {Answer Meaning : Type 0} (subject : Subject Meaning) (meaning : Answer → Meaning) (name copy : Name) (text lent : Text) (answers given : List (Name × Option Answer)) (verdict : Answer)
    → copy ≡ name → lent ≡ text → given ≡ answers
    → ((library : Library) → IsGiven subject copy lent (read_answers meaning given) library → subject.answer library copy ≡ Some (meaning verdict))
    → (library : Library) → IsGiven subject name text (read_answers meaning answers) library → subject.answer library name ≡ Some (meaning verdict)
judged {Answer} subject meaning name copy text lent answers given verdict n t a judges =
    subst (λ (z : Name). (library : Library) → IsGiven subject z text (read_answers meaning answers) library → subject.answer library z ≡ Some (meaning verdict)) n
    (subst (λ (z : Text). (library : Library) → IsGiven subject copy z (read_answers meaning answers) library → subject.answer library copy ≡ Some (meaning verdict)) t
    (subst (λ (z : List (Name × Option Answer)). (library : Library) → IsGiven subject copy lent (read_answers meaning z) library → subject.answer library copy ≡ Some (meaning verdict)) a judges))
