-- Jobs that a pass may end: the job that a claim hands out, and such a job at the point of a later call.
use Rattle.std.proofs.Common.{◌≡◌, ℕ, ◌++◌, take, length, Option, Some, None, option_and_then, option_to_list, refl, sym, ap, ◌∙◌, subst, arith}
use Rattle.name_meaning.specs.Names.{Name}
use Rattle.edit_log_meaning.specs.Log.{Library}
use Rattle.module_graph_meaning.specs.Subject.{Subject}
use Rattle.list_laws.proofs.Places.{take_front, take_length}
use Rattle.turn_meaning.specs.Passes.{Pass, Takes}
use Rattle.board_meaning.specs.Events.{Entry, History, library_after}
use Rattle.board_meaning.specs.Claims.{claim_at}
use Rattle.board_meaning.specs.Ready.{least_ready}
use Rattle.board_meaning.specs.Machine.{Job, job_after, job_of, claim_reply, ClaimCall, InstallCall, entry_by, after_call}
use Rattle.board_meaning.specs.Legal.{IsLegal}
use Rattle.board_meaning.specs.Points.{number_of, IsPoint}
use Rattle.board_laws.proofs.Claiming.{claim_within}
use Rattle.board_laws.proofs.Pointing.{claim_is, job_may_end, point_keeps_job, point_ends_no_claim}
use Rattle.module_graph.specs.Subjects.{IsGiven}
use Rattle.verdict_board.proofs.Jobs.{job_given}
use Rattle.board_seats.specs.Seats.{MayEnd}
use Rattle.board_seats.proofs.Turns.{number_is}

-- the job that a claim hands out
pub handed_out : {Meaning : Type 0} (subject : Subject Meaning) (H : History) (pass : ℕ) (job : Job Meaning) → IsLegal subject.dependencies H
    → claim_reply subject H ≡ Some job → MayEnd subject (after_call subject.dependencies H pass ClaimCall) pass job
handed_out subject H pass job l h =
    let q = job_may_end subject H pass job l h in record { claimed = q.0; installs = q.1; releases = q.2 }

-- the place of a job is one at which a claim stands
job_claimed : {Meaning : Type 0} (subject : Subject Meaning) (H : History) (job : Job Meaning) → job_of subject H job.claim ≡ Some job
    → (name : Name) × (claim_at H job.claim ≡ Some name)
unfolding job_of
job_claimed {Meaning} subject H job h = by (claim_at H job.claim) h
  where
    by : (o : Option Name) → option_and_then (job_after subject (take job.claim H)) o ≡ Some job → (name : Name) × (o ≡ Some name)
    by None e = absurd (cc)
    by (Some name) e = (name, refl)

-- at a point a job may be ended that the pass may end by what it has seen
pub at_point : {Meaning : Type 0} (subject : Subject Meaning) (seen : History) (pass : ℕ) (point : History) (job : Job Meaning)
    → IsPoint subject.dependencies seen pass point → MayEnd subject seen pass job → MayEnd subject point pass job
at_point subject seen pass point job p m =
    let c = job_claimed subject seen job m.claimed in
    let ends = point_ends_no_claim subject.dependencies seen pass point job.claim p in
    record { claimed = (point_keeps_job subject seen pass point job.claim c.0 p c.1).0 ∙ m.claimed; installs = ends.0 m.installs; releases = ends.1 m.releases }

-- ---- what a claim hands out

-- the claim of the job is the last entry
pub claim_stands_last : {Meaning : Type 0} (subject : Subject Meaning) (H : History) (job : Job Meaning) → claim_reply subject H ≡ Some job → job.claim ≡ length H
claim_stands_last {Meaning} subject H job h = by (least_ready subject.dependencies H) h
  where
    by : (o : Option Name) → option_and_then (job_after subject H) o ≡ Some job → job.claim ≡ length H
    by None e = absurd (cc)
    by (Some name) e = claim_is subject H name job e

-- the entries before the claim are those that the claim found
pub before_claim : {Meaning : Type 0} (subject : Subject Meaning) (H : History) (pass : ℕ) (job : Job Meaning) → claim_reply subject H ≡ Some job
    → take job.claim (after_call subject.dependencies H pass ClaimCall) ≡ H
unfolding after_call
before_claim subject H pass job h =
    ap (λ (n : ℕ). take n (H ++ option_to_list (entry_by subject.dependencies H pass ClaimCall))) (claim_stands_last subject H job h)
    ∙ take_front H (option_to_list (entry_by subject.dependencies H pass ClaimCall)) (length H) (omega arith) ∙ take_length H

-- in a turn a pass may end a job that it may end by what it has seen
module _ {Lock : Type 0} (before : Pass Lock Entry) (point : History) (taken : Pass Lock Entry) (takes : Takes number_of before point taken) {Meaning : Type 0} (subject : Subject Meaning) (legal : IsLegal subject.dependencies point) (job : Job Meaning) (may : MayEnd subject before.seen before.number job) where
  pub held : MayEnd subject point before.number job
  held = at_point subject before.seen before.number point job (record { goes_on = takes.goes_on; legal = legal }) may

  pub held_by : (number : ℕ) → number ≡ taken.number → MayEnd subject point number job
  held_by number same = subst (λ (pass : ℕ). MayEnd subject point pass job) (sym (same ∙ number_is before point taken takes)) held

  -- a verdict that is brought for the job is the answer by the library that the claim found
  pub brought : (number : ℕ) (after : History) (given : Pass Lock Entry) → given.seen ≡ after → after ≡ after_call subject.dependencies point number (InstallCall job.claim)
      → (answer : Option Meaning) → ((library : Library) → IsGiven subject job.name job.text job.answers library → subject.answer library job.name ≡ answer)
      → subject.answer (library_after (take job.claim given.seen)) job.name ≡ answer
  unfolding after_call
  brought number after given s a answer f =
      let c = job_claimed subject point job held.claimed in
      let within = claim_within point job.claim c.0 c.1 in
      ap (λ (h : History). subject.answer (library_after (take job.claim h)) job.name) (s ∙ a)
      ∙ ap (λ (h : History). subject.answer (library_after h) job.name) (take_front point (option_to_list (entry_by subject.dependencies point number (InstallCall job.claim))) job.claim (omega (arith, within)))
      ∙ f (library_after (take job.claim point)) (job_given subject point job.claim job held.claimed legal)
