-- What is known of the job that a claim hands out, where it hands one out.
use Rattle.std.proofs.Common.{◌≡◌, ◌<◌, ℕ, true, false, length, slice_get, nat_eq, Option, Some, None, IfSome, option_map, sym, arith, eqb-true}
use Rattle.std.proofs.lemmas.Bool.{and_parts, false_from_ne_true}
use Rattle.module_graph_meaning.specs.Subject.{Subject}
use Rattle.board_meaning.specs.Events.{History}
use Rattle.board_meaning.specs.Claims.{is_open}
use Rattle.board_meaning.specs.Machine.{Job, claim_reply, ClaimCall, is_by, may_call, after_call}
use Rattle.board_meaning.specs.Legal.{IsLegal}
use Rattle.verdict_board.specs.Readings.{read_job}
use Rattle.board_laws.proofs.Pointing.{by_within}
use Rattle.board_seats.specs.Seats.{MayEnd}
use Rattle.board_seats.proofs.Ending.{claim_stands_last, handed_out}

module _ {Answer Meaning : Type 0} (subject : Subject Meaning) (meaning : Answer → Meaning) (H : History) where
  pub handed : (pass : ℕ) → IsLegal subject.dependencies H → (job : Option (Job Answer)) → option_map (read_job meaning) job ≡ claim_reply subject H
      → IfSome job (λ j. MayEnd subject (after_call subject.dependencies H pass ClaimCall) pass (read_job meaning j))
  handed pass legal None h = tt
  handed pass legal (Some job) h = handed_out subject H pass (read_job meaning job) legal (sym h)

  pub placed : (job : Option (Job Answer)) → option_map (read_job meaning) job ≡ claim_reply subject H → IfSome job (λ j. j.claim ≡ length H)
  placed None h = tt
  placed (Some job) h = claim_stands_last subject H (read_job meaning job) (sym h)

-- ---- two jobs

before : {Meaning : Type 0} (subject : Subject Meaning) (H : History) (pass : ℕ) (job : Job Meaning) → MayEnd subject H pass job → job.claim < length H
unfolding may_call
before subject H pass job may = by_within H job.claim pass (and_parts (is_open H job.claim) (is_by pass (slice_get H job.claim)) may.installs).1

-- a job that is handed out later has another claim
pub apart : {Meaning : Type 0} (subject : Subject Meaning) (H : History) (pass : ℕ) (first second : Job Meaning) → MayEnd subject H pass first → second.claim ≡ length H
    → (nat_eq second.claim first.claim ≡ false) × (nat_eq first.claim second.claim ≡ false)
apart subject H pass first second may place =
    let b = before subject H pass first may in (
      false_from_ne_true (nat_eq second.claim first.claim) (λ t. let e = eqb-true second.claim first.claim t in omega (arith, b, place, e)),
      false_from_ne_true (nat_eq first.claim second.claim) (λ t. let e = eqb-true first.claim second.claim t in omega (arith, b, place, e)),
    )
