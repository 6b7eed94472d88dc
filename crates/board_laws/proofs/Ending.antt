-- How turns may end.
use Rattle.std.proofs.Common.{◌≡◌, ℕ, true, false, Some, None, refl, sym, ap, subst, append-nil}
use Rattle.module_graph_meaning.specs.Subject.{Subject}
use Rattle.board_meaning.specs.Events.{History}
use Rattle.board_meaning.specs.Ready.{is_closed}
use Rattle.board_meaning.specs.Machine.{Job, install_reply, ClaimCall, InstallCall, ReleaseCall, may_call, after_call}
use Rattle.board_meaning.specs.Legal.{IsLegal}
use Rattle.board_meaning.specs.Points.{Makes, AsksClosed, ClaimReply, ClosedReply, Happens, FindsNoMemory}
use Rattle.board_meaning.specs.Turns.{Worked, Idle, Closed, Turns, TurnFindsNoMemory, ForClaim, ForJob}
use Rattle.board_laws.proofs.Pointing.{seen_point, job_may_end, calls_are_seen}
use Rattle.board_laws.proofs.Turning.{job_in}

module _ {Answer : Type 0} (subject : Subject Answer) (seen : History) (pass : ℕ) (between : History) where
  module _ (job : Job Answer) (claims : Happens subject seen pass (Makes ClaimCall) (ClaimReply (Some job)) between) where
    legal : IsLegal subject.dependencies between
    legal = (calls_are_seen subject seen pass (Makes ClaimCall) (ClaimReply (Some job)) between claims).legal

    left : after_call subject.dependencies claims.point pass ClaimCall ≡ between
    unfolding after_call
    left = sym claims.sees

    may : (may_call between pass (InstallCall job.claim) ≡ true) × (may_call between pass (ReleaseCall job.claim) ≡ true)
    may =
        let q = job_may_end subject claims.point pass job claims.at_point.legal (sym (ap job_in claims.replies)) in
        subst (λ (H : History). (may_call H pass (InstallCall job.claim) ≡ true) × (may_call H pass (ReleaseCall job.claim) ≡ true)) left (q.1, q.2)

    pub worked : Turns subject seen pass (Worked job.name (install_reply subject.dependencies between job.claim)) (after_call subject.dependencies between pass (InstallCall job.claim))
    unfolding Turns after_call
    worked = record {
      job = job;
      between = between;
      claims = claims;
      named = refl;
      brings = record { point = between; at_point = seen_point subject.dependencies between pass legal; may = may.0; replies = refl; sees = refl };
    }

    pub released : TurnFindsNoMemory subject seen pass (after_call subject.dependencies between pass (ReleaseCall job.claim))
    unfolding after_call
    released = ForJob job between claims (record { point = between; at_point = seen_point subject.dependencies between pass legal; may = may.1; replies = refl; sees = refl })

  asked : (claims : Happens subject seen pass (Makes ClaimCall) (ClaimReply None) between) → Happens subject between pass AsksClosed (ClosedReply (is_closed between)) between
  asked claims = record {
    point = between;
    at_point = seen_point subject.dependencies between pass (calls_are_seen subject seen pass (Makes ClaimCall) (ClaimReply None) between claims).legal;
    may = refl;
    replies = refl;
    sees = sym (append-nil between);
  }

  pub turns_may_end : ((job : Job Answer) → Happens subject seen pass (Makes ClaimCall) (ClaimReply (Some job)) between
      → Turns subject seen pass (Worked job.name (install_reply subject.dependencies between job.claim)) (after_call subject.dependencies between pass (InstallCall job.claim))
      × TurnFindsNoMemory subject seen pass (after_call subject.dependencies between pass (ReleaseCall job.claim)))
      × (Happens subject seen pass (Makes ClaimCall) (ClaimReply None) between
      → (is_closed between ≡ true → Turns subject seen pass Closed between) × (is_closed between ≡ false → Turns subject seen pass Idle between))
      × (FindsNoMemory subject seen pass (Makes ClaimCall) between → TurnFindsNoMemory subject seen pass between)
  unfolding Turns
  turns_may_end = (
    λ job claims. (worked job claims, released job claims),
    λ claims. (
      λ e. record { between = between; claims = claims; asks = subst (λ b. Happens subject between pass AsksClosed (ClosedReply b) between) e (asked claims) },
      λ e. record { between = between; claims = claims; asks = subst (λ b. Happens subject between pass AsksClosed (ClosedReply b) between) e (asked claims) },
    ),
    λ w. ForClaim w,
  )
