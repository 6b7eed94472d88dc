-- What the turns of a worker leave.
use Rattle.std.proofs.Common.{◌≡◌, inl, inr, ℕ, Bool, true, false, List, [], ◌∷◌, ◌++◌, map, length, Option, Some, None, option_map, option_and_then, option_to_list, is_some, refl, sym, ap, ◌∙◌, subst, true≢false, append_assoc}
use Rattle.name_meaning.specs.Names.{Name, Text}
use Rattle.edit_log_meaning.specs.Log.{text_of}
use Rattle.module_graph_meaning.specs.Walks.{Dependencies}
use Rattle.module_graph_meaning.specs.Subject.{Subject, answers_of}
use Rattle.board_meaning.specs.Events.{Event, Claim, Release, Entry, History, library_after, entry_of}
use Rattle.board_meaning.specs.Claims.{inputs_after}
use Rattle.board_meaning.specs.Ready.{least_ready}
use Rattle.board_meaning.specs.Machine.{Job, job_after, claim_reply, Installed, install_event, install_reply, ClaimCall, InstallCall, ReleaseCall, event_of}
use Rattle.board_meaning.specs.Points.{Makes, AsksClosed, Reply, EditReply, ClaimReply, InstallReply, ReportReply, AnswersReply, ClosedReply, NoReply, added_by, Happens}
use Rattle.board_meaning.specs.Turns.{TurnEnd, Worked, Idle, Closed, FindsNoJob, Turns, TurnFindsNoMemory, ForClaim, ForJob}
use Rattle.board_laws.specs.PointLaws.{IsSeenAfter}
use Rattle.board_laws.specs.TurnLaws.{AreEventsOf, AreEventsOfWant}
use Rattle.board_laws.proofs.Pointing.{calls_are_seen, wants_are_seen}
use Rattle.board_laws.proofs.Told.{claim_gives_job}

abbrev pub events_of : History → List Event
events_of added = map (λ (entry : Entry). entry.event) added

-- what is seen after one call and then another
seen_then : (dependencies : Dependencies) (seen : History) (pass : ℕ) (first second between after : History)
    → IsSeenAfter dependencies seen pass first between → IsSeenAfter dependencies between pass second after → IsSeenAfter dependencies seen pass (first ++ second) after
seen_then dependencies seen pass first second between after a b = record {
  legal = b.legal;
  later = a.later ++ b.later;
  begins = b.begins ∙ ap (λ (z : History). z ++ b.later) a.begins ∙ append_assoc seen a.later b.later;
  own = b.own ∙ ap (λ (z : History). z ++ second) a.own ∙ append_assoc _ first second;
}

job_named : {Answer : Type 0} (subject : Subject Answer) (H : History) (n : Name) (job : Job Answer) → job_after subject H n ≡ Some job → job.name ≡ n
unfolding job_after
job_named {Answer = Answer} subject H n job h = by (text_of (library_after H) n) h
  where
    by : (o : Option Text) → option_map (λ (text : Text). record { claim = length H; name = n; text = text; inputs = inputs_after subject.dependencies H n; answers = answers_of subject (library_after H) n }) o ≡ Some job → job.name ≡ n
    by None e = absurd (cc)
    by (Some t) e = let q : record { claim = length H; name = n; text = t; inputs = inputs_after subject.dependencies H n; answers = answers_of subject (library_after H) n } ≡ job = cc in ap (λ (z : Job Answer). z.name) (sym q)

ready_of_job : {Answer : Type 0} (subject : Subject Answer) (H : History) (job : Job Answer) → claim_reply subject H ≡ Some job → least_ready subject.dependencies H ≡ Some job.name
ready_of_job subject H job h = by (least_ready subject.dependencies H) h
  where
    by : (o : Option Name) → option_and_then (job_after subject H) o ≡ Some job → o ≡ Some job.name
    by None e = absurd (cc)
    by (Some n) e = ap Some (sym (job_named subject H n job e))

ready_of_none : {Answer : Type 0} (subject : Subject Answer) (H : History) → claim_reply subject H ≡ None → least_ready subject.dependencies H ≡ None
ready_of_none subject H h = by (least_ready subject.dependencies H) (sym (claim_gives_job subject H) ∙ ap is_some h)
  where
    by : (o : Option Name) → is_some o ≡ false → o ≡ None
    by None e = refl
    by (Some n) e = absurd (true≢false e)

abbrev pub job_in : {Answer : Type 0} → Reply Answer → Option (Job Answer)
job_in (EditReply a) = None
job_in (ClaimReply a) = a
job_in (InstallReply a) = None
job_in (ReportReply a) = None
job_in (AnswersReply a) = None
job_in (ClosedReply a) = None
job_in NoReply = None

-- what a call through a pass adds
module _ {Answer : Type 0} (subject : Subject Answer) (seen : History) (pass : ℕ) (after : History) where
  event_added : (H : History) (o : Option Event) → events_of (option_to_list (option_map (entry_of H pass) o)) ≡ option_to_list o
  event_added H None = refl
  event_added H (Some e) = refl

  pub job_claimed : (job : Job Answer) (h : Happens subject seen pass (Makes ClaimCall) (ClaimReply (Some job)) after) → events_of (added_by subject.dependencies h.point pass (Makes ClaimCall)) ≡ Claim job.name ∷ []
  unfolding event_of
  job_claimed job h =
      let e : Some job ≡ claim_reply subject h.point = ap job_in h.replies in
      event_added h.point (event_of subject.dependencies h.point ClaimCall) ∙ ap (λ (o : Option Name). option_to_list (option_map Claim o)) (ready_of_job subject h.point job (sym e))

  pub nothing_claimed : (h : Happens subject seen pass (Makes ClaimCall) (ClaimReply None) after) → added_by subject.dependencies h.point pass (Makes ClaimCall) ≡ []
  unfolding event_of
  nothing_claimed h =
      let e : None ≡ claim_reply subject h.point = ap job_in h.replies in
      ap (λ (o : Option Name). option_to_list (option_map (entry_of h.point pass) (option_map Claim o))) (ready_of_none subject h.point (sym e))

  pub verdict_brought : (c : ℕ) (how : Installed) (h : Happens subject seen pass (Makes (InstallCall c)) (InstallReply how) after)
      → events_of (added_by subject.dependencies h.point pass (Makes (InstallCall c))) ≡ install_event c how ∷ []
  unfolding event_of
  verdict_brought c how h =
      let e : how ≡ install_reply subject.dependencies h.point c = ap how_of h.replies in
      event_added h.point (event_of subject.dependencies h.point (InstallCall c)) ∙ ap (λ (r : Installed). install_event c r ∷ []) (sym e)
    where
      how_of : Reply Answer → Installed
      how_of (EditReply a) = how
      how_of (ClaimReply a) = how
      how_of (InstallReply a) = a
      how_of (ReportReply a) = how
      how_of (AnswersReply a) = how
      how_of (ClosedReply a) = how
      how_of NoReply = how

  pub released : (c : ℕ) (h : Happens subject seen pass (Makes (ReleaseCall c)) NoReply after)
      → events_of (added_by subject.dependencies h.point pass (Makes (ReleaseCall c))) ≡ Release c ∷ []
  unfolding event_of
  released c h = event_added h.point (event_of subject.dependencies h.point (ReleaseCall c))

events_append : (xs ys : History) → events_of (xs ++ ys) ≡ events_of xs ++ events_of ys
events_append [] ys = refl
events_append (x ∷ xs) ys = ap (λ (es : List Event). x.event ∷ es) (events_append xs ys)

both_events : (xs ys : History) (a b : Event) → events_of xs ≡ a ∷ [] → events_of ys ≡ b ∷ [] → events_of (xs ++ ys) ≡ a ∷ b ∷ []
both_events xs ys a b h g = events_append xs ys ∙ ap (λ (es : List Event). es ++ events_of ys) h ∙ ap (λ (es : List Event). a ∷ es) g

none_seen : {Answer : Type 0} (subject : Subject Answer) (seen : History) (pass : ℕ) (closed : Bool) (after : History) → FindsNoJob subject seen pass closed after → IsSeenAfter subject.dependencies seen pass [] after
none_seen subject seen pass closed after t =
    seen_then subject.dependencies seen pass [] [] t.between after
    (subst (λ z. IsSeenAfter subject.dependencies seen pass z t.between) (nothing_claimed subject seen pass t.between t.claims) (calls_are_seen subject seen pass (Makes ClaimCall) (ClaimReply None) t.between t.claims))
    (calls_are_seen subject t.between pass AsksClosed (ClosedReply closed) after t.asks)

pub turns_are_seen : {Answer : Type 0} (subject : Subject Answer) (seen : History) (pass : ℕ) (end : TurnEnd) (after : History) → Turns subject seen pass end after
    → (added : History) × IsSeenAfter subject.dependencies seen pass added after × AreEventsOf end (map (λ (entry : Entry). entry.event) added)
unfolding Turns
turns_are_seen subject seen pass (Worked n how) after t =
    let first = added_by subject.dependencies t.claims.point pass (Makes ClaimCall) in
    let second = added_by subject.dependencies t.brings.point pass (Makes (InstallCall t.job.claim)) in (
      first ++ second,
      seen_then subject.dependencies seen pass first second t.between after
          (calls_are_seen subject seen pass (Makes ClaimCall) (ClaimReply (Some t.job)) t.between t.claims)
          (calls_are_seen subject t.between pass (Makes (InstallCall t.job.claim)) (InstallReply how) after t.brings),
      (t.job.claim, both_events first second (Claim n) (install_event t.job.claim how) (job_claimed subject seen pass t.between t.job t.claims ∙ ap (λ (m : Name). Claim m ∷ []) t.named) (verdict_brought subject t.between pass after t.job.claim how t.brings)),
    )
turns_are_seen subject seen pass Idle after t = ([], none_seen subject seen pass false after t, refl)
turns_are_seen subject seen pass Closed after t = ([], none_seen subject seen pass true after t, refl)

pub turns_without_memory : {Answer : Type 0} (subject : Subject Answer) (seen : History) (pass : ℕ) (after : History) → TurnFindsNoMemory subject seen pass after
    → (added : History) × IsSeenAfter subject.dependencies seen pass added after × AreEventsOfWant (map (λ (entry : Entry). entry.event) added)
turns_without_memory subject seen pass after (ForClaim w) = ([], (wants_are_seen subject seen pass (Makes ClaimCall) after w).0, inl refl)
turns_without_memory subject seen pass after (ForJob job between claims releases) =
    let first = added_by subject.dependencies claims.point pass (Makes ClaimCall) in
    let second = added_by subject.dependencies releases.point pass (Makes (ReleaseCall job.claim)) in (
      first ++ second,
      seen_then subject.dependencies seen pass first second between after
          (calls_are_seen subject seen pass (Makes ClaimCall) (ClaimReply (Some job)) between claims)
          (calls_are_seen subject between pass (Makes (ReleaseCall job.claim)) NoReply after releases),
      inr (job.name, job.claim, both_events first second (Claim job.name) (Release job.claim) (job_claimed subject seen pass between job claims) (released subject between pass after job.claim releases)),
    )
