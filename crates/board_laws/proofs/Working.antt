-- What the work of a pass leaves.
use Rattle.std.proofs.Common.{◌≡◌, ℕ, suc, ◌+◌, Bool, true, false, List, [], ◌∷◌, length, refl, sym, ap, ◌∙◌, arith, length-append}
use Rattle.module_graph_meaning.specs.Subject.{Subject}
use Rattle.board_meaning.specs.Events.{Event, History}
use Rattle.board_meaning.specs.Ready.{is_closed}
use Rattle.board_meaning.specs.Points.{Reply, EditReply, ClaimReply, InstallReply, ReportReply, AnswersReply, ClosedReply, NoReply, entries_of}
use Rattle.board_meaning.specs.Turns.{TurnEnd, Worked, Idle, Closed, FindsNoJob, Turns, TurnsAll, judged_in, judged_in_all, DoesWork}
use Rattle.board_laws.specs.TurnLaws.{AreEventsOf}
use Rattle.board_laws.proofs.Replying.{questions_are_told}
use Rattle.board_laws.proofs.Turning.{turns_are_seen, events_of}

closed_in : {Answer : Type 0} → Bool → Reply Answer → Bool
closed_in b (EditReply a) = b
closed_in b (ClaimReply a) = b
closed_in b (InstallReply a) = b
closed_in b (ReportReply a) = b
closed_in b (AnswersReply a) = b
closed_in b (ClosedReply a) = a
closed_in b NoReply = b

told_closed : {Answer : Type 0} (subject : Subject Answer) (seen : History) (pass : ℕ) (b : Bool) (after : History) → FindsNoJob subject seen pass b after → is_closed after ≡ b
unfolding closed_in
told_closed subject seen pass b after t = sym (ap (closed_in b) ((questions_are_told subject t.between pass [] (ClosedReply b) after).2 t.asks))

pub ends_tell_closed : {Answer : Type 0} (subject : Subject Answer) (seen : History) (pass : ℕ) (after : History)
    → (Turns subject seen pass Idle after → is_closed after ≡ false) × (Turns subject seen pass Closed after → is_closed after ≡ true)
unfolding Turns
ends_tell_closed subject seen pass after = (told_closed subject seen pass false after, told_closed subject seen pass true after)

count_events : (added : History) → length (events_of added) ≡ length added
count_events [] = refl
count_events (x ∷ added) = ap suc (count_events added)

events_in : (end : TurnEnd) (events : List Event) → AreEventsOf end events → length events ≡ judged_in end + judged_in end
events_in (Worked n how) events a = ap length a.1
events_in Idle events a = ap length a
events_in Closed events a = ap length a

turn_count : {Answer : Type 0} (subject : Subject Answer) (seen : History) (pass : ℕ) (end : TurnEnd) (after : History) → Turns subject seen pass end after
    → length (entries_of pass after) ≡ length (entries_of pass seen) + (judged_in end + judged_in end)
turn_count subject seen pass end after t =
    let q = turns_are_seen subject seen pass end after t in
    ap length q.1.own ∙ length-append (entries_of pass seen) q.0
    ∙ ap (λ (k : ℕ). length (entries_of pass seen) + k) (sym (count_events q.0) ∙ events_in end (events_of q.0) q.2)

turns_count : {Answer : Type 0} (subject : Subject Answer) (seen : History) (pass : ℕ) (ends : List TurnEnd) (after : History) → TurnsAll subject seen pass ends after
    → length (entries_of pass after) ≡ length (entries_of pass seen) + (judged_in_all ends + judged_in_all ends)
unfolding TurnsAll judged_in_all
turns_count subject seen pass [] after t = ap (λ (z : History). length (entries_of pass z)) t ∙ omega arith
turns_count subject seen pass (end ∷ ends) after t =
    let a = turn_count subject seen pass end t.0 t.1 in
    let b = turns_count subject t.0 pass ends after t.2 in
    omega (arith, a, b)

pub work_ends_closed : {Answer : Type 0} (subject : Subject Answer) (seen : History) (pass : ℕ) (ends : List TurnEnd) (after : History) → DoesWork subject seen pass ends after
    → (is_closed after ≡ true) × (length (entries_of pass after) ≡ length (entries_of pass seen) + (judged_in_all ends + judged_in_all ends))
work_ends_closed subject seen pass ends after w = (
  (ends_tell_closed subject w.between pass after).1 w.last,
  let a = turns_count subject seen pass ends w.between w.turns in
      let b = turn_count subject w.between pass Closed after w.last in
      omega (arith, a, b),
)
