-- Laws of the turns of a worker (this profile).
use Rattle.std.specs.Prelude.{◌≡◌, ◌⊎◌, ℕ, ◌+◌, true, false, List, [], ◌∷◌, map, length, Some, None}
use Rattle.name_meaning.specs.Names.{Name}
use Rattle.module_graph_meaning.specs.Subject.{Subject}
use Rattle.board_meaning.specs.Events.{Event, Claim, Release, Entry, History}
use Rattle.board_meaning.specs.Machine.{Job, install_event, install_reply, ClaimCall, InstallCall, ReleaseCall, after_call}
use Rattle.board_meaning.specs.Turns.{TurnEnd, Worked, Idle, Closed, Turns, TurnFindsNoMemory, DoesWork, judged_in_all}
use Rattle.board_meaning.specs.Points.{Makes, ClaimReply, Happens, FindsNoMemory, entries_of}
use Rattle.board_meaning.specs.Ready.{is_closed}
use Rattle.board_laws.specs.PointLaws.{IsSeenAfter}

-- What a turn that ends so does: one claim, and the end of that claim; or nothing.
abbrev pub AreEventsOf : TurnEnd → List Event → Type 0
AreEventsOf (Worked name how) events = (claim : ℕ) × (events ≡ Claim name ∷ install_event claim how ∷ [])
AreEventsOf Idle events = events ≡ []
AreEventsOf Closed events = events ≡ []

-- Its pass has then seen a legal history, and its own entries are those that it had made, and then these.
abbrev pub TurnsAreSeen : Type 0 → Type 0
TurnsAreSeen Answer =
    (subject : Subject Answer) (seen : History) (pass : ℕ) (end : TurnEnd) (after : History) → Turns subject seen pass end after
    → (added : History) × IsSeenAfter subject.dependencies seen pass added after × AreEventsOf end (map (λ (entry : Entry). entry.event) added)

-- A turn that finds no memory does nothing, or claims and releases.
abbrev pub AreEventsOfWant : List Event → Type 0
AreEventsOfWant events = (events ≡ []) ⊎ ((name : Name) × (claim : ℕ) × (events ≡ Claim name ∷ Release claim ∷ []))

abbrev pub TurnsWithoutMemoryAreSeen : Type 0 → Type 0
TurnsWithoutMemoryAreSeen Answer =
    (subject : Subject Answer) (seen : History) (pass : ℕ) (after : History) → TurnFindsNoMemory subject seen pass after
    → (added : History) × IsSeenAfter subject.dependencies seen pass added after × AreEventsOfWant (map (λ (entry : Entry). entry.event) added)

-- An idle turn has seen the board open, and a closed one has seen it closed.
abbrev pub EndsTellClosed : Type 0 → Type 0
EndsTellClosed Answer =
    (subject : Subject Answer) (seen : History) (pass : ℕ) (after : History)
    → (Turns subject seen pass Idle after → is_closed after ≡ false) × (Turns subject seen pass Closed after → is_closed after ≡ true)

-- The work of a pass ends where it has seen the board closed. Each module that it judged is two entries of its own, a claim
-- and its end, and it makes no others.
abbrev pub WorkEndsClosed : Type 0 → Type 0
WorkEndsClosed Answer =
    (subject : Subject Answer) (seen : History) (pass : ℕ) (ends : List TurnEnd) (after : History) → DoesWork subject seen pass ends after
    → (is_closed after ≡ true)
    × (length (entries_of pass after) ≡ length (entries_of pass seen) + (judged_in_all ends + judged_in_all ends))

-- Where a claim gives a job, its verdict may be brought, or the job be released; where it gives none, the turn is closed or
-- idle as the board then is. So each way for a turn to end is one that happens.
abbrev pub TurnsMayEnd : Type 0 → Type 0
TurnsMayEnd Answer =
    (subject : Subject Answer) (seen : History) (pass : ℕ) (between : History)
    → ((job : Job Answer) → Happens subject seen pass (Makes ClaimCall) (ClaimReply (Some job)) between
    → Turns subject seen pass (Worked job.name (install_reply subject.dependencies between job.claim)) (after_call subject.dependencies between pass (InstallCall job.claim))
    × TurnFindsNoMemory subject seen pass (after_call subject.dependencies between pass (ReleaseCall job.claim)))
    × (Happens subject seen pass (Makes ClaimCall) (ClaimReply None) between
    → (is_closed between ≡ true → Turns subject seen pass Closed between) × (is_closed between ≡ false → Turns subject seen pass Idle between))
    × (FindsNoMemory subject seen pass (Makes ClaimCall) between → TurnFindsNoMemory subject seen pass between)
