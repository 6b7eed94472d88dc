-- Worked examples: what the machine gives after calls that are written out.
use Rattle.std.specs.Prelude.{◌≡◌, ℕ, true, false, List, [], ◌∷◌, map, length, filter, Some, None, option_map, codes}
use Rattle.name_meaning.specs.Names.{Name, Text}
use Rattle.edit_log_meaning.specs.Log.{Put, Drop, Library, text_of, is_present}
use Rattle.module_graph_meaning.specs.Reach.{reach}
use Rattle.module_graph_meaning.specs.Subject.{Subject}
use Rattle.board_meaning.specs.Events.{EditMade, Claim, Install, Stale, History}
use Rattle.board_meaning.specs.Claims.{Input}
use Rattle.board_meaning.specs.Standing.{stands}
use Rattle.board_meaning.specs.Machine.{claim_reply, IsInstalled, IsStale, install_reply, IsVerdict, IsPending, IsAbsent, report_reply, answers_reply, Call, EditCall, ClaimCall, InstallCall, ReleaseCall, CloseCall}
use Rattle.board_meaning.specs.Legal.{PassCall, after_calls, may_make_all}

-- A small subject. Each byte of a text is the name of a dependency, and the answer of a name is the number of
-- present names in its reach.
abbrev pub letters : Name → Text → List Name
letters name text = map (λ (byte : ℕ). byte ∷ []) text

abbrev pub present_count : Library → Name → ℕ
present_count library name = length (filter (is_present library) (reach letters library name))

abbrev pub counted : Subject ℕ
counted = record {
  dependencies = letters;
  answer = λ (library : Library) (name : Name). option_map (λ (text : Text). present_count library name) (text_of library name);
}

abbrev pub by_front : Call → PassCall
by_front call = record { pass = 0; call = call }

abbrev pub by_worker : Call → PassCall
by_worker call = record { pass = 1; call = call }

-- The history after these calls, from the beginning.
abbrev pub played : List PassCall → History
played calls = after_calls letters [] calls

abbrev pub A : Name
A = codes "A"

abbrev pub B : Name
B = codes "B"

abbrev pub C : Name
C = codes "C"

abbrev pub put : Name → Text → PassCall
put name text = by_front (EditCall (Put name text))

abbrev pub input : Name → ℕ → Input
input name stamp = record { name = name; stamp = stamp }

-- Stale install: A is put and claimed, and put again.
abbrev pub put_after_claim : List PassCall
put_after_claim = put A [] ∷ by_front ClaimCall ∷ put A B ∷ []

abbrev pub JobHasStamps : Type 0
JobHasStamps =
    claim_reply counted (played (put A [] ∷ [])) ≡ Some (record { claim = 1; name = A; text = []; inputs = input A 1 ∷ []; answers = [] })

abbrev pub InstallIsStale : Type 0
InstallIsStale = install_reply letters (played put_after_claim) 1 ≡ IsStale A 2

-- The first text is put back before the install: the present stamp is told, not that of the other text.
abbrev pub put_back : List PassCall
put_back = put A [] ∷ by_front ClaimCall ∷ put A B ∷ put A [] ∷ []

abbrev pub WayBackIsStale : Type 0
WayBackIsStale = install_reply letters (played put_back) 1 ≡ IsStale A 3

abbrev pub stale_ended : List PassCall
stale_ended = put A [] ∷ by_front ClaimCall ∷ put A B ∷ put A [] ∷ by_front (InstallCall 1) ∷ []

abbrev pub StaleIsPending : Type 0
StaleIsPending = report_reply counted (played stale_ended) A ≡ IsPending 3

abbrev pub ClaimedAgain : Type 0
ClaimedAgain =
    claim_reply counted (played stale_ended) ≡ Some (record { claim = 5; name = A; text = []; inputs = input A 3 ∷ []; answers = [] })

abbrev pub installed_again : List PassCall
installed_again =
    put A [] ∷ by_front ClaimCall ∷ put A B ∷ put A [] ∷ by_front (InstallCall 1) ∷ by_front ClaimCall ∷ by_front (InstallCall 5) ∷ []

-- What these calls leave: one entry each. The stale install is the entry at place 4, and the claim that it ends is at
-- place 1.
abbrev pub HistoryOfStaleInstall : Type 0
HistoryOfStaleInstall =
    played installed_again
    ≡ record { pass = 0; version = 1; event = EditMade (Put A []) }
    ∷ record { pass = 0; version = 1; event = Claim A }
    ∷ record { pass = 0; version = 2; event = EditMade (Put A B) }
    ∷ record { pass = 0; version = 3; event = EditMade (Put A []) }
    ∷ record { pass = 0; version = 3; event = Stale 1 A 3 }
    ∷ record { pass = 0; version = 3; event = Claim A }
    ∷ record { pass = 0; version = 3; event = Install 5 }
    ∷ []

abbrev pub SecondInstallIsInstalled : Type 0
SecondInstallIsInstalled =
    install_reply letters (played (put A [] ∷ by_front ClaimCall ∷ put A B ∷ put A [] ∷ by_front (InstallCall 1) ∷ by_front ClaimCall ∷ [])) 5 ≡ IsInstalled

abbrev pub VerdictIsTold : Type 0
VerdictIsTold = report_reply counted (played installed_again) A ≡ IsVerdict 1 3

abbrev pub NothingIsReady : Type 0
NothingIsReady = claim_reply counted (played installed_again) ≡ None

abbrev pub CallsMayBeMade : Type 0
CallsMayBeMade = may_make_all letters [] installed_again ≡ true

-- A names B, which is absent, and C names nothing. Both are judged by a worker.
abbrev pub both_installed : List PassCall
both_installed =
    put A B ∷ put C [] ∷ by_worker ClaimCall ∷ by_worker ClaimCall ∷ by_worker (InstallCall 3) ∷ by_worker (InstallCall 2) ∷ []

-- The absent name is an input, with stamp 0, and has no answer.
abbrev pub AbsentNameIsInput : Type 0
AbsentNameIsInput =
    claim_reply counted (played (put A B ∷ put C [] ∷ [])) ≡ Some (record { claim = 2; name = A; text = B; inputs = input A 1 ∷ input B 0 ∷ []; answers = (B, None) ∷ [] })

abbrev pub BothStand : Type 0
BothStand = map (stands letters (played both_installed)) (A ∷ C ∷ []) ≡ true ∷ true ∷ []

-- When B is put, A stands no longer, and C stands on. B is ready, and A waits for it.
abbrev pub dependency_put : List PassCall
dependency_put =
    put A B ∷ put C [] ∷ by_worker ClaimCall ∷ by_worker ClaimCall ∷ by_worker (InstallCall 3) ∷ by_worker (InstallCall 2) ∷ put B [] ∷ []

abbrev pub OnlyDependantFalls : Type 0
OnlyDependantFalls = map (stands letters (played dependency_put)) (A ∷ C ∷ []) ≡ false ∷ true ∷ []

abbrev pub DependencyComesFirst : Type 0
DependencyComesFirst =
    claim_reply counted (played dependency_put) ≡ Some (record { claim = 7; name = B; text = []; inputs = input B 3 ∷ []; answers = [] })

-- A and B name each other: both are ungrounded, so nothing is ready, and the answers are told at once.
abbrev pub ring : List PassCall
ring = put A B ∷ put B A ∷ []

abbrev pub RingIsTold : Type 0
RingIsTold = report_reply counted (played ring) A ≡ IsVerdict 2 2

abbrev pub RingIsNotReady : Type 0
RingIsNotReady = claim_reply counted (played ring) ≡ None

-- A name that was put and dropped again is absent, at the version of the drop.
abbrev pub DroppedIsAbsent : Type 0
DroppedIsAbsent = report_reply counted (played (put A [] ∷ by_front (EditCall (Drop A)) ∷ [])) A ≡ IsAbsent 2

-- Once the board is closed nothing is ready.
abbrev pub ClosedIsNotReady : Type 0
ClosedIsNotReady = claim_reply counted (played (put A [] ∷ by_front CloseCall ∷ [])) ≡ None

-- What was claimed before may still be installed or released, and edits are still made.
abbrev pub used_after_close : List PassCall
used_after_close =
    put A [] ∷ put C [] ∷ by_worker ClaimCall ∷ by_worker ClaimCall ∷ by_front CloseCall ∷ by_worker (InstallCall 2) ∷ by_worker (ReleaseCall 3) ∷ put B [] ∷ []

abbrev pub ClosedIsUsed : Type 0
ClosedIsUsed = may_make_all letters [] used_after_close ≡ true

abbrev pub ClosedTellsVerdict : Type 0
ClosedTellsVerdict = map (report_reply counted (played used_after_close)) (A ∷ B ∷ C ∷ []) ≡ IsVerdict 1 3 ∷ IsPending 3 ∷ IsPending 3 ∷ []

-- A worker may not edit, nor install what another pass has claimed.
abbrev pub OthersMayNotCall : Type 0
OthersMayNotCall =
    map (may_make_all letters (played (put A [] ∷ by_worker ClaimCall ∷ []))) ((by_worker (EditCall (Drop A)) ∷ []) ∷ (by_front (InstallCall 1) ∷ []) ∷ (by_worker (InstallCall 1) ∷ []) ∷ []) ≡ false ∷ false ∷ true ∷ []

-- B is put and judged, and then A, which names it. The job of A has the answer of B.
abbrev pub dependency_judged : List PassCall
dependency_judged = put B [] ∷ by_worker ClaimCall ∷ by_worker (InstallCall 1) ∷ put A B ∷ []

abbrev pub JobHasAnswers : Type 0
JobHasAnswers =
    claim_reply counted (played dependency_judged) ≡ Some (record { claim = 4; name = A; text = B; inputs = input A 2 ∷ input B 1 ∷ []; answers = (B, Some 1) ∷ [] })

-- Once A is judged too, the answers of its reach are told, and those of a name that waits or is absent are not.
abbrev pub both_judged : List PassCall
both_judged =
    put B [] ∷ by_worker ClaimCall ∷ by_worker (InstallCall 1) ∷ put A B ∷ by_worker ClaimCall ∷ by_worker (InstallCall 4) ∷ put C A ∷ []

abbrev pub AnswersAreTold : Type 0
AnswersAreTold =
    map (answers_reply counted (played both_judged)) (A ∷ B ∷ C ∷ codes "D" ∷ []) ≡ Some ((B, Some 1) ∷ []) ∷ Some [] ∷ None ∷ None ∷ []

-- A is put again while it is claimed: the open claim, whose stamp has changed, does not hinder a new one.
abbrev pub StaleClaimIsNoHindrance : Type 0
StaleClaimIsNoHindrance =
    claim_reply counted (played put_after_claim) ≡ Some (record { claim = 3; name = A; text = B; inputs = input A 2 ∷ input B 0 ∷ []; answers = (B, None) ∷ [] })

-- While the claim is current, the name is not claimed again.
abbrev pub CurrentClaimHinders : Type 0
CurrentClaimHinders = claim_reply counted (played (put A [] ∷ by_front ClaimCall ∷ [])) ≡ None
