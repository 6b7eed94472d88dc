-- A job that a pass may end stays one.
use Rattle.std.proofs.Common.{◌≡◌, ℕ, ◌<◌, Bool, true, false, ◌&&◌, ◌||◌, not, is_some, ◌++◌, length, slice_get, nat_eq, Option, Some, None, option_map, option_and_then, option_to_list, refl, sym, ap, ap₂, ◌∙◌, subst, arith}
use Rattle.std.proofs.Math.Bool.{or-false}
use Rattle.std.proofs.lemmas.Bool.{and_parts, or_from}
use Rattle.std.proofs.lemmas.List.Folds.{list_any-append}
use Rattle.module_graph_meaning.specs.Walks.{Dependencies}
use Rattle.module_graph_meaning.specs.Subject.{Subject}
use Rattle.turn_meaning.specs.Passes.{Pass, Joins}
use Rattle.list_laws.proofs.Places.{get_front, take_front}
use Rattle.board_meaning.specs.Events.{Event, Release, Entry, History, entry_of}
use Rattle.board_meaning.specs.Claims.{ends_claim, is_ended, is_open}
use Rattle.board_meaning.specs.Ready.{is_closed, least_ready}
use Rattle.board_meaning.specs.Machine.{Job, job_after, job_of, edit_reply, Installed, IsInstalled, IsStale, install_event, install_reply, Call, EditCall, ClaimCall, InstallCall, ReleaseCall, CloseCall, event_of, is_by, may_call, after_call}
use Rattle.board_meaning.specs.Legal.{IsLegal}
use Rattle.board_meaning.specs.Points.{number_of, BoardCall, Makes, Reports, AsksAnswers, AsksClosed, Reply, added_by}
use Rattle.board_laws.proofs.Claiming.{claim_front}
use Rattle.board_laws.proofs.Legality.{edit_event_edit, claim_event, close_event}
use Rattle.board_laws.proofs.Pointing.{by_within}
use Rattle.board_laws.proofs.Passing.{joins_are_seen}
use Rattle.board_seats.specs.Seats.{IsCalled, MayEnd}
use Rattle.board_seats.specs.JobLaws.{is_end, is_end_call}
use Rattle.board_seats.proofs.Ending.{at_point}

install_ends_not : (claim place : ℕ) (reply : Installed) → nat_eq claim place ≡ false → ends_claim claim (install_event place reply) ≡ false
install_ends_not claim place IsInstalled h = h
install_ends_not claim place (IsStale name newer) h = h

-- a call that does not end a claim makes no event that ends it
other_event : (dependencies : Dependencies) (H : History) (claim : ℕ) (call : Call) (event : Event) → is_end claim call ≡ false
    → event_of dependencies H call ≡ Some event → ends_claim claim event ≡ false
unfolding event_of
other_event dependencies H claim (EditCall edit) event h e = ap (ends_claim claim) (edit_event_edit edit (edit_reply H edit) event e)
other_event dependencies H claim ClaimCall event h e = ap (ends_claim claim) (claim_event (least_ready dependencies H) event e).2
other_event dependencies H claim (InstallCall place) event h e =
    let q : install_event place (install_reply dependencies H place) ≡ event = cc in
    ap (ends_claim claim) (sym q) ∙ install_ends_not claim place (install_reply dependencies H place) h
other_event dependencies H claim (ReleaseCall place) event h e = ap (ends_claim claim) (released event e) ∙ h
  where
    released : (event : Event) → Some (Release place) ≡ Some event → event ≡ Release place
    released event e = cc
other_event dependencies H claim CloseCall event h e = ap (ends_claim claim) (close_event (is_closed H) event e).0

-- so what the call adds has none
none_ends : (dependencies : Dependencies) (H : History) (pass claim : ℕ) (call : BoardCall) → is_end_call claim call ≡ false
    → is_ended (added_by dependencies H pass call) claim ≡ false
none_ends dependencies H pass claim (Makes call) h = by (event_of dependencies H call) (λ event e. other_event dependencies H claim call event h e)
  where
    by : (o : Option Event) → ((event : Event) → o ≡ Some event → ends_claim claim event ≡ false) → is_ended (option_to_list (option_map (entry_of H pass) o)) claim ≡ false
    by None f = refl
    by (Some event) f = or_from (ends_claim claim event) false (f event refl) refl
none_ends dependencies H pass claim (Reports name) h = refl
none_ends dependencies H pass claim (AsksAnswers name) h = refl
none_ends dependencies H pass claim AsksClosed h = refl

-- later entries that do not end a claim leave its job
module _ {Meaning : Type 0} (subject : Subject Meaning) (H : History) (pass : ℕ) (job : Job Meaning) (may : MayEnd subject H pass job) (later : History) (none : is_ended later job.claim ≡ false) where
  parts : (is_open H job.claim ≡ true) × (is_by pass (slice_get H job.claim) ≡ true)
  unfolding may_call
  parts = and_parts (is_open H job.claim) (is_by pass (slice_get H job.claim)) may.installs

  within : job.claim < length H
  within = by_within H job.claim pass parts.1

  same_open : is_open (H ++ later) job.claim ≡ is_open H job.claim
  unfolding is_open
  same_open =
      ap₂ (λ (o : Bool) (ended : Bool). o && not ended) (ap is_some (claim_front H later job.claim within))
      (list_any-append (λ (entry : Entry). ends_claim job.claim entry.event) H later ∙ ap (λ (b : Bool). is_ended H job.claim || b) none ∙ or-false (is_ended H job.claim))

  same_call : (is_open (H ++ later) job.claim && is_by pass (slice_get (H ++ later) job.claim)) ≡ (is_open H job.claim && is_by pass (slice_get H job.claim))
  same_call = ap₂ (λ (a : Bool) (b : Bool). a && b) same_open (ap (is_by pass) (get_front H later job.claim within))

  pub stays : MayEnd subject (H ++ later) pass job
  unfolding may_call job_of
  stays =
      record {
        claimed = ap₂ (λ B o. option_and_then (job_after subject B) o) (take_front H later job.claim (omega (arith, within))) (claim_front H later job.claim within) ∙ may.claimed;
        installs = same_call ∙ may.installs;
        releases = same_call ∙ may.releases;
      }

-- after a call, by any pass, that does not end its claim
pub stays_after : {Meaning : Type 0} (subject : Subject Meaning) (H : History) (pass : ℕ) (job : Job Meaning) (caller : ℕ) (call : Call) → is_end job.claim call ≡ false
    → MayEnd subject H pass job → MayEnd subject (after_call subject.dependencies H caller call) pass job
unfolding after_call
stays_after subject H pass job caller call h may =
    stays subject H pass job may (added_by subject.dependencies H caller (Makes call)) (none_ends subject.dependencies H caller job.claim (Makes call) h)

-- ---- the laws

number_kept : {Lock : Type 0} (before after : Pass Lock Entry) → after ≡ record before { seen = after.seen } → after.number ≡ before.number
number_kept {Lock} before after e = ap (λ (p : Pass Lock Entry). p.number) e

pub jobs_stay : {Lock Meaning : Type 0} (subject : Subject Meaning) (before after : Pass Lock Entry) (call : BoardCall) (reply : Option (Reply Meaning)) (job : Job Meaning)
    → IsCalled subject before call reply after → is_end_call job.claim call ≡ false
    → MayEnd subject before.seen before.number job → MayEnd subject after.seen after.number job
jobs_stay subject before after call (Some reply) job c h m =
    let p = c.happens.point in
    let added = added_by subject.dependencies p before.number call in
    let there = at_point subject before.seen before.number p job c.happens.at_point m in
    subst (λ (pass : ℕ). MayEnd subject after.seen pass job) (sym (number_kept before after c.keeps))
    (subst (λ (seen : History). MayEnd subject seen before.number job) (sym c.happens.sees)
    (stays subject p before.number job there added (none_ends subject.dependencies p before.number job.claim call h)))
jobs_stay subject before after call None job c h m =
    subst (λ (pass : ℕ). MayEnd subject after.seen pass job) (sym (number_kept before after c.keeps))
    (subst (λ (seen : History). MayEnd subject seen before.number job) (sym c.finds.sees)
    (at_point subject before.seen before.number c.finds.point job c.finds.at_point m))

pub jobs_stay_joined : {Lock Meaning : Type 0} (subject : Subject Meaning) (before other after : Pass Lock Entry) (job : Job Meaning)
    → IsLegal subject.dependencies before.seen → IsLegal subject.dependencies other.seen → Joins number_of before other after
    → MayEnd subject before.seen before.number job → MayEnd subject after.seen after.number job
jobs_stay_joined {Lock} subject before other after job l k j m =
    subst (λ (pass : ℕ). MayEnd subject after.seen pass job) (sym (ap (λ (p : Pass Lock Entry). p.number) j.joins))
    (at_point subject before.seen before.number after.seen job (joins_are_seen subject.dependencies before other after l k j).0 m)
