-- Points: what other passes leave as it was.
use Rattle.std.proofs.Common.{◌≡◌, ℕ, zero, suc, ◌+◌, ◌<◌, Bool, true, false, not, [], ◌∷◌, ◌++◌, length, take, slice_get, nat_eq, Option, Some, None, option_map, option_and_then, option_to_list, is_some, ◌&&◌, inl, inr, ⊎_elim, refl, sym, ap, ap₂, ◌∙◌, subst, true≢false, arith, eqb-true, eq-eqb, append-nil, append_assoc, cond}
use Rattle.std.proofs.lemmas.Bool.{cases_Bool, or_from, and_parts, and_from, not_from_false}
use Rattle.std.proofs.lemmas.List.Folds.{list_any-append}
use Rattle.name_meaning.specs.Names.{Name, Text}
use Rattle.edit_log_meaning.specs.Log.{text_of}
use Rattle.module_graph_meaning.specs.Walks.{Dependencies}
use Rattle.module_graph_meaning.specs.Subject.{Subject, answers_of}
use Rattle.list_laws.proofs.Members.{Member, all_at, any_none}
use Rattle.board_meaning.specs.Events.{Event, Claim, Release, Entry, History, library_after, entry_of}
use Rattle.board_meaning.specs.Claims.{claimed_name, claim_at, ends_claim, is_ended, is_open, inputs_after}
use Rattle.board_meaning.specs.Ready.{is_closed, least_ready}
use Rattle.board_meaning.specs.Machine.{Job, job_after, job_of, claim_reply, edit_reply, Installed, IsInstalled, IsStale, install_event, install_reply, Call, EditCall, ClaimCall, InstallCall, ReleaseCall, CloseCall, event_of, is_by, may_call, after_call}
use Rattle.board_meaning.specs.Legal.{MayFollow, IsLegal}
use Rattle.board_meaning.specs.Points.{entries_of, are_of_others, IsPoint, BoardCall, Makes, Reports, AsksAnswers, AsksClosed, Reply, may_ask, added_by, Happens, FindsNoMemory}
use Rattle.board_laws.specs.PointLaws.{IsSeenAfter}
use Rattle.list_laws.proofs.Places.{place_within, get_front, get_last, get_take, get_behind, take_front, take_length, length_take}
use Rattle.board_laws.proofs.Claiming.{claim_within, claim_front}
use Rattle.board_laws.proofs.Legality.{edit_event_edit, close_event, claim_event, follows_event, legal_call}
use Rattle.list_laws.proofs.Options.{some_of}

pub seen_point : (dependencies : Dependencies) (seen : History) (pass : ℕ) → IsLegal dependencies seen → IsPoint dependencies seen pass seen
seen_point dependencies seen pass l = record { goes_on = record { later = []; begins = sym (append-nil seen); others = refl }; legal = l }

install_ends : (c d : ℕ) (r : Installed) → ends_claim c (install_event d r) ≡ true → c ≡ d
install_ends c d IsInstalled h = eqb-true c d h
install_ends c d (IsStale n k) h = eqb-true c d h

-- what ends a claim is an install or a release of it
pub ending_call : (dependencies : Dependencies) (H : History) (pass : ℕ) (call : Call) (e : Event) (c : ℕ) → event_of dependencies H call ≡ Some e → ends_claim c e ≡ true → may_call H pass call ≡ true
    → may_call H pass (InstallCall c) ≡ true
unfolding event_of may_call
ending_call dependencies H pass (EditCall edit) e c h g m = absurd (true≢false (sym g ∙ ap (ends_claim c) (edit_event_edit edit (edit_reply H edit) e h)))
ending_call dependencies H pass ClaimCall e c h g m = absurd (true≢false (sym g ∙ ap (ends_claim c) (claim_event (least_ready dependencies H) e h).2))
ending_call dependencies H pass (InstallCall d) e c h g m =
    let q : install_event d (install_reply dependencies H d) ≡ e = cc in
    subst (λ z. (is_open H z && is_by pass (slice_get H z)) ≡ true) (sym (install_ends c d (install_reply dependencies H d) (ap (ends_claim c) q ∙ g))) m
ending_call dependencies H pass (ReleaseCall d) e c h g m =
    let q : Release d ≡ e = cc in
    subst (λ z. (is_open H z && is_by pass (slice_get H z)) ≡ true) (sym (eqb-true c d (ap (ends_claim c) q ∙ g))) m
ending_call dependencies H pass CloseCall e c h g m = absurd (true≢false (sym g ∙ ap (ends_claim c) (close_event (is_closed H) e h).0))

by_same : (o : Option Entry) (p q : ℕ) → is_by p o ≡ true → is_by q o ≡ true → p ≡ q
by_same None p q h g = absurd (true≢false (sym h))
by_same (Some e) p q h g = eqb-true p e.pass h ∙ sym (eqb-true q e.pass g)

pub by_within : (xs : History) (i p : ℕ) → is_by p (slice_get xs i) ≡ true → i < length xs
by_within [] i p h = absurd (true≢false (sym h))
by_within (x ∷ xs) zero p h = omega arith
by_within (x ∷ xs) (suc i) p h = let e = by_within xs i p h in omega (arith, e)

-- a later entry with its place
pub place_of : (later : History) (x : Entry) → Member x later → (i : ℕ) × (slice_get later i ≡ Some x)
place_of [] x m = absurd m
place_of (y ∷ later) x (inl e) = (0, ap Some (sym e))
place_of (y ∷ later) x (inr m) = let q = place_of later x m in (suc q.0, q.1)

pub not_same : (p q : ℕ) → not (nat_eq p q) ≡ true → p ≡ q → ⊥
not_same p q h e = true≢false (sym h ∙ ap not (eq-eqb p q e))

module _ (dependencies : Dependencies) (seen later : History) (pass c : ℕ) (legal : IsLegal dependencies (seen ++ later)) (others : are_of_others pass later ≡ true) (may : may_call seen pass (InstallCall c) ≡ true) where
  parts : (is_open seen c ≡ true) × (is_by pass (slice_get seen c) ≡ true)
  unfolding may_call
  parts = and_parts (is_open seen c) (is_by pass (slice_get seen c)) may

  within : c < length seen
  within = by_within seen c pass parts.1

  -- no later entry ends the claim
  not_ended : (x : Entry) → Member x later → ends_claim c x.event ≡ false
  unfolding may_call
  not_ended x m = ⊎_elim (λ e. absurd (clash e)) (λ e. e) (cases_Bool (ends_claim c x.event))
    where
      at : (i : ℕ) × (slice_get later i ≡ Some x)
      at = place_of later x m

      follows : MayFollow dependencies (take (length seen + at.0) (seen ++ later)) x
      follows = legal (length seen + at.0) x (get_behind seen later at.0 (length seen + at.0) refl ∙ at.1)

      clash : ends_claim c x.event ≡ true → ⊥
      clash e =
          not_same pass x.pass (all_at (λ (entry : Entry). not (nat_eq pass entry.pass)) later x others m)
          (by_same (slice_get seen c) pass x.pass parts.1
          (ending_by (ending_call dependencies (take (length seen + at.0) (seen ++ later)) x.pass follows.call x.event c (follows_event dependencies (take (length seen + at.0) (seen ++ later)) x follows) e follows.may)))
        where
          ending_by : may_call (take (length seen + at.0) (seen ++ later)) x.pass (InstallCall c) ≡ true → is_by x.pass (slice_get seen c) ≡ true
          ending_by h =
              let g = and_parts (is_open (take (length seen + at.0) (seen ++ later)) c) (is_by x.pass (slice_get (take (length seen + at.0) (seen ++ later)) c)) h in
              subst (λ o. is_by x.pass o ≡ true) (get_take (seen ++ later) c (length seen + at.0) (omega (arith, within)) ∙ get_front seen later c within) g.1

  pub open_later : may_call (seen ++ later) pass (InstallCall c) ≡ true
  unfolding may_call is_open
  open_later =
      and_from (is_some (claim_at (seen ++ later) c) && not (is_ended (seen ++ later) c)) (is_by pass (slice_get (seen ++ later) c))
      (and_from (is_some (claim_at (seen ++ later) c)) (not (is_ended (seen ++ later) c))
      (ap is_some (claim_front seen later c within) ∙ q.0)
      (not_from_false (is_ended (seen ++ later) c) (list_any-append (λ (entry : Entry). ends_claim c entry.event) seen later ∙ or_from (is_ended seen c) (is_ended later c) (not_true (is_ended seen c) q.1) (any_none (λ (entry : Entry). ends_claim c entry.event) later not_ended))))
      (ap (is_by pass) (get_front seen later c within) ∙ parts.1)
    where
      q : (is_some (claim_at seen c) ≡ true) × (not (is_ended seen c) ≡ true)
      q = and_parts (is_some (claim_at seen c)) (not (is_ended seen c)) parts.0

      not_true : (b : Bool) → not b ≡ true → b ≡ false
      not_true true h = absurd (true≢false (sym h))
      not_true false h = refl

pub point_ends_no_claim : (dependencies : Dependencies) (seen : History) (pass : ℕ) (point : History) (c : ℕ) → IsPoint dependencies seen pass point
    → (may_call seen pass (InstallCall c) ≡ true → may_call point pass (InstallCall c) ≡ true)
    × (may_call seen pass (ReleaseCall c) ≡ true → may_call point pass (ReleaseCall c) ≡ true)
unfolding may_call
point_ends_no_claim dependencies seen pass point c p = (stays, stays)
  where
    stays : may_call seen pass (InstallCall c) ≡ true → may_call point pass (InstallCall c) ≡ true
    stays m =
        subst (λ z. may_call z pass (InstallCall c) ≡ true) (sym p.goes_on.begins)
        (open_later dependencies seen p.goes_on.later pass c (subst (IsLegal dependencies) p.goes_on.begins p.legal) p.goes_on.others m)

pub point_keeps_job : {Answer : Type 0} (subject : Subject Answer) (seen : History) (pass : ℕ) (point : History) (c : ℕ) (n : Name) → IsPoint subject.dependencies seen pass point
    → claim_at seen c ≡ Some n → (job_of subject point c ≡ job_of subject seen c) × (take c point ≡ take c seen)
unfolding job_of
point_keeps_job subject seen pass point c n p h =
    let within = claim_within seen c n h in
    let before : take c (seen ++ p.goes_on.later) ≡ take c seen = take_front seen p.goes_on.later c (omega (arith, within)) in (
      ap (λ z. option_and_then (job_after subject (take c z)) (claim_at z c)) p.goes_on.begins
          ∙ ap₂ (λ B o. option_and_then (job_after subject B) o) before (claim_front seen p.goes_on.later c within),
      ap (take c) p.goes_on.begins ∙ before,
    )

-- ---- a pass's own entries

own_append : (pass : ℕ) (xs ys : History) → entries_of pass (xs ++ ys) ≡ entries_of pass xs ++ entries_of pass ys
own_append pass [] ys = refl
own_append pass (x ∷ xs) ys = by (nat_eq pass x.pass) (own_append pass xs ys)
  where
    by : (b : Bool) → entries_of pass (xs ++ ys) ≡ entries_of pass xs ++ entries_of pass ys
        → cond b (x ∷ entries_of pass (xs ++ ys)) (entries_of pass (xs ++ ys)) ≡ cond b (x ∷ entries_of pass xs) (entries_of pass xs) ++ entries_of pass ys
    by true e = ap (λ (zs : History). x ∷ zs) e
    by false e = e

others_have_none : (pass : ℕ) (xs : History) → are_of_others pass xs ≡ true → entries_of pass xs ≡ []
others_have_none pass [] h = refl
others_have_none pass (x ∷ xs) h = let q = and_parts (not (nat_eq pass x.pass)) (are_of_others pass xs) h in by (nat_eq pass x.pass) q.0 (others_have_none pass xs q.1)
  where
    by : (b : Bool) → not b ≡ true → entries_of pass xs ≡ [] → cond b (x ∷ entries_of pass xs) (entries_of pass xs) ≡ []
    by true g e = absurd (true≢false (sym g))
    by false g e = e

pub point_has_own : (dependencies : Dependencies) (seen : History) (pass : ℕ) (point : History) → IsPoint dependencies seen pass point → entries_of pass point ≡ entries_of pass seen
point_has_own dependencies seen pass point p =
    ap (entries_of pass) p.goes_on.begins ∙ own_append pass seen p.goes_on.later ∙ ap (λ (zs : History). entries_of pass seen ++ zs) (others_have_none pass p.goes_on.later p.goes_on.others) ∙ append-nil (entries_of pass seen)

-- what a call adds is its pass's own
added_own : (dependencies : Dependencies) (H : History) (pass : ℕ) (call : BoardCall) → entries_of pass (added_by dependencies H pass call) ≡ added_by dependencies H pass call
added_own dependencies H pass (Makes call) = by (event_of dependencies H call)
  where
    by : (o : Option Event) → entries_of pass (option_to_list (option_map (entry_of H pass) o)) ≡ option_to_list (option_map (entry_of H pass) o)
    by None = refl
    by (Some event) = ap (λ (b : Bool). cond b (entry_of H pass event ∷ []) []) (eq-eqb pass pass refl)
added_own dependencies H pass (Reports name) = refl
added_own dependencies H pass (AsksAnswers name) = refl
added_own dependencies H pass AsksClosed = refl

added_legal : (dependencies : Dependencies) (H : History) (pass : ℕ) (call : BoardCall) → IsLegal dependencies H → may_ask H pass call ≡ true → IsLegal dependencies (H ++ added_by dependencies H pass call)
unfolding after_call
added_legal dependencies H pass (Makes call) l m = legal_call dependencies H pass call l m
added_legal dependencies H pass (Reports name) l m = subst (IsLegal dependencies) (sym (append-nil H)) l
added_legal dependencies H pass (AsksAnswers name) l m = subst (IsLegal dependencies) (sym (append-nil H)) l
added_legal dependencies H pass AsksClosed l m = subst (IsLegal dependencies) (sym (append-nil H)) l

pub calls_are_seen : {Answer : Type 0} (subject : Subject Answer) (seen : History) (pass : ℕ) (call : BoardCall) (reply : Reply Answer) (after : History)
    → (h : Happens subject seen pass call reply after) → IsSeenAfter subject.dependencies seen pass (added_by subject.dependencies h.point pass call) after
calls_are_seen subject seen pass call reply after h =
    let added : History = added_by subject.dependencies h.point pass call in
    record {
      legal = subst (IsLegal subject.dependencies) (sym h.sees) (added_legal subject.dependencies h.point pass call h.at_point.legal h.may);
      later = h.at_point.goes_on.later ++ added;
      begins = h.sees ∙ ap (λ (z : History). z ++ added) h.at_point.goes_on.begins ∙ append_assoc seen h.at_point.goes_on.later added;
      own = ap (entries_of pass) h.sees ∙ own_append pass h.point added
          ∙ ap (λ (z : History). z ++ entries_of pass added) (point_has_own subject.dependencies seen pass h.point h.at_point)
          ∙ ap (λ (z : History). entries_of pass seen ++ z) (added_own subject.dependencies h.point pass call);
    }

pub wants_are_seen : {Answer : Type 0} (subject : Subject Answer) (seen : History) (pass : ℕ) (call : BoardCall) (after : History) → FindsNoMemory subject seen pass call after
    → IsSeenAfter subject.dependencies seen pass [] after
    × ((c : ℕ) → may_call seen pass (InstallCall c) ≡ true → may_call after pass (InstallCall c) ≡ true)
wants_are_seen subject seen pass call after w =
    let p : IsPoint subject.dependencies seen pass after = subst (IsPoint subject.dependencies seen pass) (sym w.sees) w.at_point in (
      record {
        legal = p.legal;
        later = p.goes_on.later;
        begins = p.goes_on.begins;
        own = point_has_own subject.dependencies seen pass after p ∙ sym (append-nil (entries_of pass seen));
      },
      λ c. (point_ends_no_claim subject.dependencies seen pass after c p).0,
    )

-- ---- the job of a claim

-- a claim that may be ended is one of the history
open_claim : (H : History) (pass c : ℕ) → may_call H pass (InstallCall c) ≡ true → c < length H
unfolding may_call is_open
open_claim H pass c m =
    let a = and_parts (is_some (claim_at H c) && not (is_ended H c)) (is_by pass (slice_get H c)) m in
    let b = and_parts (is_some (claim_at H c)) (not (is_ended H c)) a.0 in
    let n = some_of (claim_at H c) b.0 in
    claim_within H c n.0 n.1

-- no entry of a legal history ends a claim that is made after it
pub not_yet_ended : (dependencies : Dependencies) (H : History) → IsLegal dependencies H → is_ended H (length H) ≡ false
not_yet_ended dependencies H l = any_none (λ (entry : Entry). ends_claim (length H) entry.event) H (λ x m. ⊎_elim (λ e. absurd (clash x m e)) (λ e. e) (cases_Bool (ends_claim (length H) x.event)))
  where
    clash : (x : Entry) → Member x H → ends_claim (length H) x.event ≡ true → ⊥
    clash x m e =
        let p = place_of H x m in
        let f = l p.0 x p.1 in
        let g = open_claim (take p.0 H) x.pass (length H) (ending_call dependencies (take p.0 H) x.pass f.call x.event (length H) (follows_event dependencies (take p.0 H) x f) e f.may) in
        let w = place_within H p.0 x p.1 in
        let t = length_take H p.0 (omega (arith, w)) in
        omega (arith, g, t, w)

-- the claim of a job is the place at which it is made
pub claim_is : {Answer : Type 0} (subject : Subject Answer) (H : History) (n : Name) (job : Job Answer) → job_after subject H n ≡ Some job → job.claim ≡ length H
unfolding job_after
claim_is {Answer = Answer} subject H n job h = by (text_of (library_after H) n) h
  where
    by : (o : Option Text) → option_map (λ (text : Text). record { claim = length H; name = n; text = text; inputs = inputs_after subject.dependencies H n; answers = answers_of subject (library_after H) n }) o ≡ Some job → job.claim ≡ length H
    by None e = absurd (cc)
    by (Some t) e = let q : record { claim = length H; name = n; text = t; inputs = inputs_after subject.dependencies H n; answers = answers_of subject (library_after H) n } ≡ job = cc in ap (λ (z : Job Answer). z.claim) (sym q)

job_stands : {Answer : Type 0} (subject : Subject Answer) (H : History) (pass : ℕ) (job : Job Answer) → IsLegal subject.dependencies H → claim_reply subject H ≡ Some job
    → (job_of subject (after_call subject.dependencies H pass ClaimCall) job.claim ≡ Some job)
    × (may_call (after_call subject.dependencies H pass ClaimCall) pass (InstallCall job.claim) ≡ true)
unfolding after_call event_of job_of may_call is_open
job_stands {Answer = Answer} subject H pass job l h = by (least_ready subject.dependencies H) h
  where
    by : (o : Option Name) → option_and_then (job_after subject H) o ≡ Some job
        → (option_and_then (job_after subject (take job.claim (H ++ option_to_list (option_map (entry_of H pass) (option_map Claim o))))) (claim_at (H ++ option_to_list (option_map (entry_of H pass) (option_map Claim o))) job.claim) ≡ Some job)
        × (((is_some (claim_at (H ++ option_to_list (option_map (entry_of H pass) (option_map Claim o))) job.claim) && not (is_ended (H ++ option_to_list (option_map (entry_of H pass) (option_map Claim o))) job.claim)) && is_by pass (slice_get (H ++ option_to_list (option_map (entry_of H pass) (option_map Claim o))) job.claim)) ≡ true)
    by None e = absurd (cc)
    by (Some n) e = subst (λ (c : ℕ). (option_and_then (job_after subject (take c (H ++ entry_of H pass (Claim n) ∷ []))) (claim_at (H ++ entry_of H pass (Claim n) ∷ []) c) ≡ Some job)
        × (((is_some (claim_at (H ++ entry_of H pass (Claim n) ∷ []) c) && not (is_ended (H ++ entry_of H pass (Claim n) ∷ []) c)) && is_by pass (slice_get (H ++ entry_of H pass (Claim n) ∷ []) c)) ≡ true))
        (sym (claim_is subject H n job e)) (
          ap₂ (λ B o. option_and_then (job_after subject B) o) (take_front H (entry_of H pass (Claim n) ∷ []) (length H) (omega arith) ∙ take_length H) claimed ∙ e,
          and_from (is_some (claim_at (H ++ entry_of H pass (Claim n) ∷ []) (length H)) && not (is_ended (H ++ entry_of H pass (Claim n) ∷ []) (length H))) (is_by pass (slice_get (H ++ entry_of H pass (Claim n) ∷ []) (length H)))
              (and_from (is_some (claim_at (H ++ entry_of H pass (Claim n) ∷ []) (length H))) (not (is_ended (H ++ entry_of H pass (Claim n) ∷ []) (length H))) (ap is_some claimed)
              (not_from_false (is_ended (H ++ entry_of H pass (Claim n) ∷ []) (length H)) (list_any-append (λ (entry : Entry). ends_claim (length H) entry.event) H (entry_of H pass (Claim n) ∷ []) ∙ or_from (is_ended H (length H)) false (not_yet_ended subject.dependencies H l) refl)))
              (ap (is_by pass) (get_last H (entry_of H pass (Claim n))) ∙ eq-eqb pass pass refl),
        )
      where
        claimed : claim_at (H ++ entry_of H pass (Claim n) ∷ []) (length H) ≡ Some n
        claimed = ap (option_and_then (λ (entry : Entry). claimed_name entry.event)) (get_last H (entry_of H pass (Claim n)))

pub job_may_end : {Answer : Type 0} (subject : Subject Answer) (H : History) (pass : ℕ) (job : Job Answer) → IsLegal subject.dependencies H → claim_reply subject H ≡ Some job
    → (job_of subject (after_call subject.dependencies H pass ClaimCall) job.claim ≡ Some job)
    × (may_call (after_call subject.dependencies H pass ClaimCall) pass (InstallCall job.claim) ≡ true)
    × (may_call (after_call subject.dependencies H pass ClaimCall) pass (ReleaseCall job.claim) ≡ true)
unfolding may_call
job_may_end subject H pass job l h = let q = job_stands subject H pass job l h in (q.0, q.1, q.1)
