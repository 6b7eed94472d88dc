-- What single calls and entries of a legal history tell.
use Rattle.std.proofs.Common.{◌≡◌, ℕ, zero, suc, ◌<◌, ◌≤◌, Bool, true, false, not, List, [], ◌∷◌, ◌++◌, length, take, slice_get, find, cond, Option, Some, None, option_map, option_to_list, inl, inr, ⊎_elim, refl, sym, ap, ◌∙◌, subst, true≢false, arith, eqb-true, append-nil}
use Rattle.std.specs.List.{list_all}
use Rattle.std.proofs.lemmas.Bool.{and_parts, cases_Bool}
use Rattle.name_meaning.specs.Names.{Name, comes_before, is_ascending}
use Rattle.edit_log_meaning.specs.Log.{Edit, Log, names_of, is_present}
use Rattle.edit_log_meaning.specs.Append.{Edited, Made, Same, Absent, Full, TooLong, TooMany, append_answer, log_after, appended}
use Rattle.list_laws.proofs.Members.{Member, all_at}
use Rattle.name_laws.proofs.Order.{before_trans, not_before_itself, among_member}
use Rattle.edit_log_laws.proofs.Libraries.{present_among, library_ascending}
use Rattle.module_graph_meaning.specs.Walks.{Dependencies, is_ungrounded}
use Rattle.board_meaning.specs.Events.{Event, EditMade, Claim, Stale, Release, Close, Entry, History, edit_of, log_of, library_after, entry_of}
use Rattle.board_meaning.specs.Claims.{ends_claim, is_open}
use Rattle.board_meaning.specs.Ready.{is_closed, is_ready, least_ready}
use Rattle.board_meaning.specs.Machine.{edit_reply, edit_event, Installed, IsInstalled, IsStale, install_event, install_reply, Call, EditCall, ClaimCall, InstallCall, ReleaseCall, CloseCall, event_of, is_by, may_call, after_call}
use Rattle.board_meaning.specs.Legal.{IsLegal}
use Rattle.board_laws.specs.HistoryLaws.{is_edit_call}
use Rattle.list_laws.proofs.Places.{get_take}
use Rattle.board_laws.proofs.Histories.{log_append}
use Rattle.board_laws.proofs.Legality.{follows_event, edit_event_edit, close_event, claim_event, least_is_ready, install_no_edit}
use Rattle.board_laws.proofs.Standings.{ready_parts}
use Rattle.board_laws.proofs.Pointing.{ending_call, by_within}

-- ---- the log after a call

logged : (H : History) (pass : ℕ) (o : Option Event) → log_of (H ++ option_to_list (option_map (entry_of H pass) o)) ≡ log_of H ++ log_of (option_to_list (option_map (entry_of H pass) o))
logged H pass o = log_append H (option_to_list (option_map (entry_of H pass) o))

pub edits_are_appended : (dependencies : Dependencies) (H : History) (pass : ℕ) (edit : Edit) → log_of (after_call dependencies H pass (EditCall edit)) ≡ appended (log_of H) edit
unfolding after_call event_of appended log_of
edits_are_appended dependencies H pass edit = logged H pass (edit_event edit (edit_reply H edit)) ∙ by (append_answer (log_of H) edit)
  where
    by : (a : Edited) → log_of H ++ log_of (option_to_list (option_map (entry_of H pass) (edit_event edit a))) ≡ log_after (log_of H) edit a
    by (Made version) = refl
    by (Same version) = append-nil (log_of H)
    by (Absent version) = append-nil (log_of H)
    by Full = append-nil (log_of H)
    by TooLong = append-nil (log_of H)
    by TooMany = append-nil (log_of H)

unlogged : (H : History) (pass : ℕ) (o : Option Event) → ((e : Event) → o ≡ Some e → edit_of e ≡ None) → log_of (option_to_list (option_map (entry_of H pass) o)) ≡ []
unfolding log_of
unlogged H pass None h = refl
unlogged H pass (Some e) h = rw (h e refl) refl

no_edit : (dependencies : Dependencies) (H : History) (call : Call) → is_edit_call call ≡ false → (e : Event) → event_of dependencies H call ≡ Some e → edit_of e ≡ None
unfolding event_of
no_edit dependencies H (EditCall edit) h e g = absurd (true≢false h)
no_edit dependencies H ClaimCall h e g = ap edit_of (claim_event (least_ready dependencies H) e g).2
no_edit dependencies H (InstallCall c) h e g =
    let q : install_event c (install_reply dependencies H c) ≡ e = cc in sym (ap edit_of q) ∙ install_no_edit c (install_reply dependencies H c)
no_edit dependencies H (ReleaseCall c) h e g = let q : Release c ≡ e = cc in sym (ap edit_of q)
no_edit dependencies H CloseCall h e g = ap edit_of (close_event (is_closed H) e g).0

pub others_leave_log : (dependencies : Dependencies) (H : History) (pass : ℕ) (call : Call) → is_edit_call call ≡ false → log_of (after_call dependencies H pass call) ≡ log_of H
unfolding after_call
others_leave_log dependencies H pass call h =
    logged H pass (event_of dependencies H call)
    ∙ ap (λ (log : Log). log_of H ++ log) (unlogged H pass (event_of dependencies H call) (no_edit dependencies H call h))
    ∙ append-nil (log_of H)

-- ---- the entries of a legal history

taken_length : (xs : History) (i : ℕ) → length (take i xs) ≤ i
taken_length xs zero = omega arith
taken_length [] (suc i) = omega arith
taken_length (x ∷ xs) (suc i) = let n = taken_length xs i in omega (arith, n)

pub ends_are_of_claimants : (dependencies : Dependencies) (H : History) (p c : ℕ) (e : Entry) → IsLegal dependencies H → slice_get H p ≡ Some e → ends_claim c e.event ≡ true
    → (is_open (take p H) c ≡ true) × (is_by e.pass (slice_get H c) ≡ true)
unfolding may_call
ends_are_of_claimants dependencies H p c e l s g =
    let f = l p e s in
    let m = ending_call dependencies (take p H) e.pass f.call e.event c (follows_event dependencies (take p H) e f) g f.may in
    let q = and_parts (is_open (take p H) c) (is_by e.pass (slice_get (take p H) c)) m in
    let before : c < p = earlier (by_within (take p H) c e.pass q.1) in
    (q.0, subst (λ (o : Option Entry). is_by e.pass o ≡ true) (get_take H c p before) q.1)
  where
    earlier : c < length (take p H) → c < p
    earlier h = let n = taken_length H p in omega (arith, h, n)

install_stale : (c d : ℕ) (n : Name) (k : ℕ) (r : Installed) → install_event c r ≡ Stale d n k → (c ≡ d) × (r ≡ IsStale n k)
install_stale c d n k IsInstalled h = absurd (cc)
install_stale c d n k (IsStale m j) h = (cc, cc)

not_stale : (o : Option Event) (d : ℕ) (n : Name) (k : ℕ) → ((e : Event) → o ≡ Some e → e ≡ Stale d n k → ⊥) → o ≡ Some (Stale d n k) → ⊥
not_stale o d n k h g = h (Stale d n k) g refl

stale_call : (dependencies : Dependencies) (H : History) (call : Call) (d : ℕ) (n : Name) (k : ℕ) → event_of dependencies H call ≡ Some (Stale d n k) → install_reply dependencies H d ≡ IsStale n k
unfolding event_of
stale_call dependencies H (EditCall edit) d n k h = absurd (clash (edit_event_edit edit (edit_reply H edit) (Stale d n k) h))
  where
    clash : Stale d n k ≡ EditMade edit → ⊥
    clash e = absurd (cc)
stale_call dependencies H ClaimCall d n k h = let q = claim_event (least_ready dependencies H) (Stale d n k) h in clash q.0 q.2
  where
    clash : (m : Name) → Stale d n k ≡ Claim m → install_reply dependencies H d ≡ IsStale n k
    clash m e = absurd (cc)
stale_call dependencies H (InstallCall c) d n k h =
    let q : install_event c (install_reply dependencies H c) ≡ Stale d n k = cc in
    let r = install_stale c d n k (install_reply dependencies H c) q in
    ap (install_reply dependencies H) (sym r.0) ∙ r.1
stale_call dependencies H (ReleaseCall c) d n k h = absurd (cc)
stale_call dependencies H CloseCall d n k h = clash (close_event (is_closed H) (Stale d n k) h).0
  where
    clash : Stale d n k ≡ Close → install_reply dependencies H d ≡ IsStale n k
    clash e = absurd (cc)

pub stale_entries_tell : (dependencies : Dependencies) (H : History) (p c : ℕ) (n : Name) (newer : ℕ) (e : Entry) → IsLegal dependencies H → slice_get H p ≡ Some e → e.event ≡ Stale c n newer
    → install_reply dependencies (take p H) c ≡ IsStale n newer
stale_entries_tell dependencies H p c n newer e l s g =
    let f = l p e s in stale_call dependencies (take p H) f.call c n newer (follows_event dependencies (take p H) e f ∙ ap Some g)

close_call : (dependencies : Dependencies) (H : History) (pass : ℕ) (call : Call) → event_of dependencies H call ≡ Some Close → may_call H pass call ≡ true → (pass ≡ 0) × (is_closed H ≡ false)
unfolding event_of may_call
close_call dependencies H pass (EditCall edit) h m = absurd (clash (edit_event_edit edit (edit_reply H edit) Close h))
  where
    clash : Close ≡ EditMade edit → ⊥
    clash e = absurd (cc)
close_call dependencies H pass ClaimCall h m = let q = claim_event (least_ready dependencies H) Close h in absurd (clash q.0 q.2)
  where
    clash : (n : Name) → Close ≡ Claim n → ⊥
    clash n e = absurd (cc)
close_call dependencies H pass (InstallCall c) h m = absurd (clash (install_reply dependencies H c) (some_one h))
  where
    some_one : {x y : Event} → Some x ≡ Some y → x ≡ y
    some_one q = cc

    clash : (r : Installed) → install_event c r ≡ Close → ⊥
    clash IsInstalled q = absurd (cc)
    clash (IsStale n k) q = absurd (cc)
close_call dependencies H pass (ReleaseCall c) h m = absurd (cc)
close_call dependencies H pass CloseCall h m = (eqb-true pass 0 m, (close_event (is_closed H) Close h).1)

pub closes_are_of_front : (dependencies : Dependencies) (H : History) (p : ℕ) (e : Entry) → IsLegal dependencies H → slice_get H p ≡ Some e → e.event ≡ Close
    → (e.pass ≡ 0) × (is_closed (take p H) ≡ false)
closes_are_of_front dependencies H p e l s g =
    let f = l p e s in close_call dependencies (take p H) e.pass f.call (follows_event dependencies (take p H) e f ∙ ap Some g) f.may

-- ---- the least ready name

-- in front of what is found nothing passes
none_by : (p : Name → Bool) (x : Name) (names : List Name) (n m : Name) (t : Bool)
    → (find p names ≡ Some n → Member m names → p m ≡ false) → p x ≡ t → cond t (Some x) (find p names) ≡ Some n
    → list_all (comes_before x) names ≡ true → comes_before m n ≡ true → Member m (x ∷ names) → p m ≡ false
none_by p x names n m true h t e first b (inl same) =
    let found : x ≡ n = cc in absurd (not_before_itself n (subst (λ (z : Name). comes_before z n ≡ true) (same ∙ found) b))
none_by p x names n m true h t e first b (inr later) =
    let found : x ≡ n = cc in
    absurd (not_before_itself n (before_trans n m n (subst (λ (z : Name). comes_before z m ≡ true) found (all_at (comes_before x) names m first later)) b))
none_by p x names n m false h t e first b (inl same) = ap p same ∙ t
none_by p x names n m false h t e first b (inr later) = h e later

none_before : (p : Name → Bool) (names : List Name) (n m : Name) → is_ascending names ≡ true → find p names ≡ Some n → comes_before m n ≡ true → Member m names → p m ≡ false
unfolding is_ascending
none_before p [] n m a f b k = absurd k
none_before p (x ∷ names) n m a f b k =
    let q = and_parts (list_all (comes_before x) names) (is_ascending names) a in
    none_by p x names n m (p x) (λ e later. none_before p names n m q.1 e b later) refl f q.0 b k

not_ready_absent : (dependencies : Dependencies) (H : History) (n : Name) → (is_present (library_after H) n ≡ true → is_ready dependencies H n ≡ false) → is_ready dependencies H n ≡ false
not_ready_absent dependencies H n h = ⊎_elim (λ r. h (present r)) (λ r. r) (cases_Bool (is_ready dependencies H n))
  where
    present : is_ready dependencies H n ≡ true → is_present (library_after H) n ≡ true
    present r = (and_parts (is_present (library_after H) n) (not (is_ungrounded dependencies (library_after H) n)) (ready_parts dependencies H n r).grounded).0

pub least_is_least : (dependencies : Dependencies) (H : History) (n : Name) → least_ready dependencies H ≡ Some n
    → (is_ready dependencies H n ≡ true) × ((m : Name) → comes_before m n ≡ true → is_ready dependencies H m ≡ false)
unfolding least_ready
least_is_least dependencies H n h = (
  least_is_ready dependencies H n h,
  λ m b. not_ready_absent dependencies H m
      (λ p. none_before (is_ready dependencies H) (names_of (library_after H)) n m (library_ascending (log_of H)) h b
      (among_member (names_of (library_after H)) m (sym (present_among (library_after H) m) ∙ p))),
)
