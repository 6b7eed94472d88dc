-- Legal histories: what each entry tells of those before it, and one more entry.
use Rattle.std.proofs.Common.{◌≡◌, ℕ, zero, suc, Bool, true, false, List, [], ◌∷◌, ◌++◌, length, take, slice_get, Option, Some, None, option_map, option_to_list, cond, ⊎_elim, refl, sym, ap, ◌∙◌, subst, arith, append-nil, length-append}
use Rattle.std.proofs.lemmas.Bool.{and_parts}
use Rattle.name_meaning.specs.Names.{Name}
use Rattle.edit_log_meaning.specs.Log.{Edit, names_of}
use Rattle.edit_log_meaning.specs.Append.{Edited, Made, Same, Absent, Full, TooLong, TooMany, append_answer, IsWithinLimits}
use Rattle.module_graph_meaning.specs.Walks.{Dependencies}
use Rattle.list_laws.proofs.Members.{find_found}
use Rattle.edit_log_laws.proofs.Limits.{made_not_full, made_within, empty_within}
use Rattle.board_meaning.specs.Events.{Event, EditMade, Claim, Release, Close, Entry, History, edit_of, edit_in, log_of, library_after, version_after, version_with, entry_of}
use Rattle.board_meaning.specs.Claims.{claimed_name, claim_at}
use Rattle.board_meaning.specs.Standing.{installed_claim}
use Rattle.board_meaning.specs.Ready.{is_closed, is_ready, least_ready}
use Rattle.board_meaning.specs.Machine.{edit_reply, edit_event, Installed, IsInstalled, IsStale, install_event, install_reply, Call, EditCall, ClaimCall, InstallCall, ReleaseCall, CloseCall, event_of, may_call, after_call}
use Rattle.board_meaning.specs.Legal.{MayFollow, IsLegal, PassCall, after_calls, may_make_all}
use Rattle.list_laws.proofs.Places.{place_within, get_front, get_last, get_more, take_front, take_length, take_more, take_past}
use Rattle.board_laws.proofs.Histories.{log_none, log_some}
use Rattle.board_laws.proofs.Claiming.{claim_entry}
use Rattle.list_laws.proofs.Options.{clash}

-- ---- histories that grow

pub legal_empty : (dependencies : Dependencies) → IsLegal dependencies []
legal_empty dependencies place e h = absurd (cc)

pub legal_front : (dependencies : Dependencies) (H K : History) → IsLegal dependencies (H ++ K) → IsLegal dependencies H
legal_front dependencies H K l place e h =
    let p = place_within H place e h in
    subst (λ z. MayFollow dependencies z e) (take_front H K place (omega (arith, p))) (l place e (get_front H K place p ∙ h))

pub legal_more : (dependencies : Dependencies) (H : History) (e : Entry) → IsLegal dependencies H → MayFollow dependencies H e → IsLegal dependencies (H ++ e ∷ [])
legal_more dependencies H e l f place x h =
    ⊎_elim
    (λ g. let p = place_within H place x g in subst (λ z. MayFollow dependencies z x) (sym (take_front H (e ∷ []) place (omega (arith, p)))) (l place x g))
    (λ g. subst (λ y. MayFollow dependencies (take place (H ++ e ∷ [])) y) g.1
    (subst (λ z. MayFollow dependencies z e) (sym (ap (λ i. take i (H ++ e ∷ [])) g.0 ∙ take_front H (e ∷ []) (length H) (omega arith) ∙ take_length H)) f))
    (get_more H e x place h)

-- the last entry of a legal history
pub legal_last : (dependencies : Dependencies) (H : History) (e : Entry) → IsLegal dependencies (H ++ e ∷ []) → MayFollow dependencies H e
legal_last dependencies H e l =
    subst (λ z. MayFollow dependencies z e) (take_front H (e ∷ []) (length H) (omega arith) ∙ take_length H) (l (length H) e (get_last H e))

pub legal_call : (dependencies : Dependencies) (H : History) (pass : ℕ) (call : Call) → IsLegal dependencies H → may_call H pass call ≡ true → IsLegal dependencies (after_call dependencies H pass call)
unfolding after_call
legal_call dependencies H pass call l m = by (event_of dependencies H call) refl
  where
    by : (o : Option Event) → event_of dependencies H call ≡ o → IsLegal dependencies (H ++ option_to_list (option_map (entry_of H pass) o))
    by None e = subst (IsLegal dependencies) (sym (append-nil H)) l
    by (Some event) e = legal_more dependencies H (entry_of H pass event) l (record { call = call; may = m; made = ap (option_map (entry_of H pass)) e })

pub legal_calls : (dependencies : Dependencies) (H : History) (calls : List PassCall) → IsLegal dependencies H → may_make_all dependencies H calls ≡ true → IsLegal dependencies (after_calls dependencies H calls)
unfolding after_calls may_make_all
legal_calls dependencies H [] l m = l
legal_calls dependencies H (first ∷ calls) l m =
    let q = and_parts (may_call H first.pass first.call) (may_make_all dependencies (after_call dependencies H first.pass first.call) calls) m in
    legal_calls dependencies (after_call dependencies H first.pass first.call) calls (legal_call dependencies H first.pass first.call l q.0) q.1

-- ---- what an entry that follows tells

entry_event : (H : History) (pass : ℕ) (o : Option Event) (e : Entry) → option_map (entry_of H pass) o ≡ Some e → (o ≡ Some e.event) × (e.version ≡ version_with (version_after H) (edit_of e.event))
entry_event H pass None e h = absurd (cc)
entry_event H pass (Some event) e h =
    let q : entry_of H pass event ≡ e = cc in
    (ap (λ (z : Entry). Some z.event) q, ap (λ (z : Entry). z.version) (sym q) ∙ ap (λ (z : Entry). version_with (version_after H) (edit_of z.event)) q)

pub follows_event : (dependencies : Dependencies) (H : History) (e : Entry) (f : MayFollow dependencies H e) → event_of dependencies H f.call ≡ Some e.event
follows_event dependencies H e f = (entry_event H e.pass (event_of dependencies H f.call) e f.made).0

pub follows_version : (dependencies : Dependencies) (H : History) (e : Entry) → MayFollow dependencies H e → e.version ≡ version_with (version_after H) (edit_of e.event)
follows_version dependencies H e f = (entry_event H e.pass (event_of dependencies H f.call) e f.made).1

pub edit_event_edit : (edit : Edit) (a : Edited) (e : Event) → edit_event edit a ≡ Some e → e ≡ EditMade edit
edit_event_edit edit (Made v) e h = cc
edit_event_edit edit (Same v) e h = absurd (cc)
edit_event_edit edit (Absent v) e h = absurd (cc)
edit_event_edit edit Full e h = absurd (cc)
edit_event_edit edit TooLong e h = absurd (cc)
edit_event_edit edit TooMany e h = absurd (cc)

edit_event_made : (edit : Edit) (a : Edited) (e : Event) → edit_event edit a ≡ Some e → (v : ℕ) × (a ≡ Made v)
edit_event_made edit (Made v) e h = (v, refl)
edit_event_made edit (Same v) e h = absurd (cc)
edit_event_made edit (Absent v) e h = absurd (cc)
edit_event_made edit Full e h = absurd (cc)
edit_event_made edit TooLong e h = absurd (cc)
edit_event_made edit TooMany e h = absurd (cc)

pub close_event : (b : Bool) (e : Event) → cond b None (Some Close) ≡ Some e → (e ≡ Close) × (b ≡ false)
close_event true e h = absurd (cc)
close_event false e h = (cc, refl)

pub claim_event : (o : Option Name) (e : Event) → option_map Claim o ≡ Some e → (n : Name) × (o ≡ Some n) × (e ≡ Claim n)
claim_event None e h = absurd (cc)
claim_event (Some n) e h = (n, refl, cc)

install_claims : (c : ℕ) (r : Installed) → claimed_name (install_event c r) ≡ None
install_claims c IsInstalled = refl
install_claims c (IsStale n k) = refl

install_installs : (c d : ℕ) (r : Installed) → installed_claim (install_event c r) ≡ Some d → (c ≡ d) × (r ≡ IsInstalled)
install_installs c d IsInstalled h = (cc, refl)
install_installs c d (IsStale n k) h = absurd (cc)

-- a claim is of the least ready name
pub event_claim : (dependencies : Dependencies) (H : History) (call : Call) (e : Event) (m : Name) → event_of dependencies H call ≡ Some e → claimed_name e ≡ Some m → least_ready dependencies H ≡ Some m
unfolding event_of
event_claim dependencies H (EditCall edit) e m h g = absurd (clash (claimed_name e) (ap claimed_name (edit_event_edit edit (edit_reply H edit) e h)) g)
event_claim dependencies H ClaimCall e m h g =
    let q = claim_event (least_ready dependencies H) e h in
    q.1 ∙ sym (ap claimed_name q.2) ∙ g
event_claim dependencies H (InstallCall c) e m h g =
    let q : install_event c (install_reply dependencies H c) ≡ e = cc in
    absurd (clash (claimed_name e) (sym (ap claimed_name q) ∙ install_claims c (install_reply dependencies H c)) g)
event_claim dependencies H (ReleaseCall c) e m h g = let q : Release c ≡ e = cc in absurd (clash (claimed_name e) (sym (ap claimed_name q)) g)
event_claim dependencies H CloseCall e m h g = absurd (clash (claimed_name e) (ap claimed_name (close_event (is_closed H) e h).0) g)

-- an install is the call of that claim, which was found unchanged
pub event_install : (dependencies : Dependencies) (H : History) (call : Call) (e : Event) (c : ℕ) → event_of dependencies H call ≡ Some e → installed_claim e ≡ Some c → (call ≡ InstallCall c) × (install_reply dependencies H c ≡ IsInstalled)
unfolding event_of
event_install dependencies H (EditCall edit) e c h g = absurd (clash (installed_claim e) (ap installed_claim (edit_event_edit edit (edit_reply H edit) e h)) g)
event_install dependencies H ClaimCall e c h g = absurd (clash (installed_claim e) (ap installed_claim (claim_event (least_ready dependencies H) e h).2) g)
event_install dependencies H (InstallCall d) e c h g =
    let q : install_event d (install_reply dependencies H d) ≡ e = cc in
    let r = install_installs d c (install_reply dependencies H d) (ap installed_claim q ∙ g) in
    (ap InstallCall r.0, ap (install_reply dependencies H) (sym r.0) ∙ r.1)
event_install dependencies H (ReleaseCall d) e c h g = let q : Release d ≡ e = cc in absurd (clash (installed_claim e) (sym (ap installed_claim q)) g)
event_install dependencies H CloseCall e c h g = absurd (clash (installed_claim e) (ap installed_claim (close_event (is_closed H) e h).0) g)

pub install_no_edit : (c : ℕ) (r : Installed) → edit_of (install_event c r) ≡ None
install_no_edit c IsInstalled = refl
install_no_edit c (IsStale n k) = refl

-- an edit is the call of that edit, which the log takes
pub event_edit : (dependencies : Dependencies) (H : History) (call : Call) (e : Event) (edit : Edit) → event_of dependencies H call ≡ Some e → edit_of e ≡ Some edit
    → (call ≡ EditCall edit) × (v : ℕ) × (append_answer (log_of H) edit ≡ Made v)
unfolding event_of
event_edit dependencies H (EditCall x) e edit h g =
    let q = edit_event_edit x (edit_reply H x) e h in
    let r : x ≡ edit = some_one (sym (ap edit_of q) ∙ g) in
    let s = edit_event_made x (edit_reply H x) e h in
    (ap EditCall r, s.0, ap (append_answer (log_of H)) (sym r) ∙ s.1)
  where
    some_one : {y z : Edit} → Some y ≡ Some z → y ≡ z
    some_one p = cc
event_edit dependencies H ClaimCall e edit h g = absurd (clash (edit_of e) (ap edit_of (claim_event (least_ready dependencies H) e h).2) g)
event_edit dependencies H (InstallCall d) e edit h g =
    let q : install_event d (install_reply dependencies H d) ≡ e = cc in
    absurd (clash (edit_of e) (sym (ap edit_of q) ∙ install_no_edit d (install_reply dependencies H d)) g)
event_edit dependencies H (ReleaseCall d) e edit h g = let q : Release d ≡ e = cc in absurd (clash (edit_of e) (sym (ap edit_of q)) g)
event_edit dependencies H CloseCall e edit h g = absurd (clash (edit_of e) (ap edit_of (close_event (is_closed H) e h).0) g)

-- ---- claims, installs and edits of a legal history

pub least_is_ready : (dependencies : Dependencies) (H : History) (m : Name) → least_ready dependencies H ≡ Some m → is_ready dependencies H m ≡ true
unfolding least_ready
least_is_ready dependencies H m h = (find_found (is_ready dependencies H) (names_of (library_after H)) m h).1

module _ (dependencies : Dependencies) (H : History) (l : IsLegal dependencies H) where
  pub legal_least : (c : ℕ) (m : Name) → claim_at H c ≡ Some m → least_ready dependencies (take c H) ≡ Some m
  legal_least c m h =
      let q = claim_entry H c m h in
      let f = l c q.0 q.1 in
      event_claim dependencies (take c H) f.call q.0.event m (follows_event dependencies (take c H) q.0 f) q.2

  pub legal_claim : (c : ℕ) (m : Name) → claim_at H c ≡ Some m → is_ready dependencies (take c H) m ≡ true
  legal_claim c m h = least_is_ready dependencies (take c H) m (legal_least c m h)

  pub legal_install : (p c : ℕ) (e : Entry) → slice_get H p ≡ Some e → installed_claim e.event ≡ Some c
      → (may_call (take p H) e.pass (InstallCall c) ≡ true) × (install_reply dependencies (take p H) c ≡ IsInstalled)
  legal_install p c e s g =
      let f = l p e s in
      let q = event_install dependencies (take p H) f.call e.event c (follows_event dependencies (take p H) e f) g in
      (subst (λ z. may_call (take p H) e.pass z ≡ true) q.0 f.may, q.1)

  pub legal_edit : (p : ℕ) (e : Entry) (edit : Edit) → slice_get H p ≡ Some e → edit_in e ≡ Some edit
      → (may_call (take p H) e.pass (EditCall edit) ≡ true) × (append_answer (log_of (take p H)) edit ≡ Made (suc (version_after (take p H))))
  legal_edit p e edit s g =
      let f = l p e s in
      let q = event_edit dependencies (take p H) f.call e.event edit (follows_event dependencies (take p H) e f) g in
      (subst (λ z. may_call (take p H) e.pass z ≡ true) q.0 f.may, q.2 ∙ ap Made (made_not_full (log_of (take p H)) edit q.1 q.2).1)

  version_last : (B : History) (e : Entry) → version_with (version_after B) (edit_of e.event) ≡ version_after (B ++ e ∷ [])
  version_last B e = by (edit_in e) refl
    where
      by : (o : Option Edit) → edit_in e ≡ o → version_with (version_after B) o ≡ version_after (B ++ e ∷ [])
      by None h = sym (ap length (log_none B e h))
      by (Some edit) h = let a = ap length (log_some B e edit h) in let b = length-append (log_of B) (edit ∷ []) in omega (arith, a, b)

  pub legal_version : (p : ℕ) (e : Entry) → slice_get H p ≡ Some e → e.version ≡ version_after (take (suc p) H)
  legal_version p e s = follows_version dependencies (take p H) e (l p e s) ∙ version_last (take p H) e ∙ ap version_after (sym (take_more H p e s))

  limits_to : (k : ℕ) → IsWithinLimits (log_of (take k H))
  unfolding log_of
  limits_to zero = empty_within
  limits_to (suc k) = by (slice_get H k) refl (limits_to k)
    where
      next : (e : Entry) → slice_get H k ≡ Some e → IsWithinLimits (log_of (take k H)) → (o : Option Edit) → edit_in e ≡ o → IsWithinLimits (log_of (take (suc k) H))
      next e s w None h = subst IsWithinLimits (sym (ap log_of (take_more H k e s) ∙ log_none (take k H) e h)) w
      next e s w (Some edit) h =
          subst IsWithinLimits (sym (ap log_of (take_more H k e s) ∙ log_some (take k H) e edit h))
          (made_within (log_of (take k H)) edit (suc (version_after (take k H))) (legal_edit k e edit s h).1 w)

      by : (o : Option Entry) → slice_get H k ≡ o → IsWithinLimits (log_of (take k H)) → IsWithinLimits (log_of (take (suc k) H))
      by None s w = subst (λ z. IsWithinLimits (log_of z)) (sym (take_past H k s)) w
      by (Some e) s w = next e s w (edit_in e) refl

  pub legal_limits : IsWithinLimits (log_of H)
  legal_limits = subst (λ z. IsWithinLimits (log_of z)) (take_length H) (limits_to (length H))
