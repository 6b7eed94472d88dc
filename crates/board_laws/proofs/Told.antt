-- The laws in the words of their statements.
use Rattle.std.proofs.Common.{◌≡◌, ◌≢◌, ℕ, suc, Bool, true, false, not, List, [], ◌∷◌, ◌++◌, take, slice_get, find, cond, arith, Option, Some, None, option_map, option_and_then, option_to_list, length, is_some, ◌||◌, ◌&&◌, refl, sym, ap, ◌∙◌, subst, true≢false, eqb-true, append-nil, Decides}
use Rattle.std.specs.List.{list_any, list_all}
use Rattle.std.proofs.lemmas.Bool.{and_parts, and_from, not_from_false, false_from_ne_true}
use Rattle.name_meaning.specs.Names.{Text, Name, same_name, is_among}
use Rattle.edit_log_meaning.specs.Log.{Edit, edited_name, is_present, text_of}
use Rattle.edit_log_meaning.specs.Append.{Made, append_answer}
use Rattle.module_graph_meaning.specs.Walks.{Dependencies, is_ungrounded}
use Rattle.module_graph_meaning.specs.Reach.{reach}
use Rattle.module_graph_meaning.specs.Subject.{Subject, KeepsToReach, AnswersPresent, answers_of}
use Rattle.list_laws.proofs.Members.{Member, any_none, all_at, find_found}
use Rattle.name_laws.proofs.Order.{among_member, member_among, same_sound}
use Rattle.board_meaning.specs.Events.{EditMade, Install, Entry, History, edit_of, edit_in, log_of, library_after, version_after, stamp_after}
use Rattle.board_meaning.specs.Claims.{claim_at, is_open, Input, inputs_of, inputs_by, input_names, is_claim_of, inputs_after, is_unchanged, first_changed}
use Rattle.board_meaning.specs.Standing.{installed_claim, is_edited_after, is_unedited, stands, Stands}
use Rattle.board_meaning.specs.Ready.{is_ready, least_ready}
use Rattle.board_meaning.specs.Machine.{Job, IsInstalled, IsStale, install_reply, IsVerdict, told_by, report_reply, is_by, may_call, job_after, claim_reply, IsAbsent, IsPending, is_known, installed_by}
use Rattle.board_meaning.specs.Legal.{MayFollow, IsLegal}
use Rattle.board_laws.specs.HistoryLaws.{log_with}
use Rattle.board_laws.specs.StandingLaws.{IsFirstChanged, IsToldVerdict}
use Rattle.board_laws.proofs.Histories.{log_last}
use Rattle.board_laws.proofs.Claiming.{names_are, changed_later, unedited_installed, installed_unedited, installed_unchanged}
use Rattle.board_laws.proofs.Legality.{legal_edit, event_install, follows_event, least_is_ready}
use Rattle.board_laws.proofs.Standings.{answer_now, reach_now, ready_parts}
use Rattle.edit_log_laws.proofs.Libraries.{library_ascending}
use Rattle.board_laws.proofs.Resting.{standing_reach, ready_rests}
use Rattle.board_laws.proofs.Following.{edit_leaves, install_makes}

pub entries_determine : (H : History) (e : Entry) → log_of (H ++ e ∷ []) ≡ log_with (log_of H) (edit_in e)
entries_determine H e = log_last H e ∙ with (edit_in e)
  where
    with : (o : Option Edit) → log_of H ++ option_to_list o ≡ log_with (log_of H) o
    with None = append-nil (log_of H)
    with (Some edit) = refl

pub edits_were_made : (dependencies : Dependencies) (H : History) (place : ℕ) (e : Entry) (edit : Edit) → IsLegal dependencies H → slice_get H place ≡ Some e → edit_in e ≡ Some edit
    → (append_answer (log_of (take place H)) edit ≡ Made (suc (version_after (take place H)))) × (e.pass ≡ 0)
unfolding may_call
edits_were_made dependencies H place e edit l s g = let q = legal_edit dependencies H l place e edit s g in (q.1, eqb-true e.pass 0 q.0)

standing_unedited : (dependencies : Dependencies) (H : History) (n : Name) (s : Stands dependencies H n) → is_unedited dependencies H s.claim ≡ true
unfolding is_unedited
standing_unedited dependencies H n s =
    not_from_false (list_any (is_edited_after H s.claim) (input_names (inputs_of dependencies H s.claim)))
    (any_none (is_edited_after H s.claim) (input_names (inputs_of dependencies H s.claim)) (λ x m. s.unedited x (member_among (input_names (inputs_of dependencies H s.claim)) x m)))

pub standing_answer : {Answer : Type 0} (subject : Subject Answer) → KeepsToReach subject → (H : History) (n : Name) → IsLegal subject.dependencies H → (s : Stands subject.dependencies H n)
    → subject.answer (library_after (take s.claim H)) n ≡ subject.answer (library_after H) n
standing_answer subject k H n l s =
    answer_now subject.dependencies H l subject.answer k s.claim n s.claimed (standing_unedited subject.dependencies H n s)

pub inputs_are_reach : (dependencies : Dependencies) (H : History) (n : Name) → IsLegal dependencies H → (s : Stands dependencies H n)
    → input_names (inputs_of dependencies H s.claim) ≡ reach dependencies (library_after H) n
inputs_are_reach dependencies H n l s =
    names_are dependencies H s.claim n s.claimed ∙ sym (reach_now dependencies H l s.claim n s.claimed (standing_unedited dependencies H n s))

pub standing_rests_told : (dependencies : Dependencies) (H : History) (n x : Name) → IsLegal dependencies H → stands dependencies H n ≡ true → is_among (reach dependencies (library_after H) n) x ≡ true
    → is_present (library_after H) x ≡ true → stands dependencies H x ≡ true
standing_rests_told dependencies H n x l t a p = standing_reach dependencies H l n x t (among_member (reach dependencies (library_after H) n) x a) p

pub ready_rests_told : (dependencies : Dependencies) (H : History) (n x : Name) → IsLegal dependencies H → is_ready dependencies H n ≡ true → is_among (reach dependencies (library_after H) n) x ≡ true
    → x ≢ n → is_present (library_after H) x ≡ true → stands dependencies H x ≡ true
ready_rests_told dependencies H n x l r a d p =
    ready_rests dependencies H l n x r (among_member (reach dependencies (library_after H) n) x a)
    (false_from_ne_true (same_name n x) (λ e. d (sym (same_sound n x e)))) p

pub edit_leaves_told : (dependencies : Dependencies) (H : History) (e : Entry) (edit : Edit) (n : Name) → IsLegal dependencies H → e.event ≡ EditMade edit
    → stands dependencies (H ++ e ∷ []) n ≡ (stands dependencies H n && not (is_among (reach dependencies (library_after H) n) (edited_name edit)))
edit_leaves_told dependencies H e edit n l h = edit_leaves dependencies H l e n edit (ap edit_of h) (ap installed_claim h)

pub install_makes_told : (dependencies : Dependencies) (H : History) (e : Entry) (c : ℕ) (n : Name) → IsLegal dependencies H → MayFollow dependencies H e → e.event ≡ Install c
    → stands dependencies (H ++ e ∷ []) n ≡ (stands dependencies H n || is_claim_of H n c)
unfolding may_call
install_makes_told dependencies H e c n l f h =
    let q = event_install dependencies H f.call e.event c (follows_event dependencies H e f) (ap installed_claim h) in
    install_makes dependencies H l e n c (ap edit_of h) (ap installed_claim h)
    (and_parts (is_open H c) (is_by e.pass (slice_get H c)) (subst (λ z. may_call H e.pass z ≡ true) q.0 f.may)).0 q.1

-- the first element that passes a test, with its place, in front of which none passes
found_by : {A : Type 0} (p : A → Bool) (y : A) (ys : List A) (x : A) (b : Bool)
    → (find (λ z. not (p z)) ys ≡ Some x → (i : ℕ) × (slice_get ys i ≡ Some x) × (list_all p (take i ys) ≡ true))
    → p y ≡ b → cond (not b) (Some y) (find (λ z. not (p z)) ys) ≡ Some x → (i : ℕ) × (slice_get (y ∷ ys) i ≡ Some x) × (list_all p (take i (y ∷ ys)) ≡ true)
found_by p y ys x true h t e = let q = h e in (suc q.0, q.1, and_from (p y) (list_all p (take q.0 ys)) t q.2)
found_by p y ys x false h t e = (0, e, refl)

found_place : {A : Type 0} (p : A → Bool) (xs : List A) (x : A) → find (λ y. not (p y)) xs ≡ Some x
    → (i : ℕ) × (slice_get xs i ≡ Some x) × (list_all p (take i xs) ≡ true)
found_place p [] x e = absurd (cc)
found_place p (y ∷ ys) x e = found_by p y ys x (p y) (λ h. found_place p ys x h) refl e

-- inputs of what is no claim are none
claim_or_none : (dependencies : Dependencies) (H : History) (c : ℕ) (x : Input) → Member x (inputs_of dependencies H c) → (m : Name) × (claim_at H c ≡ Some m)
unfolding inputs_of
claim_or_none dependencies H c x i = by (claim_at H c) refl i
  where
    by : (o : Option Name) → claim_at H c ≡ o → Member x (inputs_by dependencies (take c H) o) → (m : Name) × (claim_at H c ≡ Some m)
    by None e k = absurd k
    by (Some m) e k = (m, e)

pub stale_tells : (dependencies : Dependencies) (H : History) (c : ℕ) (n : Name) (newer : ℕ) → install_reply dependencies H c ≡ IsStale n newer → IsFirstChanged dependencies H c n newer
unfolding install_reply first_changed
stale_tells dependencies H c n newer r = by (find (λ (input : Input). not (is_unchanged H input)) (inputs_of dependencies H c)) refl r
  where
    by : (o : Option Input) → find (λ (input : Input). not (is_unchanged H input)) (inputs_of dependencies H c) ≡ o
        → installed_by (option_map (λ (input : Input). record { name = input.name; stamp = stamp_after H input.name }) o) ≡ IsStale n newer
        → IsFirstChanged dependencies H c n newer
    by None e g = absurd (cc)
    by (Some x) e g =
        let at = found_place (is_unchanged H) (inputs_of dependencies H c) x e in
        let found = find_found (λ (input : Input). not (is_unchanged H input)) (inputs_of dependencies H c) x e in
        let claim = claim_or_none dependencies H c x found.0 in
        let a : x.name ≡ n = cc in
        let b : stamp_after H x.name ≡ newer = cc in
        let later = changed_later dependencies H c claim.0 claim.1 x found.0 found.1 in
        record {
          place = at.0;
          input = x;
          stands_there = at.1;
          named = a;
          present = sym b ∙ ap (stamp_after H) a;
          greater = omega (arith, b, later);
          first = at.2;
        }

pub unchanged_decides : (dependencies : Dependencies) (H : History) (c : ℕ) → Decides (list_all (is_unchanged H) (inputs_of dependencies H c)) (install_reply dependencies H c ≡ IsInstalled)
unfolding install_reply first_changed
unchanged_decides dependencies H c = (λ all. by (find (λ (input : Input). not (is_unchanged H input)) (inputs_of dependencies H c)) refl all, installed_unchanged dependencies H c)
  where
    by : (o : Option Input) → find (λ (input : Input). not (is_unchanged H input)) (inputs_of dependencies H c) ≡ o → list_all (is_unchanged H) (inputs_of dependencies H c) ≡ true
        → installed_by (option_map (λ (input : Input). record { name = input.name; stamp = stamp_after H input.name }) o) ≡ IsInstalled
    by None e all = refl
    by (Some x) e all =
        let found = find_found (λ (input : Input). not (is_unchanged H input)) (inputs_of dependencies H c) x e in
        absurd (true≢false (sym found.1 ∙ ap not (all_at (is_unchanged H) (inputs_of dependencies H c) x all found.0)))

no_inputs : (dependencies : Dependencies) (H : History) (c : ℕ) → claim_at H c ≡ None → inputs_of dependencies H c ≡ []
unfolding inputs_of
no_inputs dependencies H c e = ap (inputs_by dependencies (take c H)) e

-- without a claim there are no inputs
no_claim_decides : (dependencies : Dependencies) (H : History) (c : ℕ) → claim_at H c ≡ None → Decides (is_unedited dependencies H c) (install_reply dependencies H c ≡ IsInstalled)
unfolding is_unedited install_reply first_changed
no_claim_decides dependencies H c e =
    let none = no_inputs dependencies H c e in (
      λ u. ap (λ (inputs : List Input). installed_by (first_changed H inputs)) none,
      λ r. ap (λ (inputs : List Input). not (list_any (is_edited_after H c) (input_names inputs))) none,
    )

pub installed_decides : (dependencies : Dependencies) (H : History) (c : ℕ) → Decides (is_unedited dependencies H c) (install_reply dependencies H c ≡ IsInstalled)
installed_decides dependencies H c = by (claim_at H c) refl
  where
    by : (o : Option Name) → claim_at H c ≡ o → Decides (is_unedited dependencies H c) (install_reply dependencies H c ≡ IsInstalled)
    by None e = no_claim_decides dependencies H c e
    by (Some m) e = (unedited_installed dependencies H c m e, installed_unedited dependencies H c m e)

pub report_tells : {Answer : Type 0} (subject : Subject Answer) (H : History) (n : Name) (answer : Answer) (version : ℕ)
    → (report_reply subject H n ≡ IsVerdict answer version → IsToldVerdict subject H n answer version)
    × (IsToldVerdict subject H n answer version → report_reply subject H n ≡ IsVerdict answer version)
unfolding report_reply
report_tells {Answer = Answer} subject H n answer version = (
  λ r. by (is_present (library_after H) n) (is_known subject.dependencies H n) (subject.answer (library_after H) n) refl refl refl r,
  λ t. ap (λ (b : Bool). told_by (version_after H) b (is_known subject.dependencies H n) (subject.answer (library_after H) n)) t.present
      ∙ ap (λ (b : Bool). told_by (version_after H) true b (subject.answer (library_after H) n)) t.known
      ∙ ap (λ (o : Option Answer). told_by (version_after H) true true o) t.told
      ∙ ap (λ (v : ℕ). IsVerdict answer v) (sym t.now),
)
  where
    by : (present known : Bool) (o : Option Answer) → is_present (library_after H) n ≡ present → is_known subject.dependencies H n ≡ known → subject.answer (library_after H) n ≡ o
        → told_by (version_after H) present known o ≡ IsVerdict answer version → IsToldVerdict subject H n answer version
    by false known o p k a e = absurd (cc)
    by true false o p k a e = absurd (cc)
    by true true None p k a e = absurd (cc)
    by true true (Some x) p k a e =
        let same : x ≡ answer = cc in
        let now : version_after H ≡ version = cc in
        record { present = p; known = k; told = a ∙ ap Some same; now = sym now }

-- ---- replies to claims and reports

job_of_present : {Answer : Type 0} (subject : Subject Answer) (H : History) (n : Name) → is_present (library_after H) n ≡ true → is_some (job_after subject H n) ≡ true
unfolding job_after
job_of_present {Answer = Answer} subject H n p = by (text_of (library_after H) n) p
  where
    by : (o : Option Text) → is_some o ≡ true → is_some {T = Job Answer} (option_map (λ (text : Text). record { claim = length H; name = n; text = text; inputs = inputs_after subject.dependencies H n; answers = answers_of subject (library_after H) n }) o) ≡ true
    by None e = e
    by (Some t) e = refl

pub claim_gives_job : {Answer : Type 0} (subject : Subject Answer) (H : History) → is_some (claim_reply subject H) ≡ is_some (least_ready subject.dependencies H)
claim_gives_job {Answer = Answer} subject H = by (least_ready subject.dependencies H) refl
  where
    by : (o : Option Name) → least_ready subject.dependencies H ≡ o → is_some (option_and_then (job_after subject H) o) ≡ is_some o
    by None e = refl
    by (Some n) e =
        job_of_present subject H n
        (and_parts (is_present (library_after H) n) (not (is_ungrounded subject.dependencies (library_after H) n)) (ready_parts subject.dependencies H n (least_is_ready subject.dependencies H n e)).grounded).0

absent_told : {Answer : Type 0} (subject : Subject Answer) (H : History) (n : Name)
    → Decides (not (is_present (library_after H) n)) (report_reply subject H n ≡ IsAbsent (version_after H))
unfolding report_reply
absent_told {Answer = Answer} subject H n = by (is_present (library_after H) n) (is_known subject.dependencies H n) (subject.answer (library_after H) n)
  where
    by : (present known : Bool) (o : Option Answer) → Decides (not present) (told_by (version_after H) present known o ≡ IsAbsent (version_after H))
    by false known o = (λ h. refl, λ h. refl)
    by true false o = (λ h. absurd (true≢false (sym h)), λ h. absurd (cc))
    by true true None = (λ h. absurd (true≢false (sym h)), λ h. absurd (cc))
    by true true (Some x) = (λ h. absurd (true≢false (sym h)), λ h. absurd (cc))

pending_told : {Answer : Type 0} (subject : Subject Answer) (H : History) (n : Name) → AnswersPresent subject
    → Decides (is_present (library_after H) n && not (is_known subject.dependencies H n)) (report_reply subject H n ≡ IsPending (version_after H))
unfolding report_reply
pending_told {Answer = Answer} subject H n a =
    by (is_known subject.dependencies H n) (subject.answer (library_after H) n) (is_present (library_after H) n) (a (library_after H) n (library_ascending (log_of H)))
  where
    by : (known : Bool) (o : Option Answer) (present : Bool) → is_some o ≡ present → Decides (present && not known) (told_by (version_after H) present known o ≡ IsPending (version_after H))
    by known None true e = absurd (true≢false (sym e))
    by known o false e = (λ h. absurd (true≢false (sym h)), λ h. absurd (cc))
    by true (Some x) true e = (λ h. absurd (true≢false (sym h)), λ h. absurd (cc))
    by false (Some x) true e = (λ h. refl, λ h. refl)

pub report_tells_others : {Answer : Type 0} (subject : Subject Answer) (H : History) (n : Name)
    → Decides (not (is_present (library_after H) n)) (report_reply subject H n ≡ IsAbsent (version_after H))
    × (AnswersPresent subject
    → Decides (is_present (library_after H) n && not (is_known subject.dependencies H n)) (report_reply subject H n ≡ IsPending (version_after H)))
report_tells_others subject H n = (absent_told subject H n, pending_told subject H n)
