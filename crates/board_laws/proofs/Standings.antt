-- Which verdicts stand in a legal history, before and after one more entry.
use Rattle.std.proofs.Common.{◌≡◌, ℕ, zero, suc, ◌<◌, Bool, true, false, not, List, [], ◌∷◌, ◌++◌, length, take, drop, slice_get, filter_map, Option, Some, is_some, ◌||◌, ◌&&◌, ⊎_elim, refl, sym, ap, ◌∙◌, subst, true≢false, Decides}
use Rattle.std.specs.List.{list_any}
use Rattle.std.proofs.lemmas.Bool.{and_parts, and_from, not_from_false}
use Rattle.name_meaning.specs.Names.{Name}
use Rattle.edit_log_meaning.specs.Log.{Library, is_present}
use Rattle.module_graph_meaning.specs.Walks.{Dependencies, direct, is_grounded}
use Rattle.module_graph_meaning.specs.Reach.{reach}
use Rattle.module_graph_meaning.specs.Subject.{KeepsToReach}
use Rattle.list_laws.proofs.Members.{Member, any_found, any_of, any_not, any_none, all_at, in_option, option_first, option_rest}
use Rattle.name_laws.proofs.Order.{among_member, member_among}
use Rattle.edit_log_laws.proofs.Libraries.{library_ascending}
use Rattle.module_graph_laws.proofs.Agreement.{reach_same, grounded_same}
use Rattle.board_meaning.specs.Events.{Event, EditMade, Claim, Install, Stale, Release, Close, Entry, History, log_of, library_after}
use Rattle.board_meaning.specs.Claims.{claim_at, is_open, is_ended, inputs_of, input_names, is_claim_of, has_current_claim}
use Rattle.board_meaning.specs.Standing.{installed_claim, installed_claims, is_edited_after, is_unedited, supports, stands, Stands}
use Rattle.board_meaning.specs.Ready.{dependencies_stand, is_ready, is_closed}
use Rattle.board_meaning.specs.Machine.{IsInstalled, install_reply, is_by, may_call}
use Rattle.board_meaning.specs.Legal.{IsLegal}
use Rattle.list_laws.proofs.Places.{place_within}
use Rattle.board_laws.proofs.Claiming.{claim_within, claim_front, is_name_some, some_is_name, agrees_since}
use Rattle.board_laws.proofs.Legality.{legal_claim, legal_install}
use Rattle.list_laws.proofs.Options.{some_of}

pub installed_is : (e : Event) (c : ℕ) → installed_claim e ≡ Some c → e ≡ Install c
installed_is (EditMade edit) c h = absurd (cc)
installed_is (Claim n) c h = absurd (cc)
installed_is (Install d) c h = let q : d ≡ c = cc in ap Install q
installed_is (Stale d n k) c h = absurd (cc)
installed_is (Release d) c h = absurd (cc)
installed_is Close c h = absurd (cc)

-- an install in a legal history was replied to as installed
pub installed_entry : (dependencies : Dependencies) (H : History) → IsLegal dependencies H → (p c : ℕ) (e : Entry) → slice_get H p ≡ Some e → e.event ≡ Install c
    → install_reply dependencies (take p H) c ≡ IsInstalled
installed_entry dependencies H l p c e s g = (legal_install dependencies H l p c e s (ap installed_claim g)).1

-- ---- members of what a list gives, with their places

pub in_filter_map : {A B : Type 0} (f : A → Option B) (xs : List A) (y : B) → Member y (filter_map f xs) → (i : ℕ) × (x : A) × (slice_get xs i ≡ Some x) × (f x ≡ Some y)
in_filter_map f [] y m = absurd m
in_filter_map f (x ∷ xs) y m =
    ⊎_elim (λ e. (0, x, refl, e)) (λ n. let q = in_filter_map f xs y n in (suc q.0, q.1, q.2, q.3)) (in_option (f x) (filter_map f xs) y m)

pub filter_map_in : {A B : Type 0} (f : A → Option B) (xs : List A) (i : ℕ) (x : A) (y : B) → slice_get xs i ≡ Some x → f x ≡ Some y → Member y (filter_map f xs)
filter_map_in f [] i x y s e = absurd (cc)
filter_map_in f (z ∷ xs) zero x y s e = let q : z ≡ x = cc in option_first (f z) (filter_map f xs) y (ap f q ∙ e)
filter_map_in f (z ∷ xs) (suc i) x y s e = option_rest (f z) (filter_map f xs) y (filter_map_in f xs i x y s e)

-- ---- the test decides what it means

pub stands_decides : (dependencies : Dependencies) (H : History) (n : Name) → Decides (stands dependencies H n) (Stands dependencies H n)
unfolding stands installed_claims is_unedited
stands_decides dependencies H n = (
  λ t.
      let q = any_found (supports dependencies H n) (installed_claims H) t in
      let r = in_filter_map (λ (entry : Entry). installed_claim entry.event) H q.0 q.1 in
      let s = and_parts (is_claim_of H n q.0) (is_unedited dependencies H q.0) q.2 in
      record {
        claim = q.0;
        install = r.0;
        entry = r.1;
        claimed = is_name_some n (claim_at H q.0) s.0;
        found = r.2;
        installed = installed_is r.1.event q.0 r.3;
        unedited = λ x a. any_not (is_edited_after H q.0) (input_names (inputs_of dependencies H q.0)) x (not_true (list_any (is_edited_after H q.0) (input_names (inputs_of dependencies H q.0))) s.1) (among_member (input_names (inputs_of dependencies H q.0)) x a);
      },
  λ s. any_of (supports dependencies H n) (installed_claims H) s.claim
      (filter_map_in (λ (entry : Entry). installed_claim entry.event) H s.install s.entry s.claim s.found (ap installed_claim s.installed))
      (and_from (is_claim_of H n s.claim) (is_unedited dependencies H s.claim) (some_is_name n (claim_at H s.claim) s.claimed)
      (not_from_false (list_any (is_edited_after H s.claim) (input_names (inputs_of dependencies H s.claim)))
      (any_none (is_edited_after H s.claim) (input_names (inputs_of dependencies H s.claim)) (λ x m. s.unedited x (member_among (input_names (inputs_of dependencies H s.claim)) x m))))),
)
  where
    not_true : (b : Bool) → not b ≡ true → b ≡ false
    not_true true h = absurd (true≢false (sym h))
    not_true false h = refl

module _ (dependencies : Dependencies) (H : History) where
  -- a standing name with its claim
  abbrev pub Supported : Name → Type 0
  Supported n = (c : ℕ) × Member c (installed_claims H) × (claim_at H c ≡ Some n) × (is_unedited dependencies H c ≡ true)

  pub stands_by : (n : Name) → stands dependencies H n ≡ true → Supported n
  unfolding stands
  stands_by n t =
      let q = any_found (supports dependencies H n) (installed_claims H) t in
      let s = and_parts (is_claim_of H n q.0) (is_unedited dependencies H q.0) q.2 in
      (q.0, q.1, is_name_some n (claim_at H q.0) s.0, s.1)

  pub by_stands : (n : Name) → Supported n → stands dependencies H n ≡ true
  unfolding stands
  by_stands n q =
      any_of (supports dependencies H n) (installed_claims H) q.0 q.1
      (and_from (is_claim_of H n q.0) (is_unedited dependencies H q.0) (some_is_name n (claim_at H q.0) q.2) q.3)

-- ---- readiness taken apart and put together

pub record ReadyParts (dependencies : Dependencies) (H : History) (n : Name) : Type 0 where
  pub grounded : is_grounded dependencies (library_after H) n ≡ true
  pub stands_not : not (stands dependencies H n) ≡ true
  pub rests : dependencies_stand dependencies H n ≡ true
  pub claimed_not : not (has_current_claim dependencies H n) ≡ true
  pub closed_not : not (is_closed H) ≡ true

pub ready_parts : (dependencies : Dependencies) (H : History) (n : Name) → is_ready dependencies H n ≡ true → ReadyParts dependencies H n
unfolding is_ready
ready_parts dependencies H n h =
    let a = and_parts (is_grounded dependencies (library_after H) n && not (stands dependencies H n) && dependencies_stand dependencies H n && not (has_current_claim dependencies H n)) (not (is_closed H)) h in
    let b = and_parts (is_grounded dependencies (library_after H) n && not (stands dependencies H n) && dependencies_stand dependencies H n) (not (has_current_claim dependencies H n)) a.0 in
    let c = and_parts (is_grounded dependencies (library_after H) n && not (stands dependencies H n)) (dependencies_stand dependencies H n) b.0 in
    let d = and_parts (is_grounded dependencies (library_after H) n) (not (stands dependencies H n)) c.0 in
    record { grounded = d.0; stands_not = d.1; rests = c.1; claimed_not = b.1; closed_not = a.1 }

pub ready_from : (dependencies : Dependencies) (H : History) (n : Name) → ReadyParts dependencies H n → is_ready dependencies H n ≡ true
unfolding is_ready
ready_from dependencies H n r =
    and_from (is_grounded dependencies (library_after H) n && not (stands dependencies H n) && dependencies_stand dependencies H n && not (has_current_claim dependencies H n)) (not (is_closed H))
    (and_from (is_grounded dependencies (library_after H) n && not (stands dependencies H n) && dependencies_stand dependencies H n) (not (has_current_claim dependencies H n))
    (and_from (is_grounded dependencies (library_after H) n && not (stands dependencies H n)) (dependencies_stand dependencies H n)
    (and_from (is_grounded dependencies (library_after H) n) (not (stands dependencies H n)) r.grounded r.stands_not) r.rests) r.claimed_not) r.closed_not

-- a present dependency of a name whose dependencies stand
pub rests_on : (dependencies : Dependencies) (H : History) (n d : Name) → dependencies_stand dependencies H n ≡ true → Member d (direct dependencies (library_after H) n) → is_present (library_after H) d ≡ true → stands dependencies H d ≡ true
unfolding dependencies_stand
rests_on dependencies H n d h m p =
    by (is_present (library_after H) d) (stands dependencies H d) p (all_at (λ (other : Name). not (is_present (library_after H) other) || stands dependencies H other) (direct dependencies (library_after H) n) d h m)
  where
    by : (a b : Bool) → a ≡ true → (not a || b) ≡ true → b ≡ true
    by true b e f = f
    by false b e f = absurd (true≢false (sym e))

-- ---- what stands, stands on

module _ (dependencies : Dependencies) (H : History) (l : IsLegal dependencies H) where
  -- the claims that were installed are claims of the history
  pub installed_open : (c : ℕ) → Member c (installed_claims H) → (p : ℕ) × (p < length H) × (is_open (take p H) c ≡ true) × (install_reply dependencies (take p H) c ≡ IsInstalled)
  unfolding installed_claims may_call
  installed_open c m =
      let q = in_filter_map (λ (entry : Entry). installed_claim entry.event) H c m in
      let r = legal_install dependencies H l q.0 c q.1 q.2 q.3 in
      (q.0, place_within H q.0 q.1 q.2, (and_parts (is_open (take q.0 H) c) (is_by q.1.pass (slice_get (take q.0 H) c)) r.0).0, r.1)

  pub installed_claimed : (c : ℕ) → Member c (installed_claims H) → (n : Name) × (claim_at H c ≡ Some n)
  unfolding is_open
  installed_claimed c m =
      let q = installed_open c m in
      let s = some_of (claim_at (take q.0 H) c) (and_parts (is_some (claim_at (take q.0 H) c)) (not (is_ended (take q.0 H) c)) q.2).0 in
      (s.0, subst (λ z. claim_at z c ≡ Some s.0) (take_append_drop q.0) (claim_front (take q.0 H) (drop q.0 H) c (claim_within (take q.0 H) c s.0 s.1) ∙ s.1))
    where
      take_append_drop : (p : ℕ) → take p H ++ drop p H ≡ H
      take_append_drop p = whole p H
        where
          whole : (i : ℕ) (xs : History) → take i xs ++ drop i xs ≡ xs
          whole zero xs = refl
          whole (suc i) [] = refl
          whole (suc i) (x ∷ xs) = ap (λ z. x ∷ z) (whole i xs)

  -- a standing name was grounded at its claim, and its reach is as it was
  pub grounded_then : (c : ℕ) (n : Name) → claim_at H c ≡ Some n → is_grounded dependencies (library_after (take c H)) n ≡ true
  grounded_then c n h = (ready_parts dependencies (take c H) n (legal_claim dependencies H l c n h)).grounded

  pub grounded_now : (c : ℕ) (n : Name) → claim_at H c ≡ Some n → is_unedited dependencies H c ≡ true → is_grounded dependencies (library_after H) n ≡ true
  grounded_now c n h u = grounded_same dependencies (library_after (take c H)) (library_after H) n (agrees_since dependencies H c n h u) ∙ grounded_then c n h

  pub reach_now : (c : ℕ) (n : Name) → claim_at H c ≡ Some n → is_unedited dependencies H c ≡ true → reach dependencies (library_after H) n ≡ reach dependencies (library_after (take c H)) n
  reach_now c n h u = reach_same dependencies (library_after (take c H)) (library_after H) n (agrees_since dependencies H c n h u)

  pub standing_grounded : (n : Name) → stands dependencies H n ≡ true → is_grounded dependencies (library_after H) n ≡ true
  standing_grounded n t = let q = stands_by dependencies H n t in grounded_now q.0 n q.2 q.3

  -- the answer at the claim is the present one
  pub answer_now : {Answer : Type 0} (answer : Library → Name → Option Answer) → KeepsToReach (record { dependencies = dependencies; answer = answer })
      → (c : ℕ) (n : Name) → claim_at H c ≡ Some n → is_unedited dependencies H c ≡ true → answer (library_after (take c H)) n ≡ answer (library_after H) n
  answer_now answer k c n h u =
      k (library_after (take c H)) (library_after H) n (library_ascending (log_of (take c H))) (library_ascending (log_of H)) (grounded_then c n h) (agrees_since dependencies H c n h u)
