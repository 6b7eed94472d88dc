-- Current claims of a legal history, before and after one more entry.
use Rattle.std.proofs.Common.{◌≡◌, ℕ, suc, ◌<◌, ◌≤◌, true, false, not, [], ◌∷◌, ◌++◌, length, take, drop, Some, is_some, ◌||◌, ◌&&◌, ◌⊎◌, inl, inr, ⊎_elim, refl, sym, ap, ◌∙◌, subst, true≢false, arith}
use Rattle.std.specs.List.{list_all}
use Rattle.std.proofs.Math.Bool.{or-false}
use Rattle.std.proofs.lemmas.Bool.{and_parts, and_from, not_from_false, not-true, or_parts, or_from}
use Rattle.std.proofs.lemmas.List.Folds.{list_any-append}
use Rattle.name_meaning.specs.Names.{Name}
use Rattle.module_graph_meaning.specs.Walks.{Dependencies, is_grounded}
use Rattle.module_graph_meaning.specs.Reach.{reach}
use Rattle.list_laws.proofs.Members.{Member, any_found, in_filter}
use Rattle.list_laws.proofs.Places.{get_last, get_more, take_length}
use Rattle.board_meaning.specs.Events.{Claim, Entry, History, edit_in, library_after}
use Rattle.board_meaning.specs.Claims.{claimed_name, claim_at, ends_claim, is_ended, is_open, claims_from, open_claims, inputs_of, is_unchanged, is_claim_of, has_current_claim}
use Rattle.board_meaning.specs.Standing.{is_edit_of, is_edited, stands}
use Rattle.board_meaning.specs.Legal.{IsLegal}
use Rattle.board_laws.proofs.Claiming.{claim_entry, claim_found, claim_within, claim_front, is_name_some, installed_unedited, unedited_from}
use Rattle.board_laws.proofs.Earlier.{current, claim_before, unedited_before, open_before}
use Rattle.board_laws.proofs.Legality.{legal_claim}
use Rattle.board_laws.proofs.Standings.{ready_parts, grounded_now, reach_now}
use Rattle.board_laws.proofs.Following.{unedited_more, unedited_less}
use Rattle.board_laws.proofs.Told.{unchanged_decides}
use Rattle.board_laws.proofs.Rising.{stood_not}
use Rattle.board_laws.proofs.Pointing.{not_yet_ended}
use Rattle.verdict_board.specs.Stages.{IsCurrent}

pub ended_more : (H : History) (e : Entry) (c : ℕ) → is_ended (H ++ e ∷ []) c ≡ (is_ended H c || ends_claim c e.event)
ended_more H e c =
    list_any-append (λ (entry : Entry). ends_claim c entry.event) H (e ∷ []) ∙ ap (λ b. is_ended H c || b) (or-false (ends_claim c e.event))

pub open_parts : (H : History) (c : ℕ) → is_open H c ≡ true → (is_some (claim_at H c) ≡ true) × (is_ended H c ≡ false)
unfolding is_open
open_parts H c o = let q = and_parts (is_some (claim_at H c)) (not (is_ended H c)) o in (q.0, not-true (is_ended H c) q.1)

pub open_from : (H : History) (c : ℕ) → is_some (claim_at H c) ≡ true → is_ended H c ≡ false → is_open H c ≡ true
unfolding is_open
open_from H c s n = and_from (is_some (claim_at H c)) (not (is_ended H c)) s (not_from_false (is_ended H c) n)

-- a claim after one more entry is one before it, or that entry
pub claim_more : (H : History) (e : Entry) (c : ℕ) (n : Name) → claim_at (H ++ e ∷ []) c ≡ Some n → (claim_at H c ≡ Some n) ⊎ ((c ≡ length H) × (claimed_name e.event ≡ Some n))
claim_more H e c n h =
    let q = claim_entry (H ++ e ∷ []) c n h in
    ⊎_elim (λ g. inl (claim_found H c q.0 n g q.2)) (λ g. inr (g.0, ap (λ (z : Entry). claimed_name z.event) g.1 ∙ q.2)) (get_more H e q.0 c q.1)

module _ (dependencies : Dependencies) (H : History) (e : Entry) where
  -- a current claim stays current, where the entry neither ends it nor is an edit of its reach
  pub current_more : (n : Name) (c : ℕ) → IsCurrent dependencies H n c → ends_claim c e.event ≡ false
      → ((x : Name) → Member x (reach dependencies (library_after (take c H)) n) → is_edit_of x (edit_in e) ≡ false) → IsCurrent dependencies (H ++ e ∷ []) n c
  current_more n c k f g = record {
    claimed = at;
    opened = open_from (H ++ e ∷ []) c (ap is_some at) (ended_more H e c ∙ or_from (is_ended H c) (ends_claim c e.event) (open_parts H c k.opened).1 f);
    unedited = unedited_more dependencies H e c n k.claimed k.unedited g;
  }
    where
      at : claim_at (H ++ e ∷ []) c ≡ Some n
      at = claim_front H (e ∷ []) c (claim_within H c n k.claimed) ∙ k.claimed

  -- what was claimed before the entry and is current after it was current before it
  pub current_less : (n : Name) (c : ℕ) → IsCurrent dependencies (H ++ e ∷ []) n c → claim_at H c ≡ Some n
      → IsCurrent dependencies H n c × (ends_claim c e.event ≡ false) × ((x : Name) → Member x (reach dependencies (library_after (take c H)) n) → is_edit_of x (edit_in e) ≡ false)
  current_less n c k at =
      let u = unedited_less dependencies H e c n at k.unedited in
      let o = or_parts (is_ended H c) (ends_claim c e.event) (sym (ended_more H e c) ∙ (open_parts (H ++ e ∷ []) c k.opened).1) in
      (record { claimed = at; opened = open_from H c (ap is_some at) o.0; unedited = u.0 }, o.1, u.1)

module _ (dependencies : Dependencies) (H : History) (l : IsLegal dependencies H) where
  pub current_grounded : (n : Name) (c : ℕ) → IsCurrent dependencies H n c → is_grounded dependencies (library_after H) n ≡ true
  current_grounded n c k = grounded_now dependencies H l c n k.claimed k.unedited

  pub current_reach : (n : Name) (c : ℕ) → IsCurrent dependencies H n c → reach dependencies (library_after H) n ≡ reach dependencies (library_after (take c H)) n
  current_reach n c k = reach_now dependencies H l c n k.claimed k.unedited

  -- a name with a current claim does not stand
  pub current_stands_not : (n : Name) (c : ℕ) → IsCurrent dependencies H n c → stands dependencies H n ≡ false
  current_stands_not n c k = stood_not dependencies H l c n k.claimed k.opened k.unedited

  -- the later of two current claims would not have been made
  later_clash : (n : Name) (c d : ℕ) → IsCurrent dependencies H n c → IsCurrent dependencies H n d → c < d → ⊥
  later_clash n c d k m less =
      true≢false (sym (current dependencies (take d H) c n
      (claim_before dependencies H c d n k.claimed less within)
      (open_before dependencies H c d (length H) n k.claimed less within (omega arith) (subst (λ z. is_open z c ≡ true) (sym (take_length H)) k.opened))
      (unedited_before dependencies H c d n k.claimed less within k.unedited))
      ∙ not-true (has_current_claim dependencies (take d H) n) (ready_parts dependencies (take d H) n (legal_claim dependencies H l d n m.claimed)).claimed_not)
    where
      within : d ≤ length H
      within = let w = claim_within H d n m.claimed in omega (arith, w)

  pub one_current : (n : Name) (c d : ℕ) → IsCurrent dependencies H n c → IsCurrent dependencies H n d → c ≡ d
  one_current n c d k m = ⊎_elim (λ less. absurd (later_clash n c d k m less)) (λ r. ⊎_elim (λ more. absurd (later_clash n d c m k more)) (λ same. same) r) (order c d)
    where
      order : (i j : ℕ) → (i < j) ⊎ ((j < i) ⊎ (i ≡ j))
      order i j = grind arith

  -- the test of current claims
  pub current_told : (n : Name) (c : ℕ) → IsCurrent dependencies H n c → has_current_claim dependencies H n ≡ true
  current_told n c k = current dependencies H c n k.claimed k.opened k.unedited

  pub told_current : (n : Name) → has_current_claim dependencies H n ≡ true → (c : ℕ) × IsCurrent dependencies H n c
  unfolding has_current_claim
  told_current n h =
      let q = any_found (λ (place : ℕ). is_claim_of H n place && list_all (is_unchanged H) (inputs_of dependencies H place)) (open_claims H) h in
      let p = and_parts (is_claim_of H n q.0) (list_all (is_unchanged H) (inputs_of dependencies H q.0)) q.2 in
      let at = is_name_some n (claim_at H q.0) p.0 in
      (q.0, record { claimed = at; opened = opened q.0 q.1; unedited = installed_unedited dependencies H q.0 n at ((unchanged_decides dependencies H q.0).0 p.1) })
    where
      opened : (c : ℕ) → Member c (open_claims H) → is_open H c ≡ true
      opened c m = (in_filter (is_open H) (claims_from 0 H) c m).1

  -- the claim that an entry makes is current
  pub new_current : (e : Entry) (n : Name) → e.event ≡ Claim n → IsCurrent dependencies (H ++ e ∷ []) n (length H)
  unfolding is_edited
  new_current e n h = record {
    claimed = at;
    opened = open_from (H ++ e ∷ []) (length H) (ap is_some at) (ended_more H e (length H) ∙ or_from (is_ended H (length H)) (ends_claim (length H) e.event) (not_yet_ended dependencies H l) (ap (ends_claim (length H)) h));
    unedited = unedited_from dependencies (H ++ e ∷ []) (length H) n at (λ x m. ap (λ (z : History). is_edited z x) past);
  }
    where
      at : claim_at (H ++ e ∷ []) (length H) ≡ Some n
      at = claim_found (H ++ e ∷ []) (length H) e n (get_last H e) (ap claimed_name h)

      past : drop (suc (length H)) (H ++ e ∷ []) ≡ []
      past = behind H
        where
          behind : (K : History) → drop (suc (length K)) (K ++ e ∷ []) ≡ []
          behind [] = refl
          behind (y ∷ K) = behind K
