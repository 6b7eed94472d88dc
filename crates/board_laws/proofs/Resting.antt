-- Standing names rest on standing names.
use Rattle.std.proofs.Common.{◌≡◌, ℕ, suc, ◌<◌, Bool, true, false, not, List, ◌++◌, take, drop, slice_get, filter, Some, is_some, ◌||◌, ⊎_elim, sym, ap, ◌∙◌, subst, true≢false, arith, take-append-drop}
use Rattle.std.proofs.lemmas.Bool.{cases_Bool, or_cases, or_from, or_left, or_right}
use Rattle.name_meaning.specs.Names.{Name, same_name}
use Rattle.edit_log_meaning.specs.Log.{text_of, is_present}
use Rattle.module_graph_meaning.specs.Walks.{Dependencies, direct}
use Rattle.module_graph_meaning.specs.Reach.{reach}
use Rattle.list_laws.proofs.Members.{Member, append_left, in_filter, filter_in}
use Rattle.name_laws.proofs.Order.{same_sound, same_itself}
use Rattle.module_graph_laws.proofs.Walking.{depends_present}
use Rattle.module_graph_laws.proofs.Reaching.{reach_closed, reach_first, reach_least}
use Rattle.module_graph_laws.proofs.Agreement.{direct_same}
use Rattle.board_meaning.specs.Events.{Entry, History, library_after}
use Rattle.board_meaning.specs.Claims.{claimed_name, claim_at}
use Rattle.board_meaning.specs.Standing.{installed_claim, installed_claims, is_edited, is_edited_after, is_unedited, stands}
use Rattle.board_meaning.specs.Ready.{is_ready}
use Rattle.board_meaning.specs.Legal.{IsLegal}
use Rattle.list_laws.proofs.Places.{take_take, drop_parts, drop_here, length_take}
use Rattle.board_laws.proofs.Histories.{edited_append}
use Rattle.board_laws.proofs.Claiming.{claim_entry, claim_within, claim_front, since_claim, text_since, unedited_input, unedited_from}
use Rattle.board_laws.proofs.Legality.{legal_claim, legal_front}
use Rattle.board_laws.proofs.Standings.{Supported, stands_by, by_stands, ready_parts, rests_on, reach_now}
use Rattle.std.proofs.lemmas.List.Elements.{filter_map-append}

pub installed_append : (H K : History) → installed_claims (H ++ K) ≡ installed_claims H ++ installed_claims K
unfolding installed_claims
installed_append H K = filter_map-append (λ (entry : Entry). installed_claim entry.event) H K

module _ (dependencies : Dependencies) (H : History) (l : IsLegal dependencies H) where
  legal_before : (c : ℕ) → IsLegal dependencies (take c H)
  legal_before c = legal_front dependencies (take c H) (drop c H) (subst (IsLegal dependencies) (sym (take-append-drop c H)) l)

  -- what stood at a claim, and is in its reach, stands while the claim's inputs are not edited
  pub stands_later : (c : ℕ) (n d : Name) → claim_at H c ≡ Some n → is_unedited dependencies H c ≡ true → Member d (reach dependencies (library_after (take c H)) n)
      → stands dependencies (take c H) d ≡ true → stands dependencies H d ≡ true
  stands_later c n d h u m t = by_stands dependencies H d (b, still, claimed, unedited_from dependencies H b d claimed kept)
    where
      q : Supported dependencies (take c H) d
      q = stands_by dependencies (take c H) d t

      b : ℕ
      b = q.0

      within : b < c
      within = let e = claim_within (take c H) b d q.2 in let f = length_take H c (let g = claim_within H c n h in omega (arith, g)) in omega (arith, e, f)

      still : Member b (installed_claims H)
      still = subst (Member b) (sym (installed_append (take c H) (drop c H)) ∙ ap installed_claims (take-append-drop c H)) (append_left (installed_claims (take c H)) (installed_claims (drop c H)) b q.1)

      claimed : claim_at H b ≡ Some d
      claimed = ap (λ z. claim_at z b) (sym (take-append-drop c H)) ∙ claim_front (take c H) (drop c H) b (claim_within (take c H) b d q.2) ∙ q.2

      before : take b (take c H) ≡ take b H
      before = take_take H b c (omega (arith, within))

      -- the reach of d is within that of n
      inside : (x : Name) → Member x (reach dependencies (library_after (take b H)) d) → Member x (reach dependencies (library_after (take c H)) n)
      inside x i =
          reach_least dependencies (library_after (take c H)) d (reach dependencies (library_after (take c H)) n) (reach_closed dependencies (library_after (take c H)) n) m x
          (subst (Member x) (ap (λ z. reach dependencies (library_after z) d) (sym before) ∙ sym (reach_now dependencies (take c H) (legal_before c) b d q.2 q.3)) i)

      first : (x : Name) → Member x (reach dependencies (library_after (take b H)) d) → is_edited (drop (suc b) (take c H)) x ≡ false
      first x i = unedited_input dependencies (take c H) b d q.2 x q.3 (subst (λ z. Member x (reach dependencies (library_after z) d)) (sym before) i)

      e : (y : Entry) × (slice_get H c ≡ Some y) × (claimed_name y.event ≡ Some n)
      e = claim_entry H c n h

      second : (x : Name) → Member x (reach dependencies (library_after (take b H)) d) → is_edited (drop c H) x ≡ false
      second x i =
          ap (λ z. is_edited z x) (drop_here H c e.0 e.1) ∙ since_claim H e.0 c n x e.2 ∙ unedited_input dependencies H c n h x u (inside x i)

      kept : (x : Name) → Member x (reach dependencies (library_after (take b H)) d) → is_edited_after H b x ≡ false
      kept x i =
          ap (λ z. is_edited z x) (drop_parts H (suc b) c within) ∙ edited_append (drop (suc b) (take c H)) (drop c H) x
          ∙ or_from (is_edited (drop (suc b) (take c H)) x) (is_edited (drop c H) x) (first x i) (second x i)

  pub standing_rests : (n d : Name) → stands dependencies H n ≡ true → Member d (direct dependencies (library_after H) n) → is_present (library_after H) d ≡ true → stands dependencies H d ≡ true
  standing_rests n d t m p = stands_later c n d q.2 q.3 reached (rests_on dependencies (take c H) n d (ready_parts dependencies (take c H) n (legal_claim dependencies H l c n q.2)).rests then (ap is_some (same d reached) ∙ p))
    where
      q : Supported dependencies H n
      q = stands_by dependencies H n t

      c : ℕ
      c = q.0

      same : (x : Name) → Member x (reach dependencies (library_after (take c H)) n) → text_of (library_after (take c H)) x ≡ text_of (library_after H) x
      same x i = text_since H c n q.2 x (unedited_input dependencies H c n q.2 x q.3 i)

      first : Member n (reach dependencies (library_after (take c H)) n)
      first = reach_first dependencies (library_after (take c H)) n

      then : Member d (direct dependencies (library_after (take c H)) n)
      then = subst (Member d) (sym (direct_same dependencies (library_after (take c H)) (library_after H) n (same n first))) m

      reached : Member d (reach dependencies (library_after (take c H)) n)
      reached = reach_closed dependencies (library_after (take c H)) n n d first then

  -- where the present dependencies of a name stand, so does all of its reach that is present
  rested : Name → Name → Bool
  rested n x = same_name n x || (not (is_present (library_after H) x) || stands dependencies H x)

  all_rested : (n : Name) → ((d : Name) → Member d (direct dependencies (library_after H) n) → is_present (library_after H) d ≡ true → stands dependencies H d ≡ true)
      → (x : Name) → Member x (reach dependencies (library_after H) n) → rested n x ≡ true
  unfolding rested
  all_rested n f x m =
      (in_filter (rested n) names x (reach_least dependencies (library_after H) n (filter (rested n) names) closed
      (filter_in (rested n) names n (reach_first dependencies (library_after H) n) (or_left (same_name n n) (not (is_present (library_after H) n) || stands dependencies H n) (same_itself n))) x m)).1
    where
      names : List Name
      names = reach dependencies (library_after H) n

      test : (d : Name) → (is_present (library_after H) d ≡ true → stands dependencies H d ≡ true) → rested n d ≡ true
      test d g =
          or_right (same_name n d) (not (is_present (library_after H) d) || stands dependencies H d)
          (⊎_elim (λ e. or_right (not (is_present (library_after H) d)) (stands dependencies H d) (g e)) (λ e. or_left (not (is_present (library_after H) d)) (stands dependencies H d) (ap not e)) (cases_Bool (is_present (library_after H) d)))

      stood : (y : Name) → is_present (library_after H) y ≡ true → (not (is_present (library_after H) y) || stands dependencies H y) ≡ true → stands dependencies H y ≡ true
      stood y p e = ⊎_elim (λ g. absurd (true≢false (sym g ∙ ap not p))) (λ g. g) (or_cases (not (is_present (library_after H) y)) (stands dependencies H y) e)

      closed : (y d : Name) → Member y (filter (rested n) names) → Member d (direct dependencies (library_after H) y) → Member d (filter (rested n) names)
      closed y d i j =
          let k = in_filter (rested n) names y i in
          filter_in (rested n) names d (reach_closed dependencies (library_after H) n y d k.0 j)
          (test d (λ p. ⊎_elim (λ e. f d (subst (λ z. Member d (direct dependencies (library_after H) z)) (sym (same_sound n y e)) j) p)
          (λ e. standing_rests y d (stood y (depends_present dependencies (library_after H) y d j) e) j p) (or_cases (same_name n y) (not (is_present (library_after H) y) || stands dependencies H y) k.1)))

  other_rested : (n x : Name) → rested n x ≡ true → same_name n x ≡ false → is_present (library_after H) x ≡ true → stands dependencies H x ≡ true
  unfolding rested
  other_rested n x r s p =
      ⊎_elim (λ e. absurd (true≢false (sym e ∙ s)))
      (λ e. ⊎_elim (λ g. absurd (true≢false (sym g ∙ ap not p))) (λ g. g) (or_cases (not (is_present (library_after H) x)) (stands dependencies H x) e))
      (or_cases (same_name n x) (not (is_present (library_after H) x) || stands dependencies H x) r)

  -- the present names of the reach of a ready name, itself left out, stand
  pub ready_rests : (n x : Name) → is_ready dependencies H n ≡ true → Member x (reach dependencies (library_after H) n) → same_name n x ≡ false → is_present (library_after H) x ≡ true → stands dependencies H x ≡ true
  ready_rests n x r m s p =
      other_rested n x (all_rested n (λ d j q. rests_on dependencies H n d (ready_parts dependencies H n r).rests j q) x m) s p

  -- and so do those of the reach of a standing name
  pub standing_reach : (n x : Name) → stands dependencies H n ≡ true → Member x (reach dependencies (library_after H) n) → is_present (library_after H) x ≡ true → stands dependencies H x ≡ true
  standing_reach n x t m p =
      ⊎_elim (λ e. subst (λ z. stands dependencies H z ≡ true) (same_sound n x e) t)
      (λ e. other_rested n x (all_rested n (λ d j q. standing_rests n d t j q) x m) e p) (cases_Bool (same_name n x))
