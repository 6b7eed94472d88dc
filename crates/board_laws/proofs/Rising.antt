-- An install is of a name that did not stand before it.
use Rattle.std.proofs.Common.{◌≡◌, ℕ, ◌<◌, ◌≤◌, true, false, not, length, take, slice_get, Some, is_some, ◌&&◌, ◌⊎◌, inl, inr, ⊎_elim, sym, ap, ◌∙◌, subst, true≢false, arith, eq-eqb}
use Rattle.std.proofs.lemmas.Bool.{and_parts, false_from_ne_true, not-true}
use Rattle.name_meaning.specs.Names.{Name}
use Rattle.module_graph_meaning.specs.Walks.{Dependencies}
use Rattle.list_laws.proofs.Members.{any_of}
use Rattle.list_laws.proofs.Places.{place_within, take_length, get_take}
use Rattle.board_meaning.specs.Events.{Install, Entry, History}
use Rattle.board_meaning.specs.Claims.{claim_at, ends_claim, is_ended, is_open, is_claim_of, has_current_claim}
use Rattle.board_meaning.specs.Standing.{installed_claim, is_unedited, installed_claims, stands}
use Rattle.board_meaning.specs.Machine.{InstallCall, is_by, may_call}
use Rattle.board_meaning.specs.Legal.{MayFollow, IsLegal}
use Rattle.board_laws.proofs.Claiming.{claim_within, installed_unedited, is_name_some}
use Rattle.board_laws.proofs.Legality.{legal_claim, legal_install, event_install, follows_event}
use Rattle.board_laws.proofs.Standings.{Supported, stands_by, by_stands, ready_parts, installed_is, in_filter_map, filter_map_in}
use Rattle.board_laws.proofs.Earlier.{place_member, current, claim_before, unedited_before, open_before}

module _ (dependencies : Dependencies) where
  pub stood_not : (H : History) → IsLegal dependencies H → (c : ℕ) (n : Name) → claim_at H c ≡ Some n → is_open H c ≡ true → is_unedited dependencies H c ≡ true → stands dependencies H n ≡ false
  unfolding installed_claims is_open may_call
  stood_not H l c n h o u = false_from_ne_true (stands dependencies H n) (λ t. clash (stands_by dependencies H n t))
    where
      clash : Supported dependencies H n → ⊥
      clash q = by (in_filter_map (λ (entry : Entry). installed_claim entry.event) H q.0 q.1)
        where
          d : ℕ
          d = q.0

          within : (m : ℕ) → claim_at H m ≡ Some n → m ≤ length H
          within m g = let w = claim_within H m n g in omega (arith, w)

          claimed_not : (m : ℕ) (g : claim_at H m ≡ Some n) → has_current_claim dependencies (take m H) n ≡ true → ⊥
          claimed_not m g e = true≢false (sym e ∙ not-true (has_current_claim dependencies (take m H) n) (ready_parts dependencies (take m H) n (legal_claim dependencies H l m n g)).claimed_not)

          stands_not : stands dependencies (take c H) n ≡ true → ⊥
          stands_not e = true≢false (sym e ∙ not-true (stands dependencies (take c H) n) (ready_parts dependencies (take c H) n (legal_claim dependencies H l c n h)).stands_not)

          order : (i j : ℕ) → (i < j) ⊎ ((j < i) ⊎ (i ≡ j))
          order i j = grind arith

          by : (p : ℕ) × (e : Entry) × (slice_get H p ≡ Some e) × (installed_claim e.event ≡ Some d) → ⊥
          by r = ⊎_elim (λ m. ⊎_elim (before m) (λ k. after m (at_or k)) (order r.0 c)) (λ k. ⊎_elim later same k) (order d c)
            where
              p_within : r.0 ≤ length H
              p_within = let w = place_within H r.0 r.1 r.2 in omega (arith, w)

              open_then : is_open (take r.0 H) d ≡ true
              open_then = (and_parts (is_open (take r.0 H) d) (is_by r.1.pass (slice_get (take r.0 H) d)) (may_is (legal_install dependencies H l r.0 d r.1 r.2 r.3).0)).0
                where
                  may_is : may_call (take r.0 H) r.1.pass (InstallCall d) ≡ true → (is_open (take r.0 H) d && is_by r.1.pass (slice_get (take r.0 H) d)) ≡ true
                  may_is g = g

              before : d < c → r.0 < c → ⊥
              before m k =
                  stands_not (by_stands dependencies (take c H) n
                  (d, filter_map_in (λ (entry : Entry). installed_claim entry.event) (take c H) r.0 r.1 d (get_take H r.0 c k ∙ r.2) r.3, claim_before dependencies H d c n q.2 m (within c h), unedited_before dependencies H d c n q.2 m (within c h) q.3))

              at_or : (c < r.0) ⊎ (r.0 ≡ c) → c ≤ r.0
              at_or (inl k) = omega (arith, k)
              at_or (inr k) = omega (arith, k)

              after : d < c → c ≤ r.0 → ⊥
              after m k =
                  claimed_not c h (current dependencies (take c H) d n (claim_before dependencies H d c n q.2 m (within c h)) (open_before dependencies H d c r.0 n q.2 m k p_within open_then) (unedited_before dependencies H d c n q.2 m (within c h) q.3))

              later : c < d → ⊥
              later m =
                  claimed_not d q.2 (current dependencies (take d H) c n (claim_before dependencies H c d n h m (within d q.2))
                  (open_before dependencies H c d (length H) n h m (within d q.2) (omega arith) (subst (λ z. is_open z c ≡ true) (sym (take_length H)) o)) (unedited_before dependencies H c d n h m (within d q.2) u))

              same : d ≡ c → ⊥
              same m =
                  true≢false (sym (any_of (λ (entry : Entry). ends_claim c entry.event) H r.1 (place_member H r.0 r.1 r.2) (ap (ends_claim c) (installed_is r.1.event d r.3) ∙ eq-eqb c d (sym m)))
                  ∙ not-true (is_ended H c) (and_parts (is_some (claim_at H c)) (not (is_ended H c)) o).1)

  pub install_of_waiting : (H : History) (e : Entry) (c : ℕ) (n : Name) → IsLegal dependencies H → MayFollow dependencies H e → e.event ≡ Install c → is_claim_of H n c ≡ true → stands dependencies H n ≡ false
  unfolding may_call
  install_of_waiting H e c n l f h k =
      let q = event_install dependencies H f.call e.event c (follows_event dependencies H e f) (ap installed_claim h) in
      let o = and_parts (is_open H c) (is_by e.pass (slice_get H c)) (subst (λ z. may_call H e.pass z ≡ true) q.0 f.may) in
      let at = is_name_some n (claim_at H c) k in
      stood_not H l c n at o.0 (installed_unedited dependencies H c n at q.1)
