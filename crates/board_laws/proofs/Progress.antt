-- Some name is ready, while a grounded name does not stand and no claim is open.
use Rattle.std.proofs.Common.{◌≡◌, ℕ, zero, suc, Bool, true, false, not, [], length, is_some, ◌||◌, ◌&&◌, ⊎_elim, refl, sym, ap, ◌∙◌, true≢false}
use Rattle.std.specs.List.{list_any, list_all}
use Rattle.std.proofs.lemmas.Bool.{cases_Bool, or_parts, and_parts, not-false}
use Rattle.name_meaning.specs.Names.{Name}
use Rattle.edit_log_meaning.specs.Log.{names_of, is_present}
use Rattle.module_graph_meaning.specs.Walks.{Dependencies, direct, walking, is_ungrounded, is_grounded}
use Rattle.list_laws.proofs.Members.{Member, all_not, find_some}
use Rattle.name_laws.proofs.Order.{member_among}
use Rattle.module_graph_laws.proofs.Walking.{present_in, walking_step, in_ungrounded, grounded_dependency}
use Rattle.board_meaning.specs.Events.{History, library_after}
use Rattle.board_meaning.specs.Claims.{open_claims, has_current_claim, is_claim_of, is_unchanged, inputs_of}
use Rattle.board_meaning.specs.Standing.{stands}
use Rattle.board_meaning.specs.Ready.{is_closed, dependencies_stand, is_ready, least_ready}
use Rattle.board_laws.proofs.Standings.{ready_from}

not_false : (b : Bool) → b ≡ false → not b ≡ true
not_false b h = ap not h

module _ (dependencies : Dependencies) (H : History) (closed : is_closed H ≡ false) (none : open_claims H ≡ []) where
  Waiting : Name → Type 0
  Waiting n = (is_grounded dependencies (library_after H) n ≡ true) × (stands dependencies H n ≡ false)

  unclaimed : (n : Name) → has_current_claim dependencies H n ≡ false
  unfolding has_current_claim
  unclaimed n = ap (list_any (λ (place : ℕ). is_claim_of H n place && list_all (is_unchanged H) (inputs_of dependencies H place))) none

  is_found : (n : Name) → is_ready dependencies H n ≡ true → is_grounded dependencies (library_after H) n ≡ true → is_some (least_ready dependencies H) ≡ true
  unfolding least_ready
  is_found n r g =
      find_some (is_ready dependencies H) (names_of (library_after H)) n
      (present_in dependencies (library_after H) n (and_parts (is_present (library_after H) n) (not (is_ungrounded dependencies (library_after H) n)) g).0) r

  -- a dependency that waits, where not all dependencies stand
  waiting_dependency : (n : Name) → Waiting n → dependencies_stand dependencies H n ≡ false → (d : Name) × Member d (direct dependencies (library_after H) n) × Waiting d
  unfolding dependencies_stand Waiting
  waiting_dependency n w h =
      let q = all_not (λ (other : Name). not (is_present (library_after H) other) || stands dependencies H other) (direct dependencies (library_after H) n) h in
      let p = or_parts (not (is_present (library_after H) q.0)) (stands dependencies H q.0) q.2 in
      (q.0, q.1, (grounded_dependency dependencies (library_after H) n q.0 w.0 (member_among (direct dependencies (library_after H) n) q.0 q.1) (not-false (is_present (library_after H) q.0) p.0), p.1))

  ready_now : (n : Name) → Waiting n → dependencies_stand dependencies H n ≡ true → is_some (least_ready dependencies H) ≡ true
  unfolding Waiting
  ready_now n w e =
      is_found n (ready_from dependencies H n (record { grounded = w.0; stands_not = not_false (stands dependencies H n) w.1; rests = e; claimed_not = not_false (has_current_claim dependencies H n) (unclaimed n); closed_not = not_false (is_closed H) closed })) w.0

  ready_by : (k : ℕ) (n : Name) → Waiting n → (Member n (walking dependencies (library_after H) k) → ⊥) → is_some (least_ready dependencies H) ≡ true
  unfolding Waiting walking
  ready_by zero n w f = absurd (f (present_in dependencies (library_after H) n (and_parts (is_present (library_after H) n) (not (is_ungrounded dependencies (library_after H) n)) w.0).0))
  ready_by (suc k) n w f =
      ⊎_elim (λ e. ready_now n w e)
      (λ e. let q = waiting_dependency n w e in ready_by k q.0 q.2 (λ m. f (walking_step dependencies (library_after H) k n q.0 q.1 m)))
      (cases_Bool (dependencies_stand dependencies H n))

  pub some_ready : (n : Name) → is_grounded dependencies (library_after H) n ≡ true → stands dependencies H n ≡ false → is_some (least_ready dependencies H) ≡ true
  unfolding Waiting
  some_ready n g s =
      ready_by (length (library_after H)) n (g, s)
      (λ m. true≢false (sym (in_ungrounded dependencies (library_after H) n m) ∙ ungrounded_not (is_ungrounded dependencies (library_after H) n) (and_parts (is_present (library_after H) n) (not (is_ungrounded dependencies (library_after H) n)) g).1))
    where
      ungrounded_not : (b : Bool) → not b ≡ true → b ≡ false
      ungrounded_not true h = absurd (true≢false (sym h))
      ungrounded_not false h = refl
