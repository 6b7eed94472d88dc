-- What held of a claim at an earlier place of the history.
use Rattle.std.proofs.Common.{◌≡◌, ℕ, zero, suc, ◌+◌, ◌<◌, ◌≤◌, true, not, List, [], ◌∷◌, ◌++◌, length, take, drop, slice_get, Option, Some, None, option_map, is_some, ◌&&◌, inl, inr, sym, ap, ◌∙◌, subst, arith}
use Rattle.std.specs.List.{list_all, cons_option}
use Rattle.std.proofs.lemmas.Bool.{or_parts, and_parts, and_from, not_from_false, not-true}
use Rattle.std.proofs.lemmas.List.Folds.{list_any-append}
use Rattle.name_meaning.specs.Names.{Name}
use Rattle.module_graph_meaning.specs.Walks.{Dependencies}
use Rattle.module_graph_meaning.specs.Reach.{reach}
use Rattle.list_laws.proofs.Members.{Member, any_of, filter_in}
use Rattle.list_laws.proofs.Places.{take_take, take_drop, drop_parts, length_take}
use Rattle.board_meaning.specs.Events.{Entry, History, library_after}
use Rattle.board_meaning.specs.Claims.{claimed_name, claim_at, claims_from, ends_claim, is_ended, is_open, open_claims, inputs_of, is_unchanged, is_claim_of, has_current_claim}
use Rattle.board_meaning.specs.Standing.{is_edited, is_unedited}
use Rattle.board_laws.proofs.Histories.{edited_append}
use Rattle.board_laws.proofs.Claiming.{claim_entry, claim_front, some_is_name, unedited_input, unedited_from, unedited_installed, installed_unchanged}

option_in : {X : Type 0} (o : Option X) (x k : ℕ) (xs : List ℕ) (y : X) → o ≡ Some y → x ≡ k → Member x (cons_option (option_map (λ (z : X). k) o) xs)
option_in None x k xs y e h = absurd (cc)
option_in (Some z) x k xs y e h = inl h

option_rest : {X : Type 0} (o : Option X) (x k : ℕ) (xs : List ℕ) → Member x xs → Member x (cons_option (option_map (λ (z : X). k) o) xs)
option_rest None x k xs m = m
option_rest (Some z) x k xs m = inr m

pub claims_in : (B : History) (k i p : ℕ) (e : Entry) (m : Name) → p ≡ k + i → slice_get B i ≡ Some e → claimed_name e.event ≡ Some m → Member p (claims_from k B)
unfolding claims_from
claims_in [] k i p e m w s h = absurd (cc)
claims_in (x ∷ B) k zero p e m w s h = let q : x ≡ e = cc in option_in (claimed_name x.event) p k (claims_from (suc k) B) m (ap (λ (z : Entry). claimed_name z.event) q ∙ h) (omega (arith, w))
claims_in (x ∷ B) k (suc i) p e m w s h = option_rest (claimed_name x.event) p k (claims_from (suc k) B) (claims_in B (suc k) i p e m (omega (arith, w)) s h)

pub place_member : (xs : History) (i : ℕ) (x : Entry) → slice_get xs i ≡ Some x → Member x xs
place_member [] i x h = absurd (cc)
place_member (y ∷ xs) zero x h = let e : y ≡ x = cc in inl (sym e)
place_member (y ∷ xs) (suc i) x h = inr (place_member xs i x h)

module _ (dependencies : Dependencies) where
  -- an open claim whose inputs were not edited
  pub current : (B : History) (c : ℕ) (n : Name) → claim_at B c ≡ Some n → is_open B c ≡ true → is_unedited dependencies B c ≡ true → has_current_claim dependencies B n ≡ true
  unfolding has_current_claim
  current B c n h o u =
      let q = claim_entry B c n h in
      any_of (λ (place : ℕ). is_claim_of B n place && list_all (is_unchanged B) (inputs_of dependencies B place)) (open_claims B) c
      (filter_in (is_open B) (claims_from 0 B) c (claims_in B 0 c c q.0 n (omega arith) q.1 q.2) o)
      (and_from (is_claim_of B n c) (list_all (is_unchanged B) (inputs_of dependencies B c)) (some_is_name n (claim_at B c) h)
      (installed_unchanged dependencies B c (unedited_installed dependencies B c n h u)))

  module _ (H : History) where
    pub claim_before : (c d : ℕ) (n : Name) → claim_at H c ≡ Some n → c < d → d ≤ length H → claim_at (take d H) c ≡ Some n
    claim_before c d n h l w =
        sym (claim_front (take d H) (drop d H) c (let t = length_take H d w in omega (arith, l, t))) ∙ ap (λ z. claim_at z c) (take_drop H d) ∙ h

    pub unedited_before : (c d : ℕ) (n : Name) → claim_at H c ≡ Some n → c < d → d ≤ length H → is_unedited dependencies H c ≡ true → is_unedited dependencies (take d H) c ≡ true
    unedited_before c d n h l w u =
        unedited_from dependencies (take d H) c n (claim_before c d n h l w)
        (λ x m. (or_parts (is_edited (drop (suc c) (take d H)) x) (is_edited (drop d H) x)
        (sym (edited_append (drop (suc c) (take d H)) (drop d H) x) ∙ ap (λ z. is_edited z x) (sym (drop_parts H (suc c) d l))
        ∙ unedited_input dependencies H c n h x u (subst (λ z. Member x (reach dependencies (library_after z) n)) (take_take H c d (omega (arith, l))) m))).0)

    pub open_before : (c d p : ℕ) (n : Name) → claim_at H c ≡ Some n → c < d → d ≤ p → p ≤ length H → is_open (take p H) c ≡ true → is_open (take d H) c ≡ true
    unfolding is_open
    open_before c d p n h l w v o =
        and_from (is_some (claim_at (take d H) c)) (not (is_ended (take d H) c)) (ap is_some (claim_before c d n h l (omega (arith, w, v))))
        (not_from_false (is_ended (take d H) c)
        (or_parts (is_ended (take d H) c) (is_ended (drop d (take p H)) c)
        (sym (list_any-append (λ (entry : Entry). ends_claim c entry.event) (take d H) (drop d (take p H))) ∙ ap (λ z. is_ended z c) parts
        ∙ not-true (is_ended (take p H) c) (and_parts (is_some (claim_at (take p H) c)) (not (is_ended (take p H) c)) o).1)).0)
      where
        parts : take d H ++ drop d (take p H) ≡ take p H
        parts = ap (λ z. z ++ drop d (take p H)) (sym (take_take H d p w)) ∙ take_drop (take p H) d
