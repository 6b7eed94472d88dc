-- Which verdicts stand after one more entry of a legal history.
use Rattle.std.proofs.Common.{◌≡◌, ℕ, suc, ◌+◌, ◌<◌, Bool, true, false, not, [], ◌∷◌, ◌++◌, length, take, drop, Option, Some, None, option_to_list, is_some, ◌||◌, ◌&&◌, inl, inr, ⊎_elim, refl, sym, ap, ◌∙◌, subst, true≢false, arith, append-nil, length-append}
use Rattle.std.specs.Cmp.{both_ways}
use Rattle.std.proofs.lemmas.Bool.{or_cases, or_parts, or_from, or_left, or_right, and_parts, and_from, not_from_false, false_from_ne_true}
use Rattle.name_meaning.specs.Names.{Name, same_name, is_among}
use Rattle.edit_log_meaning.specs.Log.{Edit, edited_name}
use Rattle.module_graph_meaning.specs.Walks.{Dependencies}
use Rattle.module_graph_meaning.specs.Reach.{reach}
use Rattle.list_laws.proofs.Members.{Member, in_append, append_left, append_right}
use Rattle.name_laws.proofs.Order.{among_member, member_among, same_sound, same_itself}
use Rattle.board_meaning.specs.Events.{Entry, History, edit_in, library_after}
use Rattle.board_meaning.specs.Claims.{claim_at, is_open, is_ended, is_claim_of}
use Rattle.board_meaning.specs.Standing.{installed_claim, installed_claims, is_edit_of, is_edited, is_edited_after, is_unedited, stands, installs}
use Rattle.board_meaning.specs.Machine.{IsInstalled, install_reply}
use Rattle.board_meaning.specs.Legal.{IsLegal}
use Rattle.list_laws.proofs.Places.{take_front, drop_front}
use Rattle.board_laws.proofs.Histories.{filter_map_last, edited_append}
use Rattle.board_laws.proofs.Claiming.{claim_within, claim_front, is_name_some, some_is_name, unedited_input, unedited_from, installed_unedited}
use Rattle.board_laws.proofs.Standings.{Supported, stands_by, by_stands, installed_claimed, reach_now}
use Rattle.std.proofs.Math.Bool.{or-false}

edited_last : (e : Entry) (n : Name) → is_edited (e ∷ []) n ≡ is_edit_of n (edit_in e)
unfolding is_edited
edited_last e n = or-false (is_edit_of n (edit_in e))

pub installed_last : (H : History) (e : Entry) → installed_claims (H ++ e ∷ []) ≡ installed_claims H ++ option_to_list (installed_claim e.event)
unfolding installed_claims
installed_last H e = filter_map_last (λ (entry : Entry). installed_claim entry.event) H e

pub installs_last : (H : History) (e : Entry) → installs (H ++ e ∷ []) ≡ installs H + length (option_to_list (installed_claim e.event))
installs_last H e = ap length (installed_last H e) ∙ length-append (installed_claims H) (option_to_list (installed_claim e.event))

module _ (dependencies : Dependencies) (H : History) (e : Entry) where
  -- ---- a claim of the history, seen after one more entry

  edited_more : (c : ℕ) (n : Name) → c < length H → is_edited_after (H ++ e ∷ []) c n ≡ (is_edited_after H c n || is_edit_of n (edit_in e))
  edited_more c n h =
      ap (λ z. is_edited z n) (drop_front H (e ∷ []) (suc c) h) ∙ edited_append (drop (suc c) H) (e ∷ []) n
      ∙ ap (λ b. is_edited_after H c n || b) (edited_last e n)

  take_same : (c : ℕ) → c < length H → take c (H ++ e ∷ []) ≡ take c H
  take_same c h = take_front H (e ∷ []) c (omega (arith, h))

  -- it goes on to support its name, unless the entry is an edit of its reach
  pub unedited_more : (c : ℕ) (n : Name) → claim_at H c ≡ Some n → is_unedited dependencies H c ≡ true
      → ((x : Name) → Member x (reach dependencies (library_after (take c H)) n) → is_edit_of x (edit_in e) ≡ false) → is_unedited dependencies (H ++ e ∷ []) c ≡ true
  unedited_more c n h u f =
      unedited_from dependencies (H ++ e ∷ []) c n (claim_front H (e ∷ []) c within ∙ h)
      (λ x m. let i = subst (λ z. Member x (reach dependencies (library_after z) n)) (take_same c within) m in
      edited_more c x within ∙ or_from (is_edited_after H c x) (is_edit_of x (edit_in e)) (unedited_input dependencies H c n h x u i) (f x i))
    where
      within : c < length H
      within = claim_within H c n h

  -- it supported its name before, and the entry is no edit of its reach
  pub unedited_less : (c : ℕ) (n : Name) → claim_at H c ≡ Some n → is_unedited dependencies (H ++ e ∷ []) c ≡ true
      → (is_unedited dependencies H c ≡ true) × ((x : Name) → Member x (reach dependencies (library_after (take c H)) n) → is_edit_of x (edit_in e) ≡ false)
  unedited_less c n h u = (unedited_from dependencies H c n h (λ x m. (both x m).0), λ x m. (both x m).1)
    where
      within : c < length H
      within = claim_within H c n h

      both : (x : Name) → Member x (reach dependencies (library_after (take c H)) n) → (is_edited_after H c x ≡ false) × (is_edit_of x (edit_in e) ≡ false)
      both x m =
          or_parts (is_edited_after H c x) (is_edit_of x (edit_in e))
          (sym (edited_more c x within) ∙ unedited_input dependencies (H ++ e ∷ []) c n (claim_front H (e ∷ []) c within ∙ h) x u
          (subst (λ z. Member x (reach dependencies (library_after z) n)) (sym (take_same c within)) m))

module _ (dependencies : Dependencies) (H : History) (l : IsLegal dependencies H) (e : Entry) where
  -- a name that stood stands on, unless the entry is an edit of its reach
  pub stands_on : (n : Name) → stands dependencies H n ≡ true → ((x : Name) → Member x (reach dependencies (library_after H) n) → is_edit_of x (edit_in e) ≡ false) → stands dependencies (H ++ e ∷ []) n ≡ true
  stands_on n t f = by_stands dependencies (H ++ e ∷ []) n (q.0, more, claim_front H (e ∷ []) q.0 (claim_within H q.0 n q.2) ∙ q.2, unedited_more dependencies H e q.0 n q.2 q.3 (λ x m. f x (subst (Member x) (sym (reach_now dependencies H l q.0 n q.2 q.3)) m)))
    where
      q : Supported dependencies H n
      q = stands_by dependencies H n t

      more : Member q.0 (installed_claims (H ++ e ∷ []))
      more = subst (Member q.0) (sym (installed_last H e)) (append_left (installed_claims H) (option_to_list (installed_claim e.event)) q.0 q.1)

  -- a claim of the history that supports a name after the entry
  stood : (c : ℕ) (n : Name) → Member c (installed_claims H) → claim_at (H ++ e ∷ []) c ≡ Some n → is_unedited dependencies (H ++ e ∷ []) c ≡ true
      → (stands dependencies H n ≡ true) × ((x : Name) → Member x (reach dependencies (library_after H) n) → is_edit_of x (edit_in e) ≡ false)
  stood c n m h u =
      let claimed = installed_claimed dependencies H l c m in
      let at : claim_at H c ≡ Some n = sym (claim_front H (e ∷ []) c (claim_within H c claimed.0 claimed.1)) ∙ h in
      let p = unedited_less dependencies H e c n at u in
      (by_stands dependencies H n (c, m, at, p.0), λ x i. p.1 x (subst (Member x) (reach_now dependencies H l c n at p.0) i))

  -- where the entry is no install, what stands afterwards stood before, and the entry is no edit of its reach
  pub stood_before : (n : Name) → installed_claim e.event ≡ None → stands dependencies (H ++ e ∷ []) n ≡ true
      → (stands dependencies H n ≡ true) × ((x : Name) → Member x (reach dependencies (library_after H) n) → is_edit_of x (edit_in e) ≡ false)
  stood_before n i t =
      let q = stands_by dependencies (H ++ e ∷ []) n t in
      stood q.0 n (subst (Member q.0) (installed_last H e ∙ ap (λ o. installed_claims H ++ option_to_list o) i ∙ append-nil (installed_claims H)) q.1) q.2 q.3

  -- an entry that is neither an edit nor an install
  pub others_leave : (n : Name) → edit_in e ≡ None → installed_claim e.event ≡ None → stands dependencies (H ++ e ∷ []) n ≡ stands dependencies H n
  others_leave n g i =
      both_ways (stands dependencies (H ++ e ∷ []) n) (stands dependencies H n) (λ t. (stood_before n i t).0)
      (λ t. stands_on n t (λ x m. ap (is_edit_of x) g))

  not_hit : (edit : Edit) (n x : Name) → edit_in e ≡ Some edit → is_among (reach dependencies (library_after H) n) (edited_name edit) ≡ false → Member x (reach dependencies (library_after H) n) → is_edit_of x (edit_in e) ≡ false
  not_hit edit n x g a m =
      ap (is_edit_of x) g
      ∙ false_from_ne_true (same_name x (edited_name edit))
      (λ s. true≢false (sym (member_among (reach dependencies (library_after H) n) (edited_name edit) (subst (λ z. Member z (reach dependencies (library_after H) n)) (same_sound x (edited_name edit) s) m)) ∙ a))

  not_true : (b : Bool) → not b ≡ true → b ≡ false
  not_true true h = absurd (true≢false (sym h))
  not_true false h = refl

  -- an edit leaves those that stood and lack its name in their reach
  pub edit_leaves : (n : Name) (edit : Edit) → edit_in e ≡ Some edit → installed_claim e.event ≡ None
      → stands dependencies (H ++ e ∷ []) n ≡ (stands dependencies H n && not (is_among (reach dependencies (library_after H) n) (edited_name edit)))
  edit_leaves n edit g i =
      both_ways (stands dependencies (H ++ e ∷ []) n) (stands dependencies H n && not (is_among (reach dependencies (library_after H) n) (edited_name edit)))
      (λ t. let p = stood_before n i t in
      and_from (stands dependencies H n) (not (is_among (reach dependencies (library_after H) n) (edited_name edit))) p.0
      (not_from_false (is_among (reach dependencies (library_after H) n) (edited_name edit))
      (false_from_ne_true (is_among (reach dependencies (library_after H) n) (edited_name edit))
      (λ a. true≢false (sym (same_itself (edited_name edit)) ∙ sym (ap (is_edit_of (edited_name edit)) g) ∙ p.1 (edited_name edit) (among_member (reach dependencies (library_after H) n) (edited_name edit) a))))))
      (λ t. let p = and_parts (stands dependencies H n) (not (is_among (reach dependencies (library_after H) n) (edited_name edit))) t in
      stands_on n p.0 (λ x m. not_hit edit n x g (not_true (is_among (reach dependencies (library_after H) n) (edited_name edit)) p.1) m))

  -- an install makes the name of its claim stand
  pub install_makes : (n : Name) (c : ℕ) → edit_in e ≡ None → installed_claim e.event ≡ Some c → is_open H c ≡ true → install_reply dependencies H c ≡ IsInstalled
      → stands dependencies (H ++ e ∷ []) n ≡ (stands dependencies H n || is_claim_of H n c)
  unfolding is_open
  install_makes n c g i o r =
      both_ways (stands dependencies (H ++ e ∷ []) n) (stands dependencies H n || is_claim_of H n c)
      (λ t. let q = stands_by dependencies (H ++ e ∷ []) n t in
      ⊎_elim (λ m. or_left (stands dependencies H n) (is_claim_of H n c) (stood q.0 n m q.2 q.3).0)
      (λ m. or_right (stands dependencies H n) (is_claim_of H n c) (some_is_name n (claim_at H c) (sym (claim_front H (e ∷ []) c within) ∙ ap (claim_at (H ++ e ∷ [])) (sym (one m)) ∙ q.2)))
      (in_append (installed_claims H) (option_to_list (installed_claim e.event)) q.0 (subst (Member q.0) (installed_last H e) q.1)))
      (λ t. ⊎_elim (λ s. stands_on n s (λ x m. ap (is_edit_of x) g))
      (λ s. let at = is_name_some n (claim_at H c) s in
      by_stands dependencies (H ++ e ∷ []) n (c, new, claim_front H (e ∷ []) c within ∙ at, unedited_more dependencies H e c n at (installed_unedited dependencies H c n at r) (λ x m. ap (is_edit_of x) g)))
      (or_cases (stands dependencies H n) (is_claim_of H n c) t))
    where
      some_within : (x : Option Name) → claim_at H c ≡ x → is_some x ≡ true → c < length H
      some_within None h s = absurd (true≢false (sym s))
      some_within (Some m) h s = claim_within H c m h

      within : c < length H
      within = some_within (claim_at H c) refl (and_parts (is_some (claim_at H c)) (not (is_ended H c)) o).0

      one : {d : ℕ} → Member d (option_to_list (installed_claim e.event)) → d ≡ c
      one {d} m = at (subst (λ z. Member d (option_to_list z)) i m)
        where
          at : Member d (c ∷ []) → d ≡ c
          at (inl h) = h
          at (inr h) = absurd h

      new : Member c (installed_claims (H ++ e ∷ []))
      new = subst (Member c) (sym (installed_last H e)) (append_right (installed_claims H) (option_to_list (installed_claim e.event)) c (subst (λ z. Member c (option_to_list z)) (sym i) (inl refl)))
