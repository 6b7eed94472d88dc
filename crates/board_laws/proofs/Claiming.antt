-- Claims: where they stand, their inputs, and what has changed since.
use Rattle.std.proofs.Common.{◌≡◌, ℕ, suc, ◌<◌, Bool, true, false, not, List, [], ◌∷◌, ◌++◌, map, length, take, drop, slice_get, find, Option, Some, None, option_map, option_and_then, ◌||◌, refl, sym, ap, ◌∙◌, subst, true≢false, arith, eqb-true, eq-eqb}
use Rattle.std.specs.List.{list_any, list_all}
use Rattle.std.proofs.lemmas.Bool.{false_from_ne_true, not_from_false, not-true}
use Rattle.name_meaning.specs.Names.{Name, same_name}
use Rattle.edit_log_meaning.specs.Log.{text_of}
use Rattle.module_graph_meaning.specs.Walks.{Dependencies}
use Rattle.module_graph_meaning.specs.Reach.{reach, AgreesOn}
use Rattle.list_laws.proofs.Members.{Member, in_map, map_in, any_not, any_none, find_found, find_none, all_of}
use Rattle.name_laws.proofs.Order.{among_member, same_sound, same_itself}
use Rattle.edit_log_laws.proofs.Libraries.{stamp_past}
use Rattle.board_meaning.specs.Events.{Event, EditMade, Claim, Install, Stale, Release, Close, Entry, History, edit_of, log_of, library_after, stamp_after}
use Rattle.board_meaning.specs.Claims.{claimed_name, claim_at, Input, inputs_after, inputs_by, inputs_of, input_names, is_unchanged, first_changed, is_name}
use Rattle.board_meaning.specs.Standing.{is_edit_of, is_edited, is_edited_after, is_unedited}
use Rattle.board_meaning.specs.Machine.{IsInstalled, installed_by, install_reply}
use Rattle.list_laws.proofs.Places.{place_within, get_front, split_at}
use Rattle.board_laws.proofs.Histories.{unedited_text, unedited_stamp, edited_stamp}

-- ---- the entry of a claim

pub claim_entry : (H : History) (c : ℕ) (m : Name) → claim_at H c ≡ Some m → (e : Entry) × (slice_get H c ≡ Some e) × (claimed_name e.event ≡ Some m)
claim_entry H c m h = by (slice_get H c) refl h
  where
    by : (o : Option Entry) → slice_get H c ≡ o → option_and_then (λ (entry : Entry). claimed_name entry.event) o ≡ Some m → (e : Entry) × (slice_get H c ≡ Some e) × (claimed_name e.event ≡ Some m)
    by None s g = absurd (cc)
    by (Some e) s g = (e, s, g)

pub claim_found : (H : History) (c : ℕ) (e : Entry) (m : Name) → slice_get H c ≡ Some e → claimed_name e.event ≡ Some m → claim_at H c ≡ Some m
claim_found H c e m s h = ap (λ o. option_and_then (λ (entry : Entry). claimed_name entry.event) o) s ∙ h

pub claim_within : (H : History) (c : ℕ) (m : Name) → claim_at H c ≡ Some m → c < length H
claim_within H c m h = let q = claim_entry H c m h in place_within H c q.0 q.1

pub claim_front : (H K : History) (c : ℕ) → c < length H → claim_at (H ++ K) c ≡ claim_at H c
claim_front H K c h = ap (option_and_then (λ (entry : Entry). claimed_name entry.event)) (get_front H K c h)

pub claim_no_edit : (e : Event) (m : Name) → claimed_name e ≡ Some m → edit_of e ≡ None
claim_no_edit (EditMade edit) m h = absurd (cc)
claim_no_edit (Claim n) m h = refl
claim_no_edit (Install c) m h = refl
claim_no_edit (Stale c n k) m h = refl
claim_no_edit (Release c) m h = refl
claim_no_edit Close m h = refl

-- an edit of a name since a claim is one in the entries from the claim on
pub since_claim : (H : History) (e : Entry) (c : ℕ) (m n : Name) → claimed_name e.event ≡ Some m → is_edited (e ∷ drop (suc c) H) n ≡ is_edited_after H c n
unfolding is_edited
since_claim H e c m n h = ap (λ o. is_edit_of n o || is_edited_after H c n) (claim_no_edit e.event m h)

module _ (H : History) (c : ℕ) (m : Name) (h : claim_at H c ≡ Some m) where
  entry : Entry
  entry = (claim_entry H c m h).0

  parts : H ≡ take c H ++ entry ∷ drop (suc c) H
  unfolding entry
  parts = split_at H c (claim_entry H c m h).0 (claim_entry H c m h).1

  since : (n : Name) → is_edited (entry ∷ drop (suc c) H) n ≡ is_edited_after H c n
  unfolding entry
  since n = since_claim H (claim_entry H c m h).0 c m n (claim_entry H c m h).2

  -- what a name that was not edited since the claim had then
  pub text_since : (n : Name) → is_edited_after H c n ≡ false → text_of (library_after (take c H)) n ≡ text_of (library_after H) n
  text_since n u = sym (ap (λ z. text_of (library_after z) n) parts ∙ unedited_text (take c H) (entry ∷ drop (suc c) H) n (since n ∙ u))

  pub stamp_since : (n : Name) → is_edited_after H c n ≡ false → stamp_after H n ≡ stamp_after (take c H) n
  stamp_since n u = ap (λ z. stamp_after z n) parts ∙ unedited_stamp (take c H) (entry ∷ drop (suc c) H) n (since n ∙ u)

  pub stamp_later : (n : Name) → is_edited_after H c n ≡ true → stamp_after (take c H) n < stamp_after H n
  stamp_later n u =
      let a = edited_stamp (take c H) (entry ∷ drop (suc c) H) n (since n ∙ u) in
      let b = stamp_past (log_of (take c H)) n in
      let d = ap (λ z. stamp_after z n) parts in
      omega (arith, a, b, d)

  -- ---- inputs

  pub inputs_are : (dependencies : Dependencies) → inputs_of dependencies H c ≡ inputs_after dependencies (take c H) m
  unfolding inputs_of
  inputs_are dependencies = ap (inputs_by dependencies (take c H)) h

names_of_inputs : (f : Name → ℕ) (names : List Name) → input_names (map (λ (other : Name). record { name = other; stamp = f other }) names) ≡ names
names_of_inputs f [] = refl
names_of_inputs f (n ∷ names) = ap (λ z. n ∷ z) (names_of_inputs f names)

pub input_names_after : (dependencies : Dependencies) (B : History) (m : Name) → input_names (inputs_after dependencies B m) ≡ reach dependencies (library_after B) m
unfolding inputs_after
input_names_after dependencies B m = names_of_inputs (λ n. stamp_after B n) (reach dependencies (library_after B) m)

pub input_stamp : (dependencies : Dependencies) (B : History) (m : Name) (x : Input) → Member x (inputs_after dependencies B m) → x.stamp ≡ stamp_after B x.name
unfolding inputs_after
input_stamp dependencies B m x i =
    let q = in_map (λ (other : Name). record { name = other; stamp = stamp_after B other }) (reach dependencies (library_after B) m) x i in
    ap (λ (z : Input). z.stamp) q.2 ∙ ap (stamp_after B) (sym (ap (λ (z : Input). z.name) q.2))

pub is_name_some : (n : Name) (o : Option Name) → is_name n o ≡ true → o ≡ Some n
is_name_some n None h = absurd (true≢false (sym h))
is_name_some n (Some m) h = ap Some (sym (same_sound n m h))

pub some_is_name : (n : Name) (o : Option Name) → o ≡ Some n → is_name n o ≡ true
some_is_name n None h = absurd (cc)
some_is_name n (Some m) h = let e : m ≡ n = cc in subst (λ z. same_name n z ≡ true) (sym e) (same_itself n)

-- ---- inputs that were not edited

module _ (dependencies : Dependencies) (H : History) (c : ℕ) (m : Name) (h : claim_at H c ≡ Some m) where
  pub names_are : input_names (inputs_of dependencies H c) ≡ reach dependencies (library_after (take c H)) m
  names_are = ap input_names (inputs_are H c m h dependencies) ∙ input_names_after dependencies (take c H) m

  pub unedited_input : (n : Name) → is_unedited dependencies H c ≡ true → Member n (reach dependencies (library_after (take c H)) m) → is_edited_after H c n ≡ false
  unfolding is_unedited
  unedited_input n u i = any_not (is_edited_after H c) (input_names (inputs_of dependencies H c)) n (not-true (list_any (is_edited_after H c) (input_names (inputs_of dependencies H c))) u) (subst (Member n) (sym names_are) i)

  pub unedited_from : ((n : Name) → Member n (reach dependencies (library_after (take c H)) m) → is_edited_after H c n ≡ false) → is_unedited dependencies H c ≡ true
  unfolding is_unedited
  unedited_from f =
      not_from_false (list_any (is_edited_after H c) (input_names (inputs_of dependencies H c)))
      (any_none (is_edited_after H c) (input_names (inputs_of dependencies H c)) (λ n i. f n (subst (Member n) names_are i)))

  -- the library then and the present one agree on the reach
  pub agrees_since : is_unedited dependencies H c ≡ true → AgreesOn (library_after (take c H)) (library_after H) (reach dependencies (library_after (take c H)) m)
  agrees_since u n a = text_since H c m h n (unedited_input n u (among_member (reach dependencies (library_after (take c H)) m) n a))

  -- ---- the reply to an install

  changed_edited : (x : Input) → Member x (inputs_of dependencies H c) → is_unchanged H x ≡ not (is_edited_after H c x.name)
  changed_edited x i = by (is_edited_after H c x.name) refl
    where
      used : x.stamp ≡ stamp_after (take c H) x.name
      used = input_stamp dependencies (take c H) m x (subst (Member x) (inputs_are H c m h dependencies) i)

      by : (b : Bool) → is_edited_after H c x.name ≡ b → is_unchanged H x ≡ not b
      by true e = let l = stamp_later H c m h x.name e in false_from_ne_true (is_unchanged H x) (λ t. let q = eqb-true (stamp_after H x.name) x.stamp t in omega (arith, l, q, used))
      by false e = eq-eqb (stamp_after H x.name) x.stamp (stamp_since H c m h x.name e ∙ sym used)

  pub installed_unedited : install_reply dependencies H c ≡ IsInstalled → is_unedited dependencies H c ≡ true
  unfolding install_reply first_changed
  installed_unedited r = unedited_from (λ n i. by n (in_map (λ (input : Input). input.name) (inputs_of dependencies H c) n (subst (Member n) (sym names_are) i)))
    where
      none : (o : Option Input) → installed_by (option_map (λ (input : Input). record { name = input.name; stamp = stamp_after H input.name }) o) ≡ IsInstalled → o ≡ None
      none None e = refl
      none (Some x) e = absurd (cc)

      by : (n : Name) → (x : Input) × Member x (inputs_of dependencies H c) × (n ≡ x.name) → is_edited_after H c n ≡ false
      by n q =
          let u = find_none (λ (input : Input). not (is_unchanged H input)) (inputs_of dependencies H c) (none (find (λ (input : Input). not (is_unchanged H input)) (inputs_of dependencies H c)) r) q.0 q.1 in
          subst (λ z. is_edited_after H c z ≡ false) (sym q.2) (not_not (is_unchanged H q.0) (is_edited_after H c q.0.name) u (changed_edited q.0 q.1))
        where
          not_not : (a b : Bool) → not a ≡ false → a ≡ not b → b ≡ false
          not_not a true u e = absurd (true≢false (ap not (sym e) ∙ u))
          not_not a false u e = refl

  pub unedited_installed : is_unedited dependencies H c ≡ true → install_reply dependencies H c ≡ IsInstalled
  unfolding install_reply first_changed
  unedited_installed u = by (find (λ (input : Input). not (is_unchanged H input)) (inputs_of dependencies H c)) refl
    where
      clash : (x : Input) → Member x (inputs_of dependencies H c) → not (is_unchanged H x) ≡ true → ⊥
      clash x i e =
          let f : is_edited_after H c x.name ≡ false = unedited_input x.name u (subst (Member x.name) names_are (map_in (λ (input : Input). input.name) (inputs_of dependencies H c) x i)) in
          true≢false (sym e ∙ ap not (changed_edited x i) ∙ ap (λ b. not (not b)) f)

      by : (o : Option Input) → find (λ (input : Input). not (is_unchanged H input)) (inputs_of dependencies H c) ≡ o → installed_by (option_map (λ (input : Input). record { name = input.name; stamp = stamp_after H input.name }) o) ≡ IsInstalled
      by None e = refl
      by (Some x) e = let q = find_found (λ (input : Input). not (is_unchanged H input)) (inputs_of dependencies H c) x e in absurd (clash x q.0 q.1)

  -- the present stamp of an input that has changed is greater than the used one
  pub changed_later : (x : Input) → Member x (inputs_of dependencies H c) → not (is_unchanged H x) ≡ true → x.stamp < stamp_after H x.name
  changed_later x i u =
      let a = stamp_later H c m h x.name (edited_input (is_edited_after H c x.name) u (changed_edited x i)) in
      let b = input_stamp dependencies (take c H) m x (subst (Member x) (inputs_are H c m h dependencies) i) in
      omega (arith, a, b)
    where
      edited_input : (b : Bool) → not (is_unchanged H x) ≡ true → is_unchanged H x ≡ not b → b ≡ true
      edited_input true w e = refl
      edited_input false w e = absurd (true≢false (sym w ∙ ap not e))

pub installed_unchanged : (dependencies : Dependencies) (H : History) (c : ℕ) → install_reply dependencies H c ≡ IsInstalled → list_all (is_unchanged H) (inputs_of dependencies H c) ≡ true
unfolding install_reply first_changed
installed_unchanged dependencies H c r =
    all_of (is_unchanged H) (inputs_of dependencies H c)
    (λ x m. not_false (is_unchanged H x) (find_none (λ (input : Input). not (is_unchanged H input)) (inputs_of dependencies H c) (none (find (λ (input : Input). not (is_unchanged H input)) (inputs_of dependencies H c)) r) x m))
  where
    none : (o : Option Input) → installed_by (option_map (λ (input : Input). record { name = input.name; stamp = stamp_after H input.name }) o) ≡ IsInstalled → o ≡ None
    none None e = refl
    none (Some x) e = absurd (cc)

    not_false : (b : Bool) → not b ≡ false → b ≡ true
    not_false true e = refl
    not_false false e = absurd (true≢false e)
