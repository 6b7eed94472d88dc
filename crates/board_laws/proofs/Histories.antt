-- The log, the library and the stamps after more entries.
use Rattle.std.proofs.Common.{◌≡◌, suc, ◌<◌, ◌≤◌, Bool, true, false, List, [], ◌∷◌, ◌++◌, length, filter_map, Option, Some, None, option_to_list, cond, ◌||◌, ⊎_elim, refl, sym, ap, ◌∙◌, subst, true≢false, arith, append_assoc, append-nil, length-append}
use Rattle.std.specs.List.{cons_option}
use Rattle.std.proofs.lemmas.Bool.{cases_Bool, or_cases, or_parts}
use Rattle.name_meaning.specs.Names.{Name}
use Rattle.edit_log_meaning.specs.Log.{Edit, Log, library_of, text_of, stamp_of}
use Rattle.edit_log_laws.specs.LogLaws.{left_by}
use Rattle.edit_log_laws.proofs.Libraries.{text_last, stamp_after_last, stamp_past}
use Rattle.board_meaning.specs.Events.{Entry, History, edit_in, log_of, library_after, version_after, stamp_after}
use Rattle.board_meaning.specs.Standing.{is_edit_of, is_edited}
use Rattle.std.proofs.lemmas.List.Elements.{filter_map-append}

cons_append : {A : Type 0} (o : Option A) (xs ys : List A) → cons_option o (xs ++ ys) ≡ cons_option o xs ++ ys
cons_append None xs ys = refl
cons_append (Some x) xs ys = refl

one_option : {A : Type 0} (o : Option A) → cons_option o [] ≡ option_to_list o
one_option None = refl
one_option (Some x) = refl

pub filter_map_last : {A B : Type 0} (f : A → Option B) (xs : List A) (x : A) → filter_map f (xs ++ x ∷ []) ≡ filter_map f xs ++ option_to_list (f x)
filter_map_last f xs x = filter_map-append f xs (x ∷ []) ∙ ap (λ z. filter_map f xs ++ z) (one_option (f x))

pub log_append : (H K : History) → log_of (H ++ K) ≡ log_of H ++ log_of K
unfolding log_of
log_append H K = filter_map-append edit_in H K

pub log_last : (H : History) (e : Entry) → log_of (H ++ e ∷ []) ≡ log_of H ++ option_to_list (edit_in e)
unfolding log_of
log_last H e = filter_map_last edit_in H e

pub log_none : (H : History) (e : Entry) → edit_in e ≡ None → log_of (H ++ e ∷ []) ≡ log_of H
log_none H e h = log_last H e ∙ ap (λ o. log_of H ++ option_to_list o) h ∙ append-nil (log_of H)

pub log_some : (H : History) (e : Entry) (edit : Edit) → edit_in e ≡ Some edit → log_of (H ++ e ∷ []) ≡ log_of H ++ edit ∷ []
log_some H e edit h = log_last H e ∙ ap (λ o. log_of H ++ option_to_list o) h

pub version_grows : (H K : History) → version_after H ≤ version_after (H ++ K)
version_grows H K = let a = ap length (log_append H K) in let b = length-append (log_of H) (log_of K) in omega (arith, a, b)

-- ---- one more entry

text_kept : (log : Log) (o : Option Edit) (n : Name) → is_edit_of n o ≡ false → text_of (library_of (log ++ option_to_list o)) n ≡ text_of (library_of log) n
text_kept log None n h = ap (λ l. text_of (library_of l) n) (append-nil log)
text_kept log (Some edit) n h = text_last log edit n ∙ ap (λ b. cond b (left_by edit) (text_of (library_of log) n)) h

pub text_entry : (H : History) (e : Entry) (n : Name) → is_edit_of n (edit_in e) ≡ false → text_of (library_after (H ++ e ∷ [])) n ≡ text_of (library_after H) n
text_entry H e n h = ap (λ l. text_of (library_of l) n) (log_last H e) ∙ text_kept (log_of H) (edit_in e) n h

stamp_kept : (log : Log) (o : Option Edit) (n : Name) → is_edit_of n o ≡ false → stamp_of (log ++ option_to_list o) n ≡ stamp_of log n
stamp_kept log None n h = ap (λ l. stamp_of l n) (append-nil log)
stamp_kept log (Some edit) n h = stamp_after_last log edit n ∙ ap (λ b. cond b (suc (length log)) (stamp_of log n)) h

stamp_new : (log : Log) (o : Option Edit) (n : Name) → is_edit_of n o ≡ true → stamp_of (log ++ option_to_list o) n ≡ suc (length log)
stamp_new log None n h = absurd (true≢false (sym h))
stamp_new log (Some edit) n h = stamp_after_last log edit n ∙ ap (λ b. cond b (suc (length log)) (stamp_of log n)) h

pub stamp_entry : (H : History) (e : Entry) (n : Name) → is_edit_of n (edit_in e) ≡ false → stamp_after (H ++ e ∷ []) n ≡ stamp_after H n
stamp_entry H e n h = ap (λ l. stamp_of l n) (log_last H e) ∙ stamp_kept (log_of H) (edit_in e) n h

pub stamp_edit : (H : History) (e : Entry) (n : Name) → is_edit_of n (edit_in e) ≡ true → stamp_after (H ++ e ∷ []) n ≡ suc (version_after H)
stamp_edit H e n h = ap (λ l. stamp_of l n) (log_last H e) ∙ stamp_new (log_of H) (edit_in e) n h

-- ---- more entries

behind : (H : History) (e : Entry) (K : History) → H ++ e ∷ K ≡ (H ++ e ∷ []) ++ K
behind H e K = sym (append_assoc H (e ∷ []) K)

pub unedited_text : (H K : History) (n : Name) → is_edited K n ≡ false → text_of (library_after (H ++ K)) n ≡ text_of (library_after H) n
unfolding is_edited
unedited_text H [] n h = ap (λ z. text_of (library_after z) n) (append-nil H)
unedited_text H (e ∷ K) n h =
    let p = or_parts (is_edit_of n (edit_in e)) (is_edited K n) h in
    ap (λ z. text_of (library_after z) n) (behind H e K) ∙ unedited_text (H ++ e ∷ []) K n p.1 ∙ text_entry H e n p.0

pub unedited_stamp : (H K : History) (n : Name) → is_edited K n ≡ false → stamp_after (H ++ K) n ≡ stamp_after H n
unfolding is_edited
unedited_stamp H [] n h = ap (λ z. stamp_after z n) (append-nil H)
unedited_stamp H (e ∷ K) n h =
    let p = or_parts (is_edit_of n (edit_in e)) (is_edited K n) h in
    ap (λ z. stamp_after z n) (behind H e K) ∙ unedited_stamp (H ++ e ∷ []) K n p.1 ∙ stamp_entry H e n p.0

pub edited_stamp : (H K : History) (n : Name) → is_edited K n ≡ true → version_after H < stamp_after (H ++ K) n
unfolding is_edited
edited_stamp H [] n h = absurd (true≢false (sym h))
edited_stamp H (e ∷ K) n h =
    subst (λ z. version_after H < stamp_after z n) (sym (behind H e K))
    (⊎_elim
    (λ m. let a = edited_stamp (H ++ e ∷ []) K n m in let b = version_grows H (e ∷ []) in omega (arith, a, b))
    (λ m. let a = unedited_stamp (H ++ e ∷ []) K n m in
    let b = stamp_edit H e n (⊎_elim (λ f. f) (λ f. absurd (true≢false (sym f ∙ m))) (or_cases (is_edit_of n (edit_in e)) (is_edited K n) h)) in
    omega (arith, a, b))
    (cases_Bool (is_edited K n)))

pub stamp_grows : (H K : History) (n : Name) → stamp_after H n ≤ stamp_after (H ++ K) n
stamp_grows H K n =
    ⊎_elim (λ m. let a = edited_stamp H K n m in let b = stamp_past (log_of H) n in omega (arith, a, b))
    (λ m. let a = unedited_stamp H K n m in omega (arith, a)) (cases_Bool (is_edited K n))

pub edited_append : (H K : History) (n : Name) → is_edited (H ++ K) n ≡ (is_edited H n || is_edited K n)
unfolding is_edited
edited_append [] K n = refl
edited_append (e ∷ H) K n = ap (λ z. is_edit_of n (edit_in e) || z) (edited_append H K n) ∙ sym (or_assoc (is_edit_of n (edit_in e)) (is_edited H n) (is_edited K n))
  where
    or_assoc : (a b c : Bool) → ((a || b) || c) ≡ (a || (b || c))
    or_assoc true b c = refl
    or_assoc false b c = refl
