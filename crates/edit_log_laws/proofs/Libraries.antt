-- The library and the stamps after one more edit.
use Rattle.std.proofs.Common.{◌≡◌, ℕ, suc, ◌+◌, ◌<◌, ◌≤◌, max, Bool, true, false, not, cond, List, [], ◌∷◌, ◌++◌, length, filter, fold, Option, Some, None, is_some, ◌||◌, refl, sym, ap, ◌∙◌, subst, arith}
use Rattle.std.specs.List.{list_all}
use Rattle.std.proofs.lemmas.Bool.{and_parts, and_from}
use Rattle.name_meaning.specs.Names.{Name, Text, same_name, comes_before, is_among, is_ascending, with_name}
use Rattle.edit_log_meaning.specs.Log.{Edit, Put, Drop, edited_name, Log, Module, Library, names_of, with_module, without_module, edited, library_of, text_of, is_present, version_of, stamp_from, stamp_of}
use Rattle.edit_log_laws.specs.LogLaws.{left_by}
use Rattle.list_laws.proofs.Members.{Member, in_map, map_in, in_filter, all_at, all_of}
use Rattle.name_laws.proofs.Order.{same_sound, with_ascending}
use Rattle.name_laws.proofs.Rows.{same_branch, other_branch, not_both, same_as, same_either}

-- ---- texts

module_of : Name → Text → Module
module_of n t = record { name = n; text = t }

put_by : (n : Name) (t : Text) (o : Module) (library more : Library) (m : Name) (same before : Bool) → same_name n o.name ≡ same
    → text_of more m ≡ cond (same_name m n) (Some t) (text_of library m)
    → text_of (cond same (record { name = n; text = t } ∷ library) (cond before (record { name = n; text = t } ∷ o ∷ library) (o ∷ more))) m
    ≡ cond (same_name m n) (Some t) (cond (same_name m o.name) (Some o.text) (text_of library m))
unfolding text_of
put_by n t o library more m true before s h = same_branch (same_name m n) (same_name m o.name) (Some t) (text_of library m) (Some o.text) (same_as n m o.name s)
put_by n t o library more m false true s h = refl
put_by n t o library more m false false s h =
    other_branch (same_name m n) (same_name m o.name) (Some t) (text_of library m) (Some o.text) (text_of more m) (not_both n m o.name s) h

pub text_with : (n : Name) (t : Text) (library : Library) (m : Name) → text_of (with_module n t library) m ≡ cond (same_name m n) (Some t) (text_of library m)
unfolding text_of with_module
text_with n t [] m = refl
text_with n t (o ∷ library) m =
    put_by n t o library (with_module n t library) m (same_name n o.name) (comes_before n o.name) refl (text_with n t library m)

drop_by : (n : Name) (o : Module) (library rest : Library) (m : Name) (same : Bool) → same_name n o.name ≡ same
    → text_of rest m ≡ cond (same_name m n) None (text_of library m)
    → text_of (cond (not same) (o ∷ rest) rest) m ≡ cond (same_name m n) None (cond (same_name m o.name) (Some o.text) (text_of library m))
unfolding text_of
drop_by n o library rest m true s h = h ∙ same_branch (same_name m n) (same_name m o.name) None (text_of library m) (Some o.text) (same_as n m o.name s)
drop_by n o library rest m false s h =
    other_branch (same_name m n) (same_name m o.name) None (text_of library m) (Some o.text) (text_of rest m) (not_both n m o.name s) h

pub text_without : (n : Name) (library : Library) (m : Name) → text_of (without_module n library) m ≡ cond (same_name m n) None (text_of library m)
unfolding text_of without_module
text_without n [] m = same_either (same_name m n) None
text_without n (o ∷ library) m = drop_by n o library (without_module n library) m (same_name n o.name) refl (text_without n library m)

pub text_edited : (library : Library) (e : Edit) (m : Name) → text_of (edited library e) m ≡ cond (same_name m (edited_name e)) (left_by e) (text_of library m)
text_edited library (Put n t) m = text_with n t library m
text_edited library (Drop n) m = text_without n library m

pub fold_last : {A B : Type 0} (f : B → A → B) (b : B) (xs : List A) (x : A) → fold f b (xs ++ x ∷ []) ≡ f (fold f b xs) x
fold_last f b [] x = refl
fold_last f b (y ∷ xs) x = fold_last f (f b y) xs x

pub library_last : (log : Log) (e : Edit) → library_of (log ++ e ∷ []) ≡ edited (library_of log) e
unfolding library_of
library_last log e = fold_last edited [] log e

pub text_last : (log : Log) (e : Edit) (m : Name) → text_of (library_of (log ++ e ∷ [])) m ≡ cond (same_name m (edited_name e)) (left_by e) (text_of (library_of log) m)
text_last log e m = ap (λ l. text_of l m) (library_last log e) ∙ text_edited (library_of log) e m

-- ---- names

present_by : (t : Option Text) (b c : Bool) (u : Text) → is_some t ≡ c → is_some (cond b (Some u) t) ≡ (b || c)
present_by t true c u h = refl
present_by t false c u h = h

pub present_among : (library : Library) (n : Name) → is_present library n ≡ is_among (names_of library) n
unfolding text_of is_among
present_among [] n = refl
present_among (o ∷ library) n = present_by (text_of library n) (same_name n o.name) (is_among (names_of library) n) o.text (present_among library n)

names_by : (n : Name) (t : Text) (o : Module) (library more : Library) (same before : Bool) → same_name n o.name ≡ same
    → names_of more ≡ with_name n (names_of library)
    → names_of (cond same (record { name = n; text = t } ∷ library) (cond before (record { name = n; text = t } ∷ o ∷ library) (o ∷ more)))
    ≡ cond same (o.name ∷ names_of library) (cond before (n ∷ o.name ∷ names_of library) (o.name ∷ with_name n (names_of library)))
names_by n t o library more true before s h = ap (λ z. z ∷ names_of library) (same_sound n o.name s)
names_by n t o library more false true s h = refl
names_by n t o library more false false s h = ap (λ z. o.name ∷ z) h

pub names_with : (n : Name) (t : Text) (library : Library) → names_of (with_module n t library) ≡ with_name n (names_of library)
unfolding with_module with_name
names_with n t [] = refl
names_with n t (o ∷ library) = names_by n t o library (with_module n t library) (same_name n o.name) (comes_before n o.name) refl (names_with n t library)

all_kept : (p : Module → Bool) (k : Name) (library : Library) → list_all (comes_before k) (names_of library) ≡ true → list_all (comes_before k) (names_of (filter p library)) ≡ true
all_kept p k library h =
    all_of (comes_before k) (names_of (filter p library))
    (λ x m. let q = in_map (λ (own : Module). own.name) (filter p library) x m in
    all_at (comes_before k) (names_of library) x h (subst (λ z. Member z (names_of library)) (sym q.2) (map_in (λ (own : Module). own.name) library q.0 (in_filter p library q.0 q.1).0)))

ascending_kept : (p : Module → Bool) (library : Library) → is_ascending (names_of library) ≡ true → is_ascending (names_of (filter p library)) ≡ true
unfolding is_ascending
ascending_kept p [] h = refl
ascending_kept p (o ∷ library) h =
    let q = and_parts (list_all (comes_before o.name) (names_of library)) (is_ascending (names_of library)) h in
    kept_by (p o) (and_from (list_all (comes_before o.name) (names_of (filter p library))) (is_ascending (names_of (filter p library))) (all_kept p o.name library q.0) (ascending_kept p library q.1)) (ascending_kept p library q.1)
  where
    kept_by : (b : Bool) → is_ascending (names_of (o ∷ filter p library)) ≡ true → is_ascending (names_of (filter p library)) ≡ true → is_ascending (names_of (cond b (o ∷ filter p library) (filter p library))) ≡ true
    kept_by true f g = f
    kept_by false f g = g

pub edited_ascending : (library : Library) (e : Edit) → is_ascending (names_of library) ≡ true → is_ascending (names_of (edited library e)) ≡ true
unfolding without_module
edited_ascending library (Put n t) h = subst (λ z. is_ascending z ≡ true) (sym (names_with n t library)) (with_ascending n (names_of library) h)
edited_ascending library (Drop n) h = ascending_kept (λ (own : Module). not (same_name n own.name)) library h

fold_ascending : (library : Library) (log : Log) → is_ascending (names_of library) ≡ true → is_ascending (names_of (fold edited library log)) ≡ true
fold_ascending library [] h = h
fold_ascending library (e ∷ log) h = fold_ascending (edited library e) log (edited_ascending library e h)

pub library_ascending : (log : Log) → is_ascending (names_of (library_of log)) ≡ true
unfolding library_of is_ascending
library_ascending log = fold_ascending [] log refl

-- ---- stamps

stamp_by : (v k : ℕ) (b s : Bool) (rest more : ℕ) → more ≡ cond s (suc v + k) rest → max (cond b v 0) more ≡ cond s (v + suc k) (max (cond b v 0) rest)
stamp_by v k true true rest more h = omega (arith, h)
stamp_by v k false true rest more h = omega (arith, h)
stamp_by v k true false rest more h = ap (max v) h
stamp_by v k false false rest more h = ap (max 0) h

stamp_first : (v : ℕ) (s : Bool) → max (cond s v 0) 0 ≡ cond s (v + 0) 0
stamp_first v true = omega arith
stamp_first v false = refl

pub stamp_last : (v : ℕ) (log : Log) (e : Edit) (n : Name) → stamp_from v (log ++ e ∷ []) n ≡ cond (same_name n (edited_name e)) (v + length log) (stamp_from v log n)
unfolding stamp_from
stamp_last v [] e n = stamp_first v (same_name n (edited_name e))
stamp_last v (x ∷ log) e n = stamp_by v (length log) (same_name n (edited_name x)) (same_name n (edited_name e)) (stamp_from (suc v) log n) (stamp_from (suc v) (log ++ e ∷ []) n) (stamp_last (suc v) log e n)

within_by : (v k : ℕ) (b : Bool) (rest : ℕ) → rest < suc v + k → max (cond b v 0) rest < v + suc k
within_by v k true rest h = omega (arith, h)
within_by v k false rest h = omega (arith, h)

pub stamp_within : (v : ℕ) (log : Log) (n : Name) → 0 < v → stamp_from v log n < v + length log
unfolding stamp_from
stamp_within v [] n h = omega (arith, h)
stamp_within v (x ∷ log) n h = within_by v (length log) (same_name n (edited_name x)) (stamp_from (suc v) log n) (stamp_within (suc v) log n (omega arith))

pub stamp_after_last : (log : Log) (e : Edit) (n : Name) → stamp_of (log ++ e ∷ []) n ≡ cond (same_name n (edited_name e)) (suc (version_of log)) (stamp_of log n)
stamp_after_last log e n = stamp_last 1 log e n ∙ ap (λ z. cond (same_name n (edited_name e)) z (stamp_of log n)) (omega arith)

pub stamp_past : (log : Log) (n : Name) → stamp_of log n ≤ version_of log
stamp_past log n = let h = stamp_within 1 log n (omega arith) in omega (arith, h)
