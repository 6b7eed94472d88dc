-- What an edit that is made has passed, and the limits of the log.
use Rattle.std.proofs.Common.{◌≡◌, ℕ, suc, ◌+◌, ◌<◌, ◌≤◌, Bool, true, false, not, cond, [], ◌∷◌, ◌++◌, length, filter, nat_le, nat_lt, ◌&&◌, ◌⊎◌, inl, inr, ⊎_elim, refl, sym, ap, ◌∙◌, subst, true≢false, arith, leb-false, ltb-false, length-append}
use Rattle.std.specs.List.{list_all}
use Rattle.std.proofs.lemmas.Bool.Decides.{nat_tests}
use Rattle.std.proofs.lemmas.List.Folds.{list_all-append}
use Rattle.std.proofs.lemmas.Bool.{and_cases, and_from, or_parts}
use Rattle.name_meaning.specs.Names.{Name, Text, same_name, comes_before, is_ascending}
use Rattle.edit_log_meaning.specs.Log.{Edit, Put, Drop, Log, Module, Library, names_of, with_module, without_module, edited, library_of, text_of, is_present, version_of}
use Rattle.name_meaning.specs.Limits.{text_limit, module_limit, edit_limit, total_limit}
use Rattle.edit_log_meaning.specs.Append.{Edited, Made, Same, Absent, Full, TooLong, TooMany, size_of, is_short, total_size, is_full, is_text, append_answer, log_after, appended, IsWithinLimits}
use Rattle.edit_log_laws.proofs.Libraries.{fold_last, library_last, library_ascending, names_with, present_among}
use Rattle.name_laws.proofs.Order.{among_member, with_present}

tested : (b : Bool) (x y : Edited) (v : ℕ) → (x ≡ Made v → ⊥) → cond b x y ≡ Made v → (b ≡ false) × (y ≡ Made v)
tested true x y v f e = absurd (f e)
tested false x y v f e = (refl, e)

last_test : (b : Bool) (v w : ℕ) → cond b Full (Made w) ≡ Made v → (b ≡ false) × (v ≡ w)
last_test true v w e = absurd (cc)
last_test false v w e = (refl, cc)

-- an edit that is made finds the log not full, and gives the next version
pub made_not_full : (log : Log) (e : Edit) (v : ℕ) → append_answer log e ≡ Made v → (is_full log e ≡ false) × (v ≡ suc (version_of log))
unfolding append_answer
made_not_full log (Put n t) v h =
    let a = tested (nat_lt text_limit (length t)) TooLong _ v (λ e. cc) h in
    let b = tested (is_text t (text_of (library_of log) n)) (Same (version_of log)) _ v (λ e. cc) a.1 in
    let c = tested (not (is_present (library_of log) n) && nat_le module_limit (length (library_of log))) TooMany _ v (λ e. cc) b.1 in
    last_test (is_full log (Put n t)) v (suc (version_of log)) c.1
made_not_full log (Drop n) v h =
    let a = tested (not (is_present (library_of log) n)) (Absent (version_of log)) _ v (λ e. cc) h in
    last_test (is_full log (Drop n)) v (suc (version_of log)) a.1

-- a text that is put is no longer than its limit
pub made_short : (log : Log) (e : Edit) (v : ℕ) → append_answer log e ≡ Made v → is_short e ≡ true
unfolding append_answer
made_short log (Put n t) v h =
    let a = tested (nat_lt text_limit (length t)) TooLong _ v (λ e. cc) h in by (length t) text_limit (ltb-false text_limit (length t) a.0)
  where
    by : (k l : ℕ) → k ≤ l → nat_le k l ≡ true
    by k l le = grind (arith, nat_tests)
made_short log (Drop n) v h = refl

-- the name of a text that is put is there, or there is room for it
pub made_put : (log : Log) (n : Name) (t : Text) (v : ℕ) → append_answer log (Put n t) ≡ Made v → (is_present (library_of log) n ≡ true) ⊎ (length (library_of log) < module_limit)
unfolding append_answer
made_put log n t v h =
    let a = tested (nat_lt text_limit (length t)) TooLong _ v (λ e. cc) h in
    let b = tested (is_text t (text_of (library_of log) n)) (Same (version_of log)) _ v (λ e. cc) a.1 in
    let c = tested (not (is_present (library_of log) n) && nat_le module_limit (length (library_of log))) TooMany _ v (λ e. cc) b.1 in
    ⊎_elim (λ e. inl (present (is_present (library_of log) n) e)) (λ e. inr (leb-false module_limit (length (library_of log)) e))
    (and_cases (not (is_present (library_of log) n)) (nat_le module_limit (length (library_of log))) c.0)
  where
    present : (b : Bool) → not b ≡ false → b ≡ true
    present true e = refl
    present false e = absurd (true≢false e)

-- ---- how many modules

longer_by : (n : Name) (t : Text) (o : Module) (library more : Library) (same before : Bool) → length more ≤ suc (length library)
    → length (cond same (record { name = n; text = t } ∷ library) (cond before (record { name = n; text = t } ∷ o ∷ library) (o ∷ more))) ≤ suc (suc (length library))
longer_by n t o library more true before h = omega arith
longer_by n t o library more false true h = omega arith
longer_by n t o library more false false h = omega (arith, h)

length_with : (n : Name) (t : Text) (library : Library) → length (with_module n t library) ≤ suc (length library)
unfolding with_module
length_with n t [] = omega arith
length_with n t (o ∷ library) = longer_by n t o library (with_module n t library) (same_name n o.name) (comes_before n o.name) (length_with n t library)

length_names : (library : Library) → length (names_of library) ≡ length library
length_names [] = refl
length_names (o ∷ library) = ap suc (length_names library)

length_present : (n : Name) (t : Text) (library : Library) → is_ascending (names_of library) ≡ true → is_present library n ≡ true → length (with_module n t library) ≡ length library
length_present n t library h p =
    sym (length_names (with_module n t library)) ∙ ap length (names_with n t library)
    ∙ ap length (with_present n (names_of library) h (among_member (names_of library) n (sym (present_among library n) ∙ p))) ∙ length_names library

length_filter : (p : Module → Bool) (library : Library) → length (filter p library) ≤ length library
length_filter p [] = omega arith
length_filter p (o ∷ library) = by (p o) (length_filter p library)
  where
    by : (b : Bool) → length (filter p library) ≤ length library → length (cond b (o ∷ filter p library) (filter p library)) ≤ suc (length library)
    by true h = omega (arith, h)
    by false h = omega (arith, h)

room_after : (log : Log) (e : Edit) (v : ℕ) → append_answer log e ≡ Made v → length (library_of log) ≤ module_limit → length (edited (library_of log) e) ≤ module_limit
unfolding without_module
room_after log (Put n t) v h g =
    ⊎_elim (λ p. subst (λ k. k ≤ module_limit) (sym (length_present n t (library_of log) (library_ascending log) p)) g)
    (λ p. let q = length_with n t (library_of log) in omega (arith, q, p)) (made_put log n t v h)
room_after log (Drop n) v h g = let q = length_filter (λ (own : Module). not (same_name n own.name)) (library_of log) in omega (arith, q, g)

pub total_last : (log : Log) (e : Edit) → total_size (log ++ e ∷ []) ≡ total_size log + size_of e
total_last log e = fold_last (λ (total : ℕ) (x : Edit). total + size_of x) 0 log e

pub made_within : (log : Log) (e : Edit) (v : ℕ) → append_answer log e ≡ Made v → IsWithinLimits log → IsWithinLimits (log ++ e ∷ [])
made_within log e v h w =
    let p = made_not_full log e v h in
    let q = or_parts (nat_le edit_limit (version_of log)) (nat_lt total_limit (total_size log + size_of e)) p.0 in
    record {
      texts = list_all-append is_short log (e ∷ []) ∙ and_from (list_all is_short log) (list_all is_short (e ∷ [])) w.texts (and_from (is_short e) true (made_short log e v h) refl);
      edits = let a = leb-false edit_limit (version_of log) q.0 in let b = length-append log (e ∷ []) in omega (arith, a, b);
      modules = subst (λ l. length l ≤ module_limit) (sym (library_last log e)) (room_after log e v h w.modules);
      total = let a = ltb-false total_limit (total_size log + size_of e) q.1 in let b = total_last log e in omega (arith, a, b);
    }

kept_by : (log : Log) (e : Edit) (a : Edited) → append_answer log e ≡ a → IsWithinLimits log → IsWithinLimits (log_after log e a)
kept_by log e (Made v) h w = made_within log e v h w
kept_by log e (Same v) h w = w
kept_by log e (Absent v) h w = w
kept_by log e Full h w = w
kept_by log e TooLong h w = w
kept_by log e TooMany h w = w

pub limits_kept : (log : Log) (e : Edit) → IsWithinLimits log → IsWithinLimits (appended log e)
unfolding appended
limits_kept log e w = kept_by log e (append_answer log e) refl w

pub empty_within : IsWithinLimits []
unfolding library_of
empty_within = record { texts = refl; edits = omega arith; modules = omega arith; total = omega arith }
