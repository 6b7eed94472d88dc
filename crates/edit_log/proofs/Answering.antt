-- The log's answer where each of its tests has been made.
use Rattle.std.proofs.Common.{◌≡◌, ℕ, suc, ◌+◌, ◌<◌, ◌≤◌, Bool, true, false, not, cond, [], ◌∷◌, ◌++◌, length, nat_le, nat_lt, ◌&&◌, ◌||◌, Some, None, is_some, refl, sym, ap, ◌∙◌, true≢false, arith}
use Rattle.std.specs.Str.{bytes_eq}
use Rattle.std.proofs.lemmas.Bool.Decides.{nat_tests}
use Rattle.std.proofs.lemmas.Bool.{or_parts}
use Rattle.name_meaning.specs.Names.{Name, Text}
use Rattle.edit_log_meaning.specs.Log.{Edit, Put, Drop, Log, library_of, text_of, is_present, version_of}
use Rattle.name_meaning.specs.Limits.{text_limit, module_limit, edit_limit, total_limit}
use Rattle.edit_log_meaning.specs.Append.{Edited, Made, Same, Absent, Full, TooLong, TooMany, size_of, total_size, is_full, is_text, made_unless_full, append_answer, log_after, appended}
use Rattle.edit_log_laws.proofs.Limits.{made_not_full}
use Rattle.name_laws.proofs.Order.{same_itself}

taken : {X : Type 0} (b : Bool) (x y : X) → b ≡ true → cond b x y ≡ x
taken true x y e = refl
taken false x y e = absurd (true≢false (sym e))

passed : {X : Type 0} (b : Bool) (x y : X) → b ≡ false → cond b x y ≡ y
passed true x y e = absurd (true≢false e)
passed false x y e = refl

is_above : (k l : ℕ) → l < k → nat_lt l k ≡ true
is_above k l h = grind (arith, nat_tests)

not_above : (k l : ℕ) → k ≤ l → nat_lt l k ≡ false
not_above k l h = grind (arith, nat_tests)

is_least : (k l : ℕ) → k ≤ l → nat_le k l ≡ true
is_least k l h = grind (arith, nat_tests)

not_least : (k l : ℕ) → l < k → nat_le k l ≡ false
not_least k l h = grind (arith, nat_tests)

module _ (log : Log) (n : Name) (t : Text) where
  pub put_long : text_limit < length t → append_answer log (Put n t) ≡ TooLong
  unfolding append_answer
  put_long h = taken (nat_lt text_limit (length t)) TooLong _ (is_above (length t) text_limit h)

  module _ (short : length t ≤ text_limit) where
    rest : Edited
    rest =
        cond (is_text t (text_of (library_of log) n)) (Same (version_of log))
        (cond (not (is_present (library_of log) n) && nat_le module_limit (length (library_of log))) TooMany (made_unless_full log (Put n t)))

    tested : append_answer log (Put n t) ≡ rest
    unfolding append_answer rest
    tested = passed (nat_lt text_limit (length t)) TooLong _ (not_above (length t) text_limit short)

    pub put_same : text_of (library_of log) n ≡ Some t → append_answer log (Put n t) ≡ Same (version_of log)
    unfolding rest
    put_same h = tested ∙ taken (is_text t (text_of (library_of log) n)) (Same (version_of log)) _ (ap (is_text t) h ∙ same_itself t)

    pub put_too_many : text_of (library_of log) n ≡ None → module_limit ≤ length (library_of log) → append_answer log (Put n t) ≡ TooMany
    unfolding rest
    put_too_many h many =
        tested ∙ passed (is_text t (text_of (library_of log) n)) (Same (version_of log)) _ (ap (is_text t) h)
        ∙ taken (not (is_present (library_of log) n) && nat_le module_limit (length (library_of log))) TooMany _ ((λ i. not (is_some (h i)) && is_least module_limit (length (library_of log)) many i))

    pub put_new : text_of (library_of log) n ≡ None → length (library_of log) < module_limit → append_answer log (Put n t) ≡ made_unless_full log (Put n t)
    unfolding rest
    put_new h few =
        tested ∙ passed (is_text t (text_of (library_of log) n)) (Same (version_of log)) _ (ap (is_text t) h)
        ∙ passed (not (is_present (library_of log) n) && nat_le module_limit (length (library_of log))) TooMany _ ((λ i. not (is_some (h i)) && not_least module_limit (length (library_of log)) few i))

    pub put_other : (u : Text) → text_of (library_of log) n ≡ Some u → bytes_eq t u ≡ false → append_answer log (Put n t) ≡ made_unless_full log (Put n t)
    unfolding rest
    put_other u h different =
        tested ∙ passed (is_text t (text_of (library_of log) n)) (Same (version_of log)) _ (ap (is_text t) h ∙ different)
        ∙ passed (not (is_present (library_of log) n) && nat_le module_limit (length (library_of log))) TooMany _ ((λ i. not (is_some (h i)) && nat_le module_limit (length (library_of log))))

pub drop_absent : (log : Log) (n : Name) → text_of (library_of log) n ≡ None → append_answer log (Drop n) ≡ Absent (version_of log)
unfolding append_answer
drop_absent log n h = taken (not (is_present (library_of log) n)) (Absent (version_of log)) _ (ap (λ o. not (is_some o)) h)

pub drop_present : (log : Log) (n : Name) (u : Text) → text_of (library_of log) n ≡ Some u → append_answer log (Drop n) ≡ made_unless_full log (Drop n)
unfolding append_answer
drop_present log n u h = passed (not (is_present (library_of log) n)) (Absent (version_of log)) _ (ap (λ o. not (is_some o)) h)

or_either : (b c : Bool) → (b ≡ true) → (b || c) ≡ true
or_either true c e = refl
or_either false c e = absurd (true≢false (sym e))

or_second : (b c : Bool) → (c ≡ true) → (b || c) ≡ true
or_second true c e = refl
or_second false c e = e

or_none : (b c : Bool) → b ≡ false → c ≡ false → (b || c) ≡ false
or_none true c e f = absurd (true≢false e)
or_none false c e f = f

pub full_by_edits : (log : Log) (e : Edit) → edit_limit ≤ version_of log → made_unless_full log e ≡ Full
full_by_edits log e h = taken (is_full log e) Full _ (or_either (nat_le edit_limit (version_of log)) _ (is_least edit_limit (version_of log) h))

pub full_by_size : (log : Log) (e : Edit) → total_limit < total_size log + size_of e → made_unless_full log e ≡ Full
full_by_size log e h = taken (is_full log e) Full _ (or_second (nat_le edit_limit (version_of log)) _ (is_above (total_size log + size_of e) total_limit h))

pub not_full : (log : Log) (e : Edit) → version_of log < edit_limit → total_size log + size_of e ≤ total_limit → made_unless_full log e ≡ Made (suc (version_of log))
not_full log e h g =
    passed (is_full log e) Full _
    (or_none (nat_le edit_limit (version_of log)) _ (not_least edit_limit (version_of log) h) (not_above (total_size log + size_of e) total_limit g))

-- an edit that is made fits, and is appended
pub made_fits : (log : Log) (e : Edit) (v : ℕ) → append_answer log e ≡ Made v → (total_size log + size_of e ≤ total_limit) × (version_of log < edit_limit)
made_fits log e v h =
    let f = or_parts (nat_le edit_limit (version_of log)) (nat_lt total_limit (total_size log + size_of e)) (made_not_full log e v h).0 in
    (under (total_size log + size_of e) total_limit f.1, below (version_of log) edit_limit f.0)
  where
    under : (k l : ℕ) → nat_lt l k ≡ false → k ≤ l
    under k l e = grind (arith, nat_tests)

    below : (k l : ℕ) → nat_le l k ≡ false → k < l
    below k l e = grind (arith, nat_tests)

pub made_next : (log : Log) (e : Edit) (v : ℕ) → append_answer log e ≡ Made v → append_answer log e ≡ Made (suc (version_of log))
made_next log e v h = h ∙ ap Made (made_not_full log e v h).1

pub made_appended : (log : Log) (e : Edit) (v : ℕ) → append_answer log e ≡ Made v → appended log e ≡ log ++ e ∷ []
unfolding appended
made_appended log e v h = ap (log_after log e) h

-- an edit that is not made leaves the log
pub same_appended : (log : Log) (e : Edit) (v : ℕ) → append_answer log e ≡ Same v → appended log e ≡ log
unfolding appended
same_appended log e v h = ap (log_after log e) h

pub absent_appended : (log : Log) (e : Edit) (v : ℕ) → append_answer log e ≡ Absent v → appended log e ≡ log
unfolding appended
absent_appended log e v h = ap (log_after log e) h
