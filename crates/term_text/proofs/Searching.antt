-- The search for a prefix that no own constant clashes with.
use Rattle.std.specs.Prelude.{◌||◌, length, codes, slice_get}
use Rattle.std.proofs.Common.{◌≡◌, ℕ, zero, suc, ◌+◌, ◌<◌, ◌≤◌, true, false, cond, List, [], ◌∷◌, ◌++◌, drop, Some, refl, sym, ap, ◌∙◌, ⊎_elim, true≢false, arith, add-one}
use Rattle.std.proofs.Math.Seq.{drop-cons}
use Rattle.std.proofs.lemmas.Bool.{cases_lt}
use Rattle.std.proofs.lemmas.List.{drop_all}
use Rattle.std.proofs.lemmas.Option.{slice_get_within, get_or_from_slice_get}
use Rattle.lf_meaning.specs.Signatures.{Declaration, Signature}
use Rattle.printing_meaning.specs.Prefixes.{marks, prefix_with, clashes, is_taken, free_from, enough, prefix_of}
use Rattle.printing_laws.proofs.FreePrefixes.{length-marks, long_is_free}

-- The prefix has so many marks; with as many tries left the search from here on finds what it finds from the first one.
pub record Sought (own : Signature) (prefix : List ℕ) : Type 0 where
  pub count : ℕ
  pub tries : ℕ
  pub all : tries + count ≡ enough own
  pub is : prefix ≡ prefix_with count
  pub same : free_from own tries count ≡ free_from own (enough own) 0

one_mark_more : (n : ℕ) → marks n ++ 39 ∷ [] ≡ marks (suc n)
unfolding marks
one_mark_more zero = refl
one_mark_more (suc n) = ap (λ z. 39 ∷ z) (one_mark_more n)

pub sought_first : (own : Signature) → Sought own (codes "x")
unfolding marks
sought_first own = record { count = 0; tries = enough own; all = omega arith; is = refl; same = refl }

-- a prefix that is taken is shorter than all names together
pub taken_is_short : (own : Signature) (prefix : List ℕ) → is_taken own prefix ≡ true → length prefix < enough own
taken_is_short own prefix h =
    ⊎_elim (λ (less : length prefix < enough own). less) (λ (long : enough own ≤ length prefix). absurd (true≢false (sym h ∙ long_is_free own prefix long))) (cases_lt (length prefix) (enough own))

pub sought_next : (own : Signature) (prefix : List ℕ) → Sought own prefix → is_taken own prefix ≡ true → Sought own (prefix ++ 39 ∷ [])
unfolding free_from
sought_next own prefix s h = by s.tries s.all s.same
  where
    more : prefix ++ 39 ∷ [] ≡ prefix_with (suc s.count)
    more = ap (λ z. z ++ 39 ∷ []) s.is ∙ ap (λ z. codes "x" ++ z) (one_mark_more s.count)

    by : (tries : ℕ) → tries + s.count ≡ enough own → free_from own tries s.count ≡ free_from own (enough own) 0 → Sought own (prefix ++ 39 ∷ [])
    by zero all same =
        let short = taken_is_short own prefix h in
        let long = ap length s.is in
        let counted = length-marks s.count in
        absurd (omega (arith, short, long, counted, all))
    by (suc tries) all same =
        let taken = ap (is_taken own) (sym s.is) ∙ h in
        record {
          count = suc s.count;
          tries = tries;
          all = omega (arith, all);
          is = more;
          same = sym (ap (λ b. cond b (free_from own tries (suc s.count)) s.count) taken) ∙ same;
        }

pub sought_end : (own : Signature) (prefix : List ℕ) → Sought own prefix → is_taken own prefix ≡ false → prefix ≡ prefix_of own
unfolding prefix_of free_from
sought_end own prefix s h = s.is ∙ ap prefix_with (by s.tries s.same)
  where
    by : (tries : ℕ) → free_from own tries s.count ≡ free_from own (enough own) 0 → s.count ≡ free_from own (enough own) 0
    by zero same = same
    by (suc tries) same = sym (ap (λ b. cond b (free_from own tries (suc s.count)) s.count) (ap (is_taken own) (sym s.is) ∙ h)) ∙ same

-- ---- the constants that are left

pub next_taken : (own : Signature) (prefix : List ℕ) (i : ℕ) (d : Declaration) → slice_get own i ≡ Some d → is_taken (drop i own) prefix ≡ (clashes prefix d.name.path || is_taken (drop (i + 1) own) prefix)
next_taken own prefix i d there =
    let within : i < length own = slice_get_within own i d there in
    let left : drop i own ≡ d ∷ drop (i + 1) own = rw add-one (drop-cons own i d within ∙ ap (λ y. y ∷ drop (suc i) own) (get_or_from_slice_get own i d d there)) in
    ap (λ xs. is_taken xs prefix) left

pub none_left : (own : Signature) (prefix : List ℕ) (i : ℕ) → length own ≤ i → is_taken (drop i own) prefix ≡ false
none_left own prefix i past = ap (λ xs. is_taken xs prefix) (drop_all i own past)
