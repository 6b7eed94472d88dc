-- Names in byte order.
use Rattle.std.proofs.Common.{◌≡◌, Bool, true, false, List, [], ◌∷◌, filter, ◌⊎◌, inl, inr, ⊎_elim, cond, refl, sym, ap, ◌∙◌, subst, true≢false, ◌&&◌}
use Rattle.std.specs.List.{list_all}
use Rattle.std.proofs.Common.{Ordering, Less, Equal, Greater}
use Rattle.std.specs.Ordering.{nat_cmp, is_lt, is_eq, ordering_reverse}
use Rattle.std.specs.Cmp.Lexicographic.{slice_cmp, nat_list_cmp_total, texts_ties}
use Rattle.std.proofs.lemmas.Slice.Eq.{bytes_eq-Decides}
use Rattle.std.proofs.lemmas.Bool.{cases_Bool, and_parts, and_from}
use Rattle.name_meaning.specs.Names.{Name, same_name, comes_before, is_among, is_ascending, with_name, with_names}
use Rattle.list_laws.proofs.Members.{Member, any_found, any_of, all_at, all_of, in_filter}

pub same_sound : (n m : Name) → same_name n m ≡ true → n ≡ m
same_sound n m h = (bytes_eq-Decides n m).0 h

pub same_itself : (n : Name) → same_name n n ≡ true
same_itself n = (bytes_eq-Decides n n).1 refl

pub same_of : (n m : Name) → n ≡ m → same_name n m ≡ true
same_of n m e = (bytes_eq-Decides n m).1 e

pub same_turned : (n m : Name) → same_name n m ≡ false → same_name m n ≡ false
same_turned n m h = ⊎_elim (λ e. absurd (true≢false (sym (same_of n m (sym (same_sound m n e))) ∙ h))) (λ e. e) (cases_Bool (same_name m n))

less_is : (r : Ordering) → is_lt r ≡ true → r ≡ Less
less_is Less h = refl
less_is Equal h = absurd (true≢false (sym h))
less_is Greater h = absurd (true≢false (sym h))

pub before_trans : (n m k : Name) → comes_before n m ≡ true → comes_before m k ≡ true → comes_before n k ≡ true
before_trans n m k h g = ap is_lt (nat_list_cmp_total.trans n m k (less_is (slice_cmp nat_cmp n m) h) (less_is (slice_cmp nat_cmp m k) g))

-- the second comes first, where neither the two are one nor the first comes first
pub before_turned : (n m : Name) → same_name n m ≡ false → comes_before n m ≡ false → comes_before m n ≡ true
before_turned n m h g = by (slice_cmp nat_cmp n m) refl
  where
    by : (r : Ordering) → slice_cmp nat_cmp n m ≡ r → comes_before m n ≡ true
    by Less e = absurd (true≢false (ap is_lt (sym e) ∙ g))
    by Equal e = absurd (true≢false (sym (texts_ties n m ∙ ap is_eq e) ∙ h))
    by Greater e = ap is_lt (nat_list_cmp_total.antisymm m n ∙ ap ordering_reverse e)

pub not_before_itself : (n : Name) → comes_before n n ≡ true → ⊥
not_before_itself n h = true≢false (sym (same_itself n) ∙ texts_ties n n ∙ ap is_eq (less_is (slice_cmp nat_cmp n n) h))

pub among_member : (names : List Name) (n : Name) → is_among names n ≡ true → Member n names
unfolding is_among
among_member names n h = let q = any_found (same_name n) names h in subst (λ m. Member m names) (sym (same_sound n q.0 q.2)) q.1

pub member_among : (names : List Name) (n : Name) → Member n names → is_among names n ≡ true
unfolding is_among
member_among names n m = any_of (same_name n) names n m (same_itself n)

-- ---- one more name at its place

with_by : (names more : List Name) (n m x : Name) (same before : Bool) → same_name n m ≡ same → (Member x more → (x ≡ n) ⊎ Member x names)
    → Member x (cond same (m ∷ names) (cond before (n ∷ m ∷ names) (m ∷ more))) → (x ≡ n) ⊎ Member x (m ∷ names)
with_by names more n m x true before s f h = inr h
with_by names more n m x false true s f (inl e) = inl e
with_by names more n m x false true s f (inr h) = inr h
with_by names more n m x false false s f (inl e) = inr (inl e)
with_by names more n m x false false s f (inr h) = ⊎_elim (λ e. inl e) (λ g. inr (inr g)) (f h)

pub in_with : (n : Name) (names : List Name) (x : Name) → Member x (with_name n names) → (x ≡ n) ⊎ Member x names
unfolding with_name
in_with n [] x (inl e) = inl e
in_with n [] x (inr m) = absurd m
in_with n (m ∷ names) x h = with_by names (with_name n names) n m x (same_name n m) (comes_before n m) refl (in_with n names x) h

new_by : (names more : List Name) (n m : Name) (same before : Bool) → same_name n m ≡ same → Member n more → Member n (cond same (m ∷ names) (cond before (n ∷ m ∷ names) (m ∷ more)))
new_by names more n m true before s f = inl (same_sound n m s)
new_by names more n m false true s f = inl refl
new_by names more n m false false s f = inr f

pub with_new : (n : Name) (names : List Name) → Member n (with_name n names)
unfolding with_name
with_new n [] = inl refl
with_new n (m ∷ names) = new_by names (with_name n names) n m (same_name n m) (comes_before n m) refl (with_new n names)

old_by : (names more : List Name) (n m x : Name) (same before : Bool) → (Member x names → Member x more) → Member x (m ∷ names) → Member x (cond same (m ∷ names) (cond before (n ∷ m ∷ names) (m ∷ more)))
old_by names more n m x true before f h = h
old_by names more n m x false true f h = inr h
old_by names more n m x false false f (inl e) = inl e
old_by names more n m x false false f (inr h) = inr (f h)

pub with_old : (n : Name) (names : List Name) (x : Name) → Member x names → Member x (with_name n names)
unfolding with_name
with_old n [] x h = absurd h
with_old n (m ∷ names) x h = old_by names (with_name n names) n m x (same_name n m) (comes_before n m) (with_old n names x) h

pub all_before_with : (k n : Name) (names : List Name) → comes_before k n ≡ true → list_all (comes_before k) names ≡ true → list_all (comes_before k) (with_name n names) ≡ true
all_before_with k n names b h = all_of (comes_before k) (with_name n names) (λ x m. ⊎_elim (λ e. subst (λ z. comes_before k z ≡ true) (sym e) b) (λ q. all_at (comes_before k) names x h q) (in_with n names x m))

pub all_before_more : (k n : Name) (names : List Name) → comes_before k n ≡ true → list_all (comes_before n) names ≡ true → list_all (comes_before k) names ≡ true
all_before_more k n names b h = all_of (comes_before k) names (λ x m. before_trans k n x b (all_at (comes_before n) names x h m))

ascending_by : (names more : List Name) (n m : Name) (same before : Bool) → same_name n m ≡ same → comes_before n m ≡ before
    → list_all (comes_before m) names ≡ true → is_ascending names ≡ true → is_ascending more ≡ true → (comes_before m n ≡ true → list_all (comes_before m) more ≡ true)
    → is_ascending (cond same (m ∷ names) (cond before (n ∷ m ∷ names) (m ∷ more))) ≡ true
unfolding is_ascending
ascending_by names more n m true before s b h a c f = and_from (list_all (comes_before m) names) (is_ascending names) h a
ascending_by names more n m false true s b h a c f =
    and_from (comes_before n m && list_all (comes_before n) names) (list_all (comes_before m) names && is_ascending names)
    (and_from (comes_before n m) (list_all (comes_before n) names) b (all_before_more n m names b h)) (and_from (list_all (comes_before m) names) (is_ascending names) h a)
ascending_by names more n m false false s b h a c f = and_from (list_all (comes_before m) more) (is_ascending more) (f (before_turned n m s b)) c

pub with_ascending : (n : Name) (names : List Name) → is_ascending names ≡ true → is_ascending (with_name n names) ≡ true
unfolding with_name is_ascending
with_ascending n [] h = refl
with_ascending n (m ∷ names) h =
    let p = and_parts (list_all (comes_before m) names) (is_ascending names) h in
    ascending_by names (with_name n names) n m (same_name n m) (comes_before n m) refl refl p.0 p.1 (with_ascending n names p.1) (λ b. all_before_with m n names b p.0)

-- ---- all of these names

pub in_with_all : (more names : List Name) (x : Name) → Member x (with_names more names) → Member x more ⊎ Member x names
unfolding with_names
in_with_all [] names x m = inr m
in_with_all (n ∷ more) names x m = ⊎_elim (λ e. inl (inl e)) (λ q. ⊎_elim (λ a. inl (inr a)) (λ b. inr b) (in_with_all more names x q)) (in_with n (with_names more names) x m)

pub with_all_new : (more names : List Name) (x : Name) → Member x more → Member x (with_names more names)
unfolding with_names
with_all_new [] names x m = absurd m
with_all_new (n ∷ more) names x (inl e) = subst (λ z. Member z (with_name n (with_names more names))) (sym e) (with_new n (with_names more names))
with_all_new (n ∷ more) names x (inr m) = with_old n (with_names more names) x (with_all_new more names x m)

pub with_all_old : (more names : List Name) (x : Name) → Member x names → Member x (with_names more names)
unfolding with_names
with_all_old [] names x m = m
with_all_old (n ∷ more) names x m = with_old n (with_names more names) x (with_all_old more names x m)

pub with_all_ascending : (more names : List Name) → is_ascending names ≡ true → is_ascending (with_names more names) ≡ true
unfolding with_names
with_all_ascending [] names h = h
with_all_ascending (n ∷ more) names h = with_ascending n (with_names more names) (with_all_ascending more names h)

-- ---- a name that is there already

there_by : (names more : List Name) (n m : Name) (same before : Bool) → same_name n m ≡ same → comes_before n m ≡ before
    → list_all (comes_before m) names ≡ true → Member n (m ∷ names) → (Member n names → more ≡ names)
    → cond same (m ∷ names) (cond before (n ∷ m ∷ names) (m ∷ more)) ≡ m ∷ names
there_by names more n m true before s b h g f = refl
there_by names more n m false before s b h (inl e) f = absurd (true≢false (sym (same_of n m e) ∙ s))
there_by names more n m false true s b h (inr g) f =
    absurd (not_before_itself n (before_trans n m n b (all_at (comes_before m) names n h g)))
there_by names more n m false false s b h (inr g) f = ap (λ z. m ∷ z) (f g)

pub with_present : (n : Name) (names : List Name) → is_ascending names ≡ true → Member n names → with_name n names ≡ names
unfolding with_name is_ascending
with_present n [] h m = absurd m
with_present n (k ∷ names) h m =
    let p = and_parts (list_all (comes_before k) names) (is_ascending names) h in
    there_by names (with_name n names) n k (same_name n k) (comes_before n k) refl refl p.0 m (with_present n names p.1)

-- ---- the names that pass a test

all_filtered : (p q : Name → Bool) (names : List Name) → list_all q names ≡ true → list_all q (filter p names) ≡ true
all_filtered p q names h = all_of q (filter p names) (λ x m. all_at q names x h (in_filter p names x m).0)

pub ascending_filtered : (p : Name → Bool) (names : List Name) → is_ascending names ≡ true → is_ascending (filter p names) ≡ true
unfolding is_ascending
ascending_filtered p [] h = refl
ascending_filtered p (n ∷ names) h =
    let q = and_parts (list_all (comes_before n) names) (is_ascending names) h in
    by (p n) (and_from (list_all (comes_before n) (filter p names)) (is_ascending (filter p names)) (all_filtered p (comes_before n) names q.0) (ascending_filtered p names q.1)) (ascending_filtered p names q.1)
  where
    by : (b : Bool) → is_ascending (n ∷ filter p names) ≡ true → is_ascending (filter p names) ≡ true → is_ascending (cond b (n ∷ filter p names) (filter p names)) ≡ true
    by true f g = f
    by false f g = g
