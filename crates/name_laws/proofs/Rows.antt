-- Rows in byte order of their names: what stands under a name after a change, and places.
use Rattle.std.proofs.Common.{◌≡◌, ℕ, zero, suc, ◌<◌, ◌≤◌, ◌||◌, Bool, true, false, not, cond, List, [], ◌∷◌, ◌++◌, filter, take, drop, slice_get, Option, Some, None, is_some, ◌⊎◌, inl, inr, ⊎_elim, refl, sym, ap, ◌∙◌, subst, true≢false, arith}
use Rattle.std.specs.List.{list_all, insert}
use Rattle.std.proofs.lemmas.Bool.{cases_Bool, and_parts, and_from}
use Rattle.name_meaning.specs.Names.{Name, same_name, comes_before, is_among, is_ascending, with_name}
use Rattle.name_meaning.specs.Rows.{Rows, row_names, IsTable, row_of, with_row, without_row, IsGap}
use Rattle.list_laws.proofs.Members.{Member, in_map, map_in, in_filter, all_at, all_of, place_member}
use Rattle.name_laws.proofs.Order.{same_sound, same_of, before_trans, not_before_itself, with_ascending}

-- ---- choices by a test

module _ {X : Type 0} where
  pub same_branch : (a b : Bool) (x y z : X) → a ≡ b → cond a x y ≡ cond a x (cond b z y)
  same_branch true b x y z e = refl
  same_branch false true x y z e = absurd (true≢false (sym e))
  same_branch false false x y z e = refl

  pub other_branch : (a b : Bool) (x y z rest : X) → (a ≡ true → b ≡ true → ⊥) → rest ≡ cond a x y → cond b z rest ≡ cond a x (cond b z y)
  other_branch true true x y z rest f e = absurd (f refl refl)
  other_branch true false x y z rest f e = e
  other_branch false true x y z rest f e = refl
  other_branch false false x y z rest f e = e

-- two names that a third name equals are one
pub not_both : (n m k : Name) → same_name n k ≡ false → same_name m n ≡ true → same_name m k ≡ true → ⊥
not_both n m k h f g = true≢false (sym (same_of n k (sym (same_sound m n f) ∙ same_sound m k g)) ∙ h)

pub same_as : (n m k : Name) → same_name n k ≡ true → same_name m n ≡ same_name m k
same_as n m k h = ap (same_name m) (same_sound n k h)

pub same_either : {X : Type 0} (b : Bool) (x : X) → x ≡ cond b x x
same_either true x = refl
same_either false x = refl

-- ---- names and places

-- of two names of which the first comes before, neither test of the second holds
pub different : (n m : Name) → comes_before n m ≡ true → same_name m n ≡ false
different n m h = ⊎_elim (λ e. absurd (not_before_itself n (subst (λ z. comes_before n z ≡ true) (same_sound m n e) h))) (λ e. e) (cases_Bool (same_name m n))

pub not_before : (n m : Name) → comes_before n m ≡ true → comes_before m n ≡ false
not_before n m h = ⊎_elim (λ e. absurd (not_before_itself n (before_trans n m n h e))) (λ e. e) (cases_Bool (comes_before m n))

gap_behind : (x : Name) (names : List Name) (n : Name) (i : ℕ) → IsGap (x ∷ names) n (suc i) → IsGap names n i
gap_behind x names n i g = record { within = let w = g.within in omega (arith, w); before = λ j o lt e. g.before (suc j) o (omega (arith, lt)) e; behind = λ j o le e. g.behind (suc j) o (omega (arith, le)) e }

pub place_of_member : (names : List Name) (n : Name) → Member n names → (i : ℕ) × (slice_get names i ≡ Some n)
place_of_member [] n m = absurd m
place_of_member (x ∷ names) n (inl e) = (0, ap Some (sym e))
place_of_member (x ∷ names) n (inr m) = let q = place_of_member names n m in (suc q.0, q.1)

pub gap_absent : (n : Name) (names : List Name) (i : ℕ) → IsGap names n i → Member n names → ⊥
gap_absent n names i g m =
    let q = place_of_member names n m in
    ⊎_elim (λ lt. not_before_itself n (g.before q.0 n lt q.1)) (λ le. not_before_itself n (g.behind q.0 n le q.1)) (split q.0 i)
  where
    split : (j k : ℕ) → (j < k) ⊎ (k ≤ j)
    split zero zero = inr (omega arith)
    split zero (suc k) = inl (omega arith)
    split (suc j) zero = inr (omega arith)
    split (suc j) (suc k) = ⊎_elim (λ h. inl (omega (arith, h))) (λ h. inr (omega (arith, h))) (split j k)

-- ---- rows

module _ {A : Type 0} where
  put_by : (n : Name) (v : A) (o : Name × A) (rows more : Rows A) (m : Name) (same before : Bool) → same_name n o.0 ≡ same
      → row_of more m ≡ cond (same_name m n) (Some v) (row_of rows m)
      → row_of (cond same ((n, v) ∷ rows) (cond before ((n, v) ∷ o ∷ rows) (o ∷ more))) m
      ≡ cond (same_name m n) (Some v) (cond (same_name m o.0) (Some o.1) (row_of rows m))
  unfolding row_of
  put_by n v o rows more m true before s h = same_branch (same_name m n) (same_name m o.0) (Some v) (row_of rows m) (Some o.1) (same_as n m o.0 s)
  put_by n v o rows more m false true s h = refl
  put_by n v o rows more m false false s h =
      other_branch (same_name m n) (same_name m o.0) (Some v) (row_of rows m) (Some o.1) (row_of more m) (not_both n m o.0 s) h

  -- the row of a name after another is put
  pub row_with : (n : Name) (v : A) (rows : Rows A) (m : Name) → row_of (with_row n v rows) m ≡ cond (same_name m n) (Some v) (row_of rows m)
  unfolding row_of with_row
  row_with n v [] m = refl
  row_with n v (o ∷ rows) m = put_by n v o rows (with_row n v rows) m (same_name n o.0) (comes_before n o.0) refl (row_with n v rows m)

  drop_by : (n : Name) (o : Name × A) (rows rest : Rows A) (m : Name) (same : Bool) → same_name n o.0 ≡ same
      → row_of rest m ≡ cond (same_name m n) None (row_of rows m)
      → row_of (cond (not same) (o ∷ rest) rest) m ≡ cond (same_name m n) None (cond (same_name m o.0) (Some o.1) (row_of rows m))
  unfolding row_of
  drop_by n o rows rest m true s h = h ∙ same_branch (same_name m n) (same_name m o.0) None (row_of rows m) (Some o.1) (same_as n m o.0 s)
  drop_by n o rows rest m false s h =
      other_branch (same_name m n) (same_name m o.0) None (row_of rows m) (Some o.1) (row_of rest m) (not_both n m o.0 s) h

  -- the row of a name after another is taken out
  pub row_without : (n : Name) (rows : Rows A) (m : Name) → row_of (without_row n rows) m ≡ cond (same_name m n) None (row_of rows m)
  unfolding row_of without_row
  row_without n [] m = same_either (same_name m n) None
  row_without n (o ∷ rows) m = drop_by n o rows (without_row n rows) m (same_name n o.0) refl (row_without n rows m)

  names_by : (n : Name) (v : A) (o : Name × A) (rows more : Rows A) (same before : Bool) → same_name n o.0 ≡ same
      → row_names more ≡ with_name n (row_names rows)
      → row_names (cond same ((n, v) ∷ rows) (cond before ((n, v) ∷ o ∷ rows) (o ∷ more)))
      ≡ cond same (o.0 ∷ row_names rows) (cond before (n ∷ o.0 ∷ row_names rows) (o.0 ∷ with_name n (row_names rows)))
  names_by n v o rows more true before s h = ap (λ z. z ∷ row_names rows) (same_sound n o.0 s)
  names_by n v o rows more false true s h = refl
  names_by n v o rows more false false s h = ap (λ z. o.0 ∷ z) h

  pub names_with_row : (n : Name) (v : A) (rows : Rows A) → row_names (with_row n v rows) ≡ with_name n (row_names rows)
  unfolding with_row with_name
  names_with_row n v [] = refl
  names_with_row n v (o ∷ rows) = names_by n v o rows (with_row n v rows) (same_name n o.0) (comes_before n o.0) refl (names_with_row n v rows)

  pub table_with : (n : Name) (v : A) (rows : Rows A) → IsTable rows → IsTable (with_row n v rows)
  table_with n v rows h = subst (λ z. is_ascending z ≡ true) (sym (names_with_row n v rows)) (with_ascending n (row_names rows) h)

  all_kept : (p : Name × A → Bool) (k : Name) (rows : Rows A) → list_all (comes_before k) (row_names rows) ≡ true → list_all (comes_before k) (row_names (filter p rows)) ≡ true
  all_kept p k rows h =
      all_of (comes_before k) (row_names (filter p rows))
      (λ x m. let q = in_map (λ (row : Name × A). row.0) (filter p rows) x m in
      all_at (comes_before k) (row_names rows) x h (subst (λ z. Member z (row_names rows)) (sym q.2) (map_in (λ (row : Name × A). row.0) rows q.0 (in_filter p rows q.0 q.1).0)))

  -- the rows that pass a test are a table
  pub table_kept : (p : Name × A → Bool) (rows : Rows A) → IsTable rows → IsTable (filter p rows)
  unfolding is_ascending
  table_kept p [] h = refl
  table_kept p (o ∷ rows) h =
      let q = and_parts (list_all (comes_before o.0) (row_names rows)) (is_ascending (row_names rows)) h in
      kept_by (p o) (and_from (list_all (comes_before o.0) (row_names (filter p rows))) (is_ascending (row_names (filter p rows))) (all_kept p o.0 rows q.0) (table_kept p rows q.1)) (table_kept p rows q.1)
    where
      kept_by : (b : Bool) → is_ascending (row_names (o ∷ filter p rows)) ≡ true → is_ascending (row_names (filter p rows)) ≡ true → is_ascending (row_names (cond b (o ∷ filter p rows) (filter p rows))) ≡ true
      kept_by true f g = f
      kept_by false f g = g

  pub table_without : (n : Name) (rows : Rows A) → IsTable rows → IsTable (without_row n rows)
  unfolding without_row
  table_without n rows h = table_kept (λ (row : Name × A). not (same_name n row.0)) rows h

  -- ---- places

  past : (n : Name) (v : A) (o : Name × A) (rows more : Rows A) (same before : Bool) → same ≡ false → before ≡ false
      → cond same ((n, v) ∷ rows) (cond before ((n, v) ∷ o ∷ rows) (o ∷ more)) ≡ o ∷ more
  past n v o rows more true before s b = absurd (true≢false s)
  past n v o rows more false true s b = absurd (true≢false b)
  past n v o rows more false false s b = refl

  -- the row at a place, as a list of rows with a new one there
  abbrev pub replaced_at : Rows A → ℕ → Name × A → Rows A
  replaced_at rows i row = take i rows ++ row ∷ drop (suc i) rows

  pub with_row_at : (n : Name) (v : A) (rows : Rows A) (i : ℕ) → IsTable rows → slice_get (row_names rows) i ≡ Some n → with_row n v rows ≡ replaced_at rows i (n, v)
  unfolding with_row is_ascending
  with_row_at n v [] i t h = absurd (cc)
  with_row_at n v (o ∷ rows) zero t h = let e : o.0 ≡ n = cc in here (same_name n o.0) (same_of n o.0 (sym e))
    where
      here : (b : Bool) → b ≡ true → cond b ((n, v) ∷ rows) (cond (comes_before n o.0) ((n, v) ∷ o ∷ rows) (o ∷ with_row n v rows)) ≡ (n, v) ∷ rows
      here true e = refl
      here false e = absurd (true≢false (sym e))
  with_row_at n v (o ∷ rows) (suc i) t h =
      let p = and_parts (list_all (comes_before o.0) (row_names rows)) (is_ascending (row_names rows)) t in
      let b = all_at (comes_before o.0) (row_names rows) n p.0 (place_member (row_names rows) i n h) in
      past n v o rows (with_row n v rows) (same_name n o.0) (comes_before n o.0) (different o.0 n b) (not_before o.0 n b)
      ∙ ap (λ z. o ∷ z) (with_row_at n v rows i p.1 h)

  pub with_row_gap : (n : Name) (v : A) (rows : Rows A) (i : ℕ) → IsGap (row_names rows) n i → with_row n v rows ≡ insert rows i (n, v)
  unfolding with_row
  with_row_gap n v [] zero g = refl
  with_row_gap n v [] (suc i) g = refl
  with_row_gap n v (o ∷ rows) zero g =
      let b = g.behind 0 o.0 (omega arith) refl in
      by (same_name n o.0) (comes_before n o.0) (⊎_elim (λ e. absurd (not_before_itself n (subst (λ z. comes_before n z ≡ true) (sym (same_sound n o.0 e)) b))) (λ e. e) (cases_Bool (same_name n o.0))) b
    where
      by : (s b : Bool) → s ≡ false → b ≡ true → cond s ((n, v) ∷ rows) (cond b ((n, v) ∷ o ∷ rows) (o ∷ with_row n v rows)) ≡ (n, v) ∷ o ∷ rows
      by true b s e = absurd (true≢false s)
      by false true s e = refl
      by false false s e = absurd (true≢false (sym e))
  with_row_gap n v (o ∷ rows) (suc i) g =
      let b = g.before 0 o.0 (omega arith) refl in
      past n v o rows (with_row n v rows) (same_name n o.0) (comes_before n o.0) (different o.0 n b) (not_before o.0 n b)
      ∙ ap (λ z. o ∷ z) (with_row_gap n v rows i (gap_behind o.0 (row_names rows) n i g))

  -- the row of a name at a place, and of one that would stand between two
  pub row_at : (n : Name) (v : A) (rows : Rows A) (i : ℕ) → IsTable rows → slice_get rows i ≡ Some (n, v) → row_of rows n ≡ Some v
  unfolding row_of is_ascending
  row_at n v [] i t h = absurd (cc)
  row_at n v (o ∷ rows) zero t h = let e : o ≡ (n, v) = cc in here (same_name n o.0) (same_of n o.0 (sym (ap (λ (z : Name × A). z.0) e))) (ap (λ (z : Name × A). z.1) e)
    where
      here : (b : Bool) → b ≡ true → o.1 ≡ v → cond b (Some o.1) (row_of rows n) ≡ Some v
      here true e f = ap Some f
      here false e f = absurd (true≢false (sym e))
  row_at n v (o ∷ rows) (suc i) t h =
      let p = and_parts (list_all (comes_before o.0) (row_names rows)) (is_ascending (row_names rows)) t in
      let b = all_at (comes_before o.0) (row_names rows) n p.0 (place_member (row_names rows) i n (name_there rows i h)) in
      there (same_name n o.0) (different o.0 n b) (row_at n v rows i p.1 h)
    where
      name_there : (rows : Rows A) (i : ℕ) → slice_get rows i ≡ Some (n, v) → slice_get (row_names rows) i ≡ Some n
      name_there [] i h = absurd (cc)
      name_there (x ∷ rows) zero h = let e : x ≡ (n, v) = cc in ap (λ (z : Name × A). Some z.0) e
      name_there (x ∷ rows) (suc i) h = name_there rows i h

      there : (b : Bool) → b ≡ false → row_of rows n ≡ Some v → cond b (Some o.1) (row_of rows n) ≡ Some v
      there true e f = absurd (true≢false e)
      there false e f = f

  absent_by : (b : Bool) (o : Name × A) (rest : Option A) → b ≡ false → rest ≡ None → cond b (Some o.1) rest ≡ None
  absent_by true o rest e f = absurd (true≢false e)
  absent_by false o rest e f = f

  pub row_absent : (n : Name) (rows : Rows A) → (Member n (row_names rows) → ⊥) → row_of rows n ≡ None
  unfolding row_of
  row_absent n [] h = refl
  row_absent n (o ∷ rows) h =
      absent_by (same_name n o.0) o (row_of rows n) (⊎_elim (λ e. absurd (h (inl (same_sound n o.0 e)))) (λ e. e) (cases_Bool (same_name n o.0))) (row_absent n rows (λ m. h (inr m)))

  pub without_absent : (n : Name) (rows : Rows A) → (Member n (row_names rows) → ⊥) → without_row n rows ≡ rows
  unfolding without_row
  without_absent n [] h = refl
  without_absent n (o ∷ rows) h =
      by (same_name n o.0) (⊎_elim (λ e. absurd (h (inl (same_sound n o.0 e)))) (λ e. e) (cases_Bool (same_name n o.0))) (without_absent n rows (λ m. h (inr m)))
    where
      by : (b : Bool) → b ≡ false → filter (λ (row : Name × A). not (same_name n row.0)) rows ≡ rows → cond (not b) (o ∷ filter (λ (row : Name × A). not (same_name n row.0)) rows) (filter (λ (row : Name × A). not (same_name n row.0)) rows) ≡ o ∷ rows
      by true e f = absurd (true≢false e)
      by false e f = ap (λ z. o ∷ z) f

  -- the rows without the name at a place
  pub without_row_at : (n : Name) (rows : Rows A) (i : ℕ) → IsTable rows → slice_get (row_names rows) i ≡ Some n → without_row n rows ≡ take i rows ++ drop (suc i) rows
  unfolding is_ascending without_row
  without_row_at n [] i t h = absurd (cc)
  without_row_at n (o ∷ rows) zero t h =
      let e : o.0 ≡ n = cc in
      let p = and_parts (list_all (comes_before o.0) (row_names rows)) (is_ascending (row_names rows)) t in
      here (same_name n o.0) (same_of n o.0 (sym e)) (without_absent n rows (λ m. not_before_itself n (subst (λ z. comes_before z n ≡ true) e (all_at (comes_before o.0) (row_names rows) n p.0 m))))
    where
      here : (b : Bool) → b ≡ true → without_row n rows ≡ rows → cond (not b) (o ∷ without_row n rows) (without_row n rows) ≡ rows
      here true e f = f
      here false e f = absurd (true≢false (sym e))
  without_row_at n (o ∷ rows) (suc i) t h =
      let p = and_parts (list_all (comes_before o.0) (row_names rows)) (is_ascending (row_names rows)) t in
      let b = all_at (comes_before o.0) (row_names rows) n p.0 (place_member (row_names rows) i n h) in
      there (same_name n o.0) (different o.0 n b) (without_row_at n rows i p.1 h)
    where
      there : (b : Bool) → b ≡ false → without_row n rows ≡ take i rows ++ drop (suc i) rows → cond (not b) (o ∷ without_row n rows) (without_row n rows) ≡ o ∷ (take i rows ++ drop (suc i) rows)
      there true e f = absurd (true≢false e)
      there false e f = ap (λ z. o ∷ z) f

  -- a row is there exactly where its name is
  pub row_among : (rows : Rows A) (n : Name) → is_some (row_of rows n) ≡ is_among (row_names rows) n
  unfolding row_of is_among
  row_among [] n = refl
  row_among (o ∷ rows) n = by (same_name n o.0) (row_of rows n) (is_among (row_names rows) n) o.1 (row_among rows n)
    where
      by : (b : Bool) (rest : Option A) (c : Bool) (v : A) → is_some rest ≡ c → is_some (cond b (Some v) rest) ≡ (b || c)
      by true rest c v h = refl
      by false rest c v h = h
