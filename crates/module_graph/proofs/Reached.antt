-- Names that are reached one after another, each with its direct dependencies behind it.
use Rattle.std.proofs.Common.{◌≡◌, ℕ, zero, suc, ◌+◌, ◌<◌, ◌≤◌, Bool, true, false, cond, List, [], ◌∷◌, ◌++◌, length, filter, flat_map, slice_get, unwrap_or, Option, Some, None, is_some, ◌⊎◌, inl, inr, ⊎_elim, refl, sym, ap, ◌∙◌, subst, true≢false, arith}
use Rattle.std.specs.Option.{option_and_then}
use Rattle.std.proofs.lemmas.Bool.{false_from_ne_true}
use Rattle.std.proofs.lemmas.Option.{slice_get-get_or}
use Rattle.std.specs.List.{list_any, IsDistinct, AllByRecursion}
use Rattle.indexmap.specs.IndexSet.{insert_key, insert_all}
use Rattle.name_meaning.specs.Names.{Name, same_name, is_among, is_ascending}
use Rattle.name_meaning.specs.Rows.{row_of}
use Rattle.module_graph_meaning.specs.Reach.{reach}
use Rattle.module_graph_meaning.specs.Graphs.{Graph, row_dependencies, row_library, graph_reach}
use Rattle.list_laws.proofs.Members.{Member, any_found, any_not, member_place, place_member, in_append, append_left, append_right, filter_in, flat_map_in}
use Rattle.list_laws.proofs.Places.{get_front, place_within}
use Rattle.name_laws.proofs.Order.{among_member, member_among, same_of}
use Rattle.module_graph_laws.proofs.Graphs.{row_direct}
use Rattle.module_graph_laws.proofs.Reaching.{one_list, reach_closed, reach_first, reach_ascending, reach_least}
use Rattle.module_graph.specs.Reaching.{IsReachOf}

-- ---- names that are added behind others where they are new

key_old : (ks : List Name) (k y : Name) → Member y ks → Member y (insert_key same_name ks k)
key_old ks k y m = by (list_any (same_name k) ks)
  where
    by : (b : Bool) → Member y (cond b ks (ks ++ k ∷ []))
    by true = m
    by false = append_left ks (k ∷ []) y m

key_new : (ks : List Name) (k : Name) → Member k (insert_key same_name ks k)
unfolding is_among
key_new ks k = by (list_any (same_name k) ks) refl
  where
    by : (b : Bool) → list_any (same_name k) ks ≡ b → Member k (cond b ks (ks ++ k ∷ []))
    by true e = among_member ks k e
    by false e = append_right ks (k ∷ []) k (inl refl)

key_only : (ks : List Name) (k y : Name) → Member y (insert_key same_name ks k) → Member y ks ⊎ (y ≡ k)
key_only ks k y = by (list_any (same_name k) ks)
  where
    by : (b : Bool) → Member y (cond b ks (ks ++ k ∷ [])) → Member y ks ⊎ (y ≡ k)
    by true m = inl m
    by false m = ⊎_elim (λ q. inl q) (λ q. ⊎_elim (λ e. inr e) (λ z. absurd z) q) (in_append ks (k ∷ []) y m)

key_front : (ks : List Name) (k : Name) (i : ℕ) → i < length ks → slice_get (insert_key same_name ks k) i ≡ slice_get ks i
key_front ks k i h = by (list_any (same_name k) ks)
  where
    by : (b : Bool) → slice_get (cond b ks (ks ++ k ∷ [])) i ≡ slice_get ks i
    by true = refl
    by false = get_front ks (k ∷ []) i h

key_long : (ks : List Name) (k : Name) → length ks ≤ length (insert_key same_name ks k)
key_long ks k = by (list_any (same_name k) ks)
  where
    longer : (xs : List Name) → length xs ≤ length (xs ++ k ∷ [])
    longer [] = omega arith
    longer (x ∷ xs) = let h = longer xs in omega (arith, h)

    by : (b : Bool) → length ks ≤ length (cond b ks (ks ++ k ∷ []))
    by true = omega arith
    by false = longer ks

added_old : (ks xs : List Name) (y : Name) → Member y ks → Member y (insert_all same_name ks xs)
added_old ks [] y m = m
added_old ks (x ∷ xs) y m = added_old (insert_key same_name ks x) xs y (key_old ks x y m)

added_new : (ks xs : List Name) (y : Name) → Member y xs → Member y (insert_all same_name ks xs)
added_new ks [] y m = absurd m
added_new ks (x ∷ xs) y (inl e) = added_old (insert_key same_name ks x) xs y (subst (λ z. Member z (insert_key same_name ks x)) (sym e) (key_new ks x))
added_new ks (x ∷ xs) y (inr m) = added_new (insert_key same_name ks x) xs y m

added_only : (ks xs : List Name) (y : Name) → Member y (insert_all same_name ks xs) → Member y ks ⊎ Member y xs
added_only ks [] y m = inl m
added_only ks (x ∷ xs) y m =
    ⊎_elim (λ q. ⊎_elim (λ a. inl a) (λ e. inr (inl e)) (key_only ks x y q)) (λ q. inr (inr q)) (added_only (insert_key same_name ks x) xs y m)

added_front : (ks xs : List Name) (i : ℕ) → i < length ks → slice_get (insert_all same_name ks xs) i ≡ slice_get ks i
added_front ks [] i h = refl
added_front ks (x ∷ xs) i h = let l = key_long ks x in added_front (insert_key same_name ks x) xs i (omega (arith, h, l)) ∙ key_front ks x i h

added_long : (ks xs : List Name) → length ks ≤ length (insert_all same_name ks xs)
added_long ks [] = omega arith
added_long ks (x ∷ xs) = let l = key_long ks x in let r = added_long (insert_key same_name ks x) xs in omega (arith, l, r)

-- ---- distinct names

without : Name → List Name → List Name
without x ys = filter (λ y. cond (same_name x y) false true) ys

without_fewer : (x : Name) (ys : List Name) → length (without x ys) ≤ length ys
unfolding without
without_fewer x [] = omega arith
without_fewer x (y ∷ ys) = by (same_name x y) (without_fewer x ys)
  where
    by : (b : Bool) → length (without x ys) ≤ length ys → length (cond (cond b false true) (y ∷ without x ys) (without x ys)) ≤ suc (length ys)
    by true h = omega (arith, h)
    by false h = omega (arith, h)

without_member : (x : Name) (ys : List Name) → Member x ys → length (without x ys) < length ys
unfolding without
without_member x [] m = absurd m
without_member x (y ∷ ys) (inl e) = by (same_name x y) (same_of x y e)
  where
    by : (b : Bool) → b ≡ true → length (cond (cond b false true) (y ∷ without x ys) (without x ys)) < suc (length ys)
    by true f = let h = without_fewer x ys in omega (arith, h)
    by false f = absurd (true≢false (sym f))
without_member x (y ∷ ys) (inr m) = by (same_name x y) (without_member x ys m)
  where
    by : (b : Bool) → length (without x ys) < length ys → length (cond (cond b false true) (y ∷ without x ys) (without x ys)) < suc (length ys)
    by true h = omega (arith, h)
    by false h = omega (arith, h)

without_keeps : (x y : Name) (ys : List Name) → Member y ys → same_name x y ≡ false → Member y (without x ys)
unfolding without
without_keeps x y ys m e = filter_in (λ z. cond (same_name x z) false true) ys y m (ap (λ b. cond b false true) e)

each_apart : (x y : Name) (xs : List Name) → AllByRecursion (λ z. same_name x z ≡ false) xs → Member y xs → same_name x y ≡ false
each_apart x y [] h m = absurd m
each_apart x y (z ∷ xs) h (inl e) = subst (λ w. same_name x w ≡ false) (sym e) h.0
each_apart x y (z ∷ xs) h (inr m) = each_apart x y xs h.1 m

-- distinct names that are all among others are no more than these
pub no_more : (xs ys : List Name) → IsDistinct same_name xs → ((x : Name) → Member x xs → Member x ys) → length xs ≤ length ys
unfolding IsDistinct
no_more [] ys d h = omega arith
no_more (x ∷ xs) ys d h =
    let r = no_more xs (without x ys) d.1 (λ y m. without_keeps x y ys (h y (inr m)) (each_apart x y xs d.0 m)) in
    let f = without_member x ys (h x (inl refl)) in
    omega (arith, r, f)

-- ---- reaching

-- These names are reached from the first ones, they are distinct, and those before the place have their direct dependencies among them.
pub record IsReaching (graph : Graph) (starts names : List Name) (next : ℕ) : Type 0 where
  pub first : (x : Name) → Member x starts → Member x names
  pub sound : (x : Name) → Member x names → (start : Name) × Member start starts × Member x (graph_reach graph start)
  pub closed : (i : ℕ) (x d : Name) → i < next → slice_get names i ≡ Some x → Member d (unwrap_or (row_of graph x) []) → Member d names
  pub within : next ≤ length names
  pub distinct : IsDistinct same_name names

module _ (graph : Graph) where
  reached_itself : (x : Name) → Member x (graph_reach graph x)
  unfolding graph_reach
  reached_itself x = reach_first (row_dependencies graph) (row_library graph) x

  reached_dependency : (start x d : Name) → Member x (graph_reach graph start) → Member d (unwrap_or (row_of graph x) []) → Member d (graph_reach graph start)
  unfolding graph_reach
  reached_dependency start x d m n = reach_closed (row_dependencies graph) (row_library graph) start x d m (subst (Member d) (sym (row_direct graph x)) n)

  module _ (starts : List Name) where
    pub reaching_first : IsDistinct same_name starts → IsReaching graph starts starts 0
    reaching_first distinct = record {
      first = λ x m. m;
      sound = λ x m. (x, m, reached_itself x);
      closed = λ i x d h e m. absurd (omega (arith, h));
      within = omega arith;
      distinct = distinct;
    }

    module _ (names : List Name) (next : ℕ) (x : Name) (so_far : IsReaching graph starts names next) (here : slice_get names next ≡ Some x) where
      at_or_before : (i : ℕ) → i < next + 1 → (i < next) ⊎ (i ≡ next)
      at_or_before i h = by (cases i next)
        where
          cases : (i k : ℕ) → (i < k) ⊎ (k ≤ i)
          cases i zero = inr (omega arith)
          cases zero (suc k) = inl (omega arith)
          cases (suc i) (suc k) = ⊎_elim (λ q. inl (omega (arith, q))) (λ q. inr (omega (arith, q))) (cases i k)

          by : (i < next) ⊎ (next ≤ i) → (i < next) ⊎ (i ≡ next)
          by (inl q) = inl q
          by (inr q) = inr (omega (arith, q, h))

      -- the names after the direct dependencies of the next name are added
      pub reaching_added : (more : List Name) → unwrap_or (row_of graph x) [] ≡ more → IsDistinct same_name (insert_all same_name names more) → IsReaching graph starts (insert_all same_name names more) (next + 1)
      reaching_added more row distinct = record {
        first = λ y m. added_old names more y (so_far.first y m);
        sound = λ y m. ⊎_elim (λ q. so_far.sound y q) (λ q. from_here y (subst (Member y) (sym row) q)) (added_only names more y m);
        closed = λ i y d h e m. ⊎_elim
            (λ lt. added_old names more d (so_far.closed i y d lt (sym (added_front names more i (inside i lt)) ∙ e) m))
            (λ same. added_new names more d (subst (Member d) (at_next i y same e) m))
            (at_or_before i h);
        within = let l = added_long names more in let p = place_within names next x here in omega (arith, l, p);
        distinct = distinct;
      }
        where
          from_here : (y : Name) → Member y (unwrap_or (row_of graph x) []) → (start : Name) × Member start starts × Member y (graph_reach graph start)
          from_here y m = let q = so_far.sound x (place_member names next x here) in (q.0, q.1, reached_dependency q.0 x y q.2 m)

          inside : (i : ℕ) → i < next → i < length names
          inside i lt = let w = so_far.within in omega (arith, lt, w)

          found : (i : ℕ) (y : Name) → i ≡ next → slice_get (insert_all same_name names more) i ≡ Some y → y ≡ x
          found i y same e =
              let f : Some y ≡ Some x = sym e ∙ ap (slice_get (insert_all same_name names more)) same ∙ added_front names more next (place_within names next x here) ∙ here in cc

          at_next : (i : ℕ) (y : Name) → i ≡ next → slice_get (insert_all same_name names more) i ≡ Some y → unwrap_or (row_of graph y) [] ≡ more
          at_next i y same e = ap (λ z. unwrap_or (row_of graph z) []) (found i y same e) ∙ row

    -- the next name has not gone past the reaches
    pub reaching_within : (names : List Name) (next : ℕ) → IsReaching graph starts names next → next < length names → next < length (flat_map (graph_reach graph) starts)
    reaching_within names next so_far h =
        let n = no_more names (flat_map (graph_reach graph) starts) so_far.distinct (λ x m. let q = so_far.sound x m in flat_map_in (graph_reach graph) starts q.0 x q.1 q.2) in
        omega (arith, n, h)

    -- where no name is left, all that is reached is there
    pub reaching_done : (names : List Name) (next : ℕ) → IsReaching graph starts names next → length names ≤ next → IsReachOf graph starts names
    reaching_done names next so_far past = record {
      first = so_far.first;
      sound = so_far.sound;
      closed = λ y d n e.
          let q = member_place names y n in
          let w = place_within names q.0 y q.1 in
          so_far.closed q.0 y d (omega (arith, w, past)) q.1 e;
    }

    -- the next name has a row, whose names are added; or it has none
    pub reaching_row : (names : List Name) (next : ℕ) (more added : List Name) → IsReaching graph starts names next → Some more ≡ option_and_then (row_of graph) (slice_get names next)
        → added ≡ insert_all same_name names more → IsDistinct same_name added → IsReaching graph starts added (next + 1)
    reaching_row names next more added so_far row is distinct =
        subst (λ keys. IsReaching graph starts keys (next + 1)) (sym is) (by (slice_get names next) refl row)
      where
        by : (found : Option Name) → slice_get names next ≡ found → Some more ≡ option_and_then (row_of graph) found → IsReaching graph starts (insert_all same_name names more) (next + 1)
        by None here row = absurd (cc)
        by (Some x) here row = reaching_added names next x so_far here more (ap (λ r. unwrap_or r []) (sym row)) (subst (IsDistinct same_name) is distinct)

    pub reaching_no_row : (names : List Name) (next : ℕ) → IsReaching graph starts names next → next < length names → None ≡ option_and_then (row_of graph) (slice_get names next)
        → IsReaching graph starts names (next + 1)
    reaching_no_row names next so_far h row = by (slice_get names next) refl row
      where
        by : (found : Option Name) → slice_get names next ≡ found → None ≡ option_and_then (row_of graph) found → IsReaching graph starts names (next + 1)
        by None here row = absurd (true≢false (sym (ap is_some (slice_get-get_or names next [] h)) ∙ ap is_some here))
        by (Some x) here row = reaching_added names next x so_far here [] (ap (λ r. unwrap_or r []) (sym row)) so_far.distinct

  -- what one name reaches, sorted, is its reach
  pub reach_of_one : (name : Name) (names sorted : List Name) → IsReachOf graph (name ∷ []) names → ((x : Name) → is_among sorted x ≡ is_among names x) → is_ascending sorted ≡ true → sorted ≡ graph_reach graph name
  unfolding graph_reach
  reach_of_one name names sorted all same ascending =
      one_list sorted (reach (row_dependencies graph) (row_library graph) name) ascending (reach_ascending (row_dependencies graph) (row_library graph) name)
      (λ x m. let q = all.sound x (among_member names x (sym (same x) ∙ member_among sorted x m)) in
      ⊎_elim (λ e. subst (λ z. Member x (reach (row_dependencies graph) (row_library graph) z)) e q.2) (λ none. absurd none) q.1)
      (λ x m. among_member sorted x (same x ∙ member_among names x (reach_least (row_dependencies graph) (row_library graph) name names
      (λ y d n e. all.closed y d n (subst (Member d) (row_direct graph y) e)) (all.first name (inl refl)) x m)))

  -- a name is among what others reach just where one of these reaches it
  pub reached_by_any : (froms names : List Name) (name : Name) → IsReachOf graph (insert_all same_name [] froms) names
      → is_among names name ≡ list_any (λ from. is_among (graph_reach graph from) name) froms
  unfolding graph_reach
  reached_by_any froms names name all = by (list_any p froms) refl
    where
      p : Name → Bool
      p from = is_among (graph_reach graph from) name

      closed_by : (start x : Name) → Member start names → Member x (graph_reach graph start) → Member x names
      closed_by start x m r =
          reach_least (row_dependencies graph) (row_library graph) start names (λ y d n e. all.closed y d n (subst (Member d) (row_direct graph y) e)) m x r

      by : (b : Bool) → list_any p froms ≡ b → is_among names name ≡ b
      by true h =
          let q = any_found p froms h in
          member_among names name (closed_by q.0 name (all.first q.0 (added_new [] froms q.0 q.1)) (among_member (graph_reach graph q.0) name q.2))
      by false h =
          false_from_ne_true (is_among names name) (λ t.
          let q = all.sound name (among_member names name t) in
          let m = ⊎_elim (λ z. absurd z) (λ z. z) (added_only [] froms q.0 q.1) in
          true≢false (sym (member_among (graph_reach graph q.0) name q.2) ∙ any_not p froms q.0 h m))
