-- Grounded names of a graph, as a list and one by one.
use Rattle.std.proofs.Common.{◌≡◌, ℕ, Bool, true, false, not, Result, Ok, Err, IfOk, IfErr, is_err, length, map, slice_get, Some, is_some, ◌⊎◌, inl, inr, sym, ap, ◌∙◌, subst, true≢false}
use Rattle.std.specs.List.Sorted.{IsSearchInRange, IsBinarySearchResult}
use Rattle.std.specs.Ordering.{nat_cmp}
use Rattle.std.specs.Cmp.Lexicographic.{slice_cmp}
use Rattle.std.proofs.lemmas.Bool.{cases_Bool, and_from, and_parts, not_from_false, false_from_ne_true}
use Rattle.name_meaning.specs.Names.{Name, is_ascending}
use Rattle.name_meaning.specs.Rows.{row_names, row_of, IsTable, IsGap}
use Rattle.edit_log_meaning.specs.Log.{is_present}
use Rattle.module_graph_meaning.specs.Walks.{is_ungrounded, is_grounded}
use Rattle.module_graph_meaning.specs.Graphs.{Graph, row_dependencies, row_library, is_graph_ungrounded, graph_grounded}
use Rattle.list_laws.proofs.Lists.{each_itself}
use Rattle.list_laws.proofs.Members.{in_filter, filter_in, place_member}
use Rattle.name_laws.proofs.Order.{among_member, ascending_filtered}
use Rattle.name_laws.proofs.Searching.{searched}
use Rattle.name_laws.proofs.Rows.{gap_absent, row_among}
use Rattle.module_graph_laws.proofs.Graphs.{row_present}
use Rattle.module_graph_laws.proofs.Walking.{walking_present, in_present, ungrounded_in}

not_both : (b : Bool) → not b ≡ true → b ≡ true → ⊥
not_both true f g = true≢false (sym f)
not_both false f g = true≢false (sym g)

module _ (graph : Graph) where
  -- a name at a place of the grounded names is grounded, and one that would stand between them is not
  pub ungrounded_found : (n : Name) (i : ℕ) → slice_get (graph_grounded graph) i ≡ Some n → is_graph_ungrounded graph n ≡ false
  unfolding graph_grounded is_graph_ungrounded
  ungrounded_found n i h =
      let g = (in_filter (is_grounded (row_dependencies graph) (row_library graph)) (row_names graph) n (place_member (graph_grounded graph) i n h)).1 in
      false_from_ne_true (is_ungrounded (row_dependencies graph) (row_library graph) n)
      (not_both (is_ungrounded (row_dependencies graph) (row_library graph) n) (and_parts (is_present (row_library graph) n) (not (is_ungrounded (row_dependencies graph) (row_library graph) n)) g).1)

  pub ungrounded_not_found : (n : Name) (i : ℕ) → is_some (row_of graph n) ≡ true → IsGap (graph_grounded graph) n i → is_graph_ungrounded graph n ≡ true
  unfolding graph_grounded is_graph_ungrounded
  ungrounded_not_found n i p gap = by (cases_Bool (is_ungrounded (row_dependencies graph) (row_library graph) n))
    where
      by : (is_ungrounded (row_dependencies graph) (row_library graph) n ≡ true) ⊎ (is_ungrounded (row_dependencies graph) (row_library graph) n ≡ false) → is_ungrounded (row_dependencies graph) (row_library graph) n ≡ true
      by (inl u) = u
      by (inr u) = absurd (gap_absent n (graph_grounded graph) i gap
          (filter_in (is_grounded (row_dependencies graph) (row_library graph)) (row_names graph) n (among_member (row_names graph) n (sym (row_among graph n) ∙ p))
          (and_from (is_present (row_library graph) n) (not (is_ungrounded (row_dependencies graph) (row_library graph) n)) (row_present graph n ∙ p)
          (not_from_false (is_ungrounded (row_dependencies graph) (row_library graph) n) u))))

  pub ungrounded_absent : (n : Name) → is_some (row_of graph n) ≡ false → is_graph_ungrounded graph n ≡ false
  unfolding is_graph_ungrounded
  ungrounded_absent n h = false_from_ne_true (is_ungrounded (row_dependencies graph) (row_library graph) n) (λ u.
      true≢false (sym (in_present (row_dependencies graph) (row_library graph) n (walking_present (row_dependencies graph) (row_library graph) _ n (ungrounded_in (row_dependencies graph) (row_library graph) n u))) ∙ row_present graph n ∙ h))

-- the grounded names stand in byte order
pub grounded_ascending : (graph : Graph) → IsTable graph → is_ascending (graph_grounded graph) ≡ true
unfolding graph_grounded
grounded_ascending graph t = ascending_filtered (is_grounded (row_dependencies graph) (row_library graph)) (row_names graph) t

-- a search among the grounded names misses a present name exactly where it is ungrounded
pub ungrounded_searched : (graph : Graph) (n : Name) (r : Result ℕ ℕ) → IsTable graph → is_some (row_of graph n) ≡ true → IsSearchInRange r (length (graph_grounded graph))
    → IsBinarySearchResult (λ (m : Name). slice_cmp nat_cmp m n) (graph_grounded graph) r → is_err r ≡ is_graph_ungrounded graph n
ungrounded_searched graph n r t p range found =
    by r (searched (λ (m : Name). m) (graph_grounded graph) n r (ap is_ascending (each_itself (graph_grounded graph)) ∙ grounded_ascending graph t) range found)
  where
    by : (r : Result ℕ ℕ) → record { found : IfOk r (λ i. slice_get (map (λ (m : Name). m) (graph_grounded graph)) i ≡ Some n); absent : IfErr r (IsGap (map (λ (m : Name). m) (graph_grounded graph)) n) } → is_err r ≡ is_graph_ungrounded graph n
    by (Ok i) s = sym (ungrounded_found graph n i (ap (λ names. slice_get names i) (sym (each_itself (graph_grounded graph))) ∙ s.found))
    by (Err i) s = sym (ungrounded_not_found graph n i p (subst (λ names. IsGap names n i) (each_itself (graph_grounded graph)) s.absent))
