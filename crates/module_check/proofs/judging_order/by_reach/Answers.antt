use Rattle.std.proofs.Common.{◌≡◌, ◌+◌, ◌<◌, ◌≤◌, ℕ, suc, map, length, get_or, slice_get, Some, sym, ap, ◌∙◌, subst, arith}
use Rattle.std.specs.List.Sorted.{IsPermutation}
use Rattle.std.proofs.lemmas.List.Sorted.{IsPermutation-map}
use Rattle.std.proofs.lemmas.Option.{same_Some, slice_get-get_or}
use Rattle.std.proofs.lemmas.Result.{IfOk-weaker}
use Rattle.list_laws.proofs.Places.{place_within}
use Rattle.name_meaning.specs.Names.{Name}
use Rattle.module_graph_meaning.specs.Graphs.{graph_reach}
use Rattle.module_check.specs.JudgingOrders.{RisesInReach}
use Rattle.module_check.proofs.JudgingOrder.{counted_by, not_smaller, rises_by, uncounted_names}
use Rattle.module_check.proofs.judging_order.by_reach.Goals as goal

pub returns-clause-same : goal.returns-clause-same
returns-clause-same c =
    let count = λ (name : Name). length (graph_reach c.args.graph.now name) in
    let second = λ (item : ℕ × Name). item.1 in
    let first = map (λ (name : Name). (count name, name)) c.as_slice.result.now in
    let items = c.sort_unstable.new.self.items in
    let same = subst (λ z. IsPermutation z items) c.in_ok-counted.ensures c.sort_unstable.ensures.permutation in
    let names = uncounted_names count c.as_slice.result.now ∙ c.as_slice.ensures in
    IfOk-weaker c.uncounted.result _ _
    (λ order e. subst (IsPermutation c.args.names.now) (sym (e ∙ ap (map second) c.as_slice-2.ensures.value)) (subst (λ z. IsPermutation z (map second items)) names (IsPermutation-map second first items same)))
    c.uncounted.ensures

pub returns-clause-rises : goal.returns-clause-rises
returns-clause-rises c =
    let graph = c.args.graph.now in
    let count = λ (name : Name). length (graph_reach graph name) in
    let items = c.sort_unstable.new.self.items in
    let same = subst (λ z. IsPermutation z items) c.in_ok-counted.ensures c.sort_unstable.ensures.permutation in
    let next = λ (k : ℕ) (x y : ℕ × Name) (h : slice_get items k ≡ Some x) (g : slice_get items (suc k) ≡ Some y).
    (let w = place_within items (suc k) y g in
    let a : get_or items k x ≡ x = same_Some _ _ (sym (slice_get-get_or items k x (omega (arith, w))) ∙ h) in
    let plus : k + 1 ≡ suc k = omega arith in
    let b : get_or items (k + 1) x ≡ y = ap (λ i. get_or items i x) plus ∙ same_Some _ _ (sym (slice_get-get_or items (suc k) x w) ∙ g) in
    let s = c.sort_unstable.ensures.sorted k x (omega arith) (omega (arith, w)) in
    subst (λ (z : ℕ × Name). z.0 ≤ y.0) a (subst (λ (z : ℕ × Name). (get_or items k x).0 ≤ z.0) b (not_smaller (get_or items (k + 1) x).0 (get_or items k x).0 _ s))) in
    IfOk-weaker c.uncounted.result _ _
    (λ order e. subst (RisesInReach graph) (sym (e ∙ ap (map (λ (item : ℕ × Name). item.1)) c.as_slice-2.ensures.value)) (rises_by graph items (counted_by count c.as_slice.result.now items same) next))
    c.uncounted.ensures
