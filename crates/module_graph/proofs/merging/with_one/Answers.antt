use Rattle.std.proofs.Common.{length, subst}
use Rattle.std.specs.List.Sorted.{IsSearchInRange, IsBinarySearchResult}
use Rattle.std.specs.Ordering.{nat_cmp}
use Rattle.std.specs.Cmp.Lexicographic.{slice_cmp}
use Rattle.name_meaning.specs.Names.{Name}
use Rattle.module_graph.proofs.MergeSteps.{search_found, search_missing}
use Rattle.module_graph.proofs.merging.with_one.Goals as goal

pub returns-in-Ok : goal.returns-in-Ok
returns-in-Ok c =
    let list = c.as_slice-items.ensures in
    search_found c.args.names.now c.args.name.now c.requires c.binary_search.result c.in-Ok.field-0 c.in-Ok.is
    (subst (λ names. IsSearchInRange c.binary_search.result (length names)) list c.binary_search.ensures.bound)
    (subst (λ names. IsBinarySearchResult (λ (m : Name). slice_cmp nat_cmp m c.args.name.now) names c.binary_search.result) list c.binary_search.ensures.position)

pub returns-in_ok-insert-in-Err : goal.returns-in_ok-insert-in-Err
returns-in_ok-insert-in-Err c =
    let list = c.as_slice-items.ensures in
    rw (c.from_vec.ensures, c.in_ok-insert-in-Err.ensures.items, c.in_ok-copy-in-Err.ensures, c.in_ok-add_from-in-Err.ensures, c.in_ok-more-in-Err.ensures.items, list)
    (search_missing c.args.names.now c.args.name.now c.requires c.binary_search.result c.in-Err.place c.in-Err.is
    (subst (λ names. IsSearchInRange c.binary_search.result (length names)) list c.binary_search.ensures.bound)
    (subst (λ names. IsBinarySearchResult (λ (m : Name). slice_cmp nat_cmp m c.args.name.now) names c.binary_search.result) list c.binary_search.ensures.position))
