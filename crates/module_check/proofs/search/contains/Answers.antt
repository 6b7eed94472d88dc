use Rattle.std.proofs.Common.{◌∙◌, subst, length}
use Rattle.std.specs.List.Sorted.{IsSearchInRange, IsBinarySearchResult}
use Rattle.std.specs.Ordering.{nat_cmp}
use Rattle.std.specs.Cmp.Lexicographic.{slice_cmp}
use Rattle.name_meaning.specs.Names.{Name}
use Rattle.verdict_board.proofs.Searched.{found_among}
use Rattle.module_check.proofs.search.contains.Goals as goal

pub returns : goal.returns
returns c =
    let list = c.as_slice.ensures in
    c.is_ok.ensures.value
    ∙ found_among c.args.names.now c.args.name.now c.binary_search.result c.requires
    (subst (λ names. IsSearchInRange c.binary_search.result (length names)) list c.binary_search.ensures.bound)
    (subst (λ names. IsBinarySearchResult (λ (m : Name). slice_cmp nat_cmp m c.args.name.now) names c.binary_search.result) list c.binary_search.ensures.position)
