use Rattle.std.proofs.Common.{◌∙◌, sym, ap, is_some, subst, length}
use Rattle.std.specs.List.Sorted.{IsSearchInRange, IsBinarySearchResult}
use Rattle.std.specs.Ordering.{nat_cmp}
use Rattle.std.specs.Cmp.Lexicographic.{slice_cmp}
use Rattle.name_meaning.specs.Names.{Name}
use Rattle.list_laws.proofs.Options.{copied_some}
use Rattle.module_graph.proofs.GroundedNames.{ungrounded_searched, ungrounded_absent}
use Rattle.module_graph.proofs.ungrounded.is_ungrounded.Goals as goal

pub returns-then-is_some : goal.returns-then-is_some
returns-then-is_some c =
    let list = c.as_slice.ensures ∙ c.requires in
    c.is_err.ensures.value
    ∙ ungrounded_searched c.args.graph.now c.args.name.now c.binary_search.result c.row.ensures.ordered
    (sym (ap is_some c.row.ensures.row) ∙ copied_some c.row.result ∙ sym c.is_some.ensures ∙ c.if-is_some.true)
    (subst (λ names. IsSearchInRange c.binary_search.result (length names)) list c.binary_search.ensures.bound)
    (subst (λ names. IsBinarySearchResult (λ (m : Name). slice_cmp nat_cmp m c.args.name.now) names c.binary_search.result) list c.binary_search.ensures.position)

pub returns-else-is_some : goal.returns-else-is_some
returns-else-is_some c =
    c.if-is_some.false ∙ sym (ungrounded_absent c.args.graph.now c.args.name.now (sym (ap is_some c.row.ensures.row) ∙ copied_some c.row.result ∙ sym c.is_some.ensures ∙ c.if-is_some.false))
