use Rattle.std.proofs.Common.{◌≡◌, ℕ, Bool, true, false, List, [], ◌∷◌, ◌++◌, filter, slice_get, Some, sym, ap, ◌∙◌, arith}
use Rattle.std.proofs.lemmas.List.{take_all}
use Rattle.name_meaning.specs.Names.{Name}
use Rattle.name_meaning.specs.Rows.{row_names}
use Rattle.module_graph_meaning.specs.Walks.{is_grounded}
use Rattle.module_graph_meaning.specs.Graphs.{Graph, row_dependencies, row_library, graph_grounded}
use Rattle.module_graph.specs.Peeling.{TellsGrounded}
use Rattle.list_laws.proofs.Writes.{item_read, item_at, filter_more}
use Rattle.module_graph.proofs.Peeled.{names_long}
use Rattle.module_graph.proofs.grounding.grounded.Goals as goal
use Rattle.module_graph.proofs.grounding.grounded.Goals.{then-index+in_ok-copy+in_ok-push, else-index}

-- what is told of a name
told_of : (graph : Graph) (taken : List Bool) (place : ℕ) (name : Name) (b : Bool) → TellsGrounded graph taken → slice_get (row_names graph) place ≡ Some name → slice_get taken place ≡ Some b
    → is_grounded (row_dependencies graph) (row_library graph) name ≡ b
told_of graph taken place name b told h e =
    let same : Some (is_grounded (row_dependencies graph) (row_library graph) name) ≡ Some b = sym (told.1 place name h) ∙ e in cc

pub loop-place-preserved : goal.loop-place-preserved
loop-place-preserved c =
    let count = c.len-place-end.ensures.len in
    let test = c.loop-place-test.true in
    let each = c.in_ok-taken.ensures.0 in
    let taken = item_read c.in_ok-taken.taken.items c.loop-place.place c.index.result.now c.index.result.now (omega (arith, count, test, each)) (sym c.index.ensures) in
    elim c.if-index.branch [
      | then-index+in_ok-copy+in_ok-push w ↦
          ap (λ v. v.items) w.names-is ∙ w.in_ok-push.ensures.items ∙ (λ i. c.loop-place.invariant i ++ w.in_ok-copy.ensures i ∷ [])
          ∙ sym (filter_more (is_grounded (row_dependencies c.args.graph.now) (row_library c.args.graph.now)) (row_names c.args.graph.now) c.loop-place.place w.name_at.result.now true w.name_at.ensures
          (told_of c.args.graph.now c.in_ok-taken.taken.items c.loop-place.place w.name_at.result.now true c.in_ok-taken.ensures w.name_at.ensures (taken ∙ ap Some w.if-index.true)))
      | else-index w ↦
          let long = names_long c.args.graph.now in
          let name = item_at (row_names c.args.graph.now) c.loop-place.place (omega (arith, count, test, long)) in
          ap (λ v. v.items) w.names-is ∙ c.loop-place.invariant
          ∙ sym (filter_more (is_grounded (row_dependencies c.args.graph.now) (row_library c.args.graph.now)) (row_names c.args.graph.now) c.loop-place.place name.0 false name.1
          (told_of c.args.graph.now c.in_ok-taken.taken.items c.loop-place.place name.0 false c.in_ok-taken.ensures name.1 (taken ∙ ap Some w.if-index.false)))
    ]

pub returns : goal.returns
unfolding graph_grounded
returns c =
    let count = c.len-place-end.ensures.len in
    let test = c.loop-place-test.false in
    let long = names_long c.args.graph.now in
    c.from_vec.ensures ∙ c.loop-place.invariant ∙ ap (filter (is_grounded (row_dependencies c.args.graph.now) (row_library c.args.graph.now))) (take_all c.loop-place.place (row_names c.args.graph.now) (omega (arith, count, test, long)))
