use Rattle.std.proofs.Common.{◌≡◌, Some, length, slice_get, sym, ap, ◌∙◌, subst}
use Rattle.std.specs.Option.{option_copied}
use Rattle.edit_log_meaning.specs.Log.{library_of, names_of}
use Rattle.edit_log_laws.proofs.Libraries.{library_ascending, present_among}
use Rattle.name_laws.proofs.Order.{member_among}
use Rattle.list_laws.proofs.Members.{place_member}
use Rattle.text_meaning.specs.Dependencies as meaning
use Rattle.module_check.proofs.LibraryGraph.{HoldsFirst, none_held, next_held, less_left, all_held}
use Rattle.module_check.proofs.library_graph.graph_of.Goals as goal

pub loop-name-init : goal.loop-name-init
loop-name-init c = subst (HoldsFirst meaning.dependencies (library_of c.args.log.now)) (sym c.new-graph.ensures) (none_held meaning.dependencies (library_of c.args.log.now))

pub add_module-requires : goal.add_module-requires
add_module-requires c =
    present_among (library_of c.args.log.now) c.in-Some.name.now
    ∙ member_among (names_of (library_of c.args.log.now)) c.in-Some.name.now (place_member (names_of (library_of c.args.log.now)) c.len.result c.in-Some.name.now (sym c.in-Some.ensures))

pub loop-name-smaller : goal.loop-name-smaller
loop-name-smaller c =
    let L = library_of c.args.log.now in
    let here : slice_get (names_of L) (length c.loop-name.graph) ≡ Some c.in-Some.name.now = ap (slice_get (names_of L)) (sym c.len.ensures.len) ∙ sym c.in-Some.ensures in
    rw c.in_ok-add_module.ensures (less_left meaning.dependencies L c.loop-name.graph c.in-Some.name.now (library_ascending c.args.log.now) here c.loop-name.invariant)

pub loop-name-preserved : goal.loop-name-preserved
loop-name-preserved c =
    let L = library_of c.args.log.now in
    let here : slice_get (names_of L) (length c.loop-name.graph) ≡ Some c.in-Some.name.now = ap (slice_get (names_of L)) (sym c.len.ensures.len) ∙ sym c.in-Some.ensures in
    rw c.in_ok-add_module.ensures (next_held meaning.dependencies L c.loop-name.graph c.in-Some.name.now (library_ascending c.args.log.now) here c.loop-name.invariant)

pub returns : goal.returns
returns c =
    let L = library_of c.args.log.now in
    all_held meaning.dependencies L c.loop-name.graph (ap (slice_get (names_of L)) (sym c.len.ensures.len) ∙ sym c.name_at.ensures ∙ ap option_copied c.in_default.is) c.loop-name.invariant
