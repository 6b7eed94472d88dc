use Rattle.std.proofs.Common.{◌≡◌, ◌+◌, suc, false, Bool, Some, length, sym, ap, ◌∙◌, subst, arith}
use Rattle.std.specs.List.{list_any}
use Rattle.std.proofs.lemmas.List.{take_all}
use Rattle.std.proofs.lemmas.Option.{slice_get-get_or}
use Rattle.name_meaning.specs.Names.{Name, is_among}
use Rattle.list_laws.proofs.Members.{Member}
use Rattle.module_graph_meaning.specs.Graphs.{HoldsDependencies, graph_reach}
use Rattle.module_graph_meaning.specs.Reach.{reach}
use Rattle.board_meaning.specs.Events.{library_after}
use Rattle.verdict_board.proofs.EditSteps.{if_ok}
use Rattle.verdict_board.proofs.Rings.{none_reaches, apart_more}
use Rattle.verdict_board.proofs.board.Board.may_reach.Goals as goal

pub returns-in_default : goal.returns-in_default
returns-in_default g c =
    let D = g.S.Subject.subject.dependencies in
    let L = library_after c.args.self.now in
    let holds : HoldsDependencies c.self.inside.graph D L = rw (← c.self.view_is) c.self.invariant.holds in
    if_ok (λ (found : Bool). found ≡ list_any (λ from. is_among (graph_reach c.self.inside.graph from) c.args.name.now) c.args.names.now)
    (λ (may : Bool). may ≡ false → (from : Name) → Member from c.args.names.now → is_among (reach D L from) c.args.name.now ≡ false) c.any_reaches.result
    (λ found e h. none_reaches D L c.self.inside.graph holds c.args.name.now c.args.names.now (sym e ∙ h)) c.any_reaches.ensures

pub loop-from-preserved : goal.loop-from-preserved
loop-from-preserved g c =
    let one : c.loop-from.from-index + 1 ≡ suc c.loop-from.from-index = omega arith in
    let here = slice_get-get_or c.as_slice-from-items.result.now c.loop-from.from-index c.from-item.result c.loop-from-test.true ∙ ap Some (sym c.from-item.is) in
    rw one (apart_more g.S.Subject.subject.dependencies (library_after c.args.self.now) c.args.name.now c.as_slice-from-items.result.now c.loop-from.from-index c.from-item.result here c.loop-from.invariant (sym c.in-Some.ensures ∙ c.if-found.false))

pub returns : goal.returns
returns g c =
    let all = ap length c.as_slice-from-items.ensures in
    let past = c.loop-from-test.false in
    λ h from m. c.loop-from.invariant from (subst (Member from) (sym c.as_slice-from-items.ensures ∙ sym (take_all c.loop-from.from-index c.as_slice-from-items.result.now (omega (arith, past)))) m)
