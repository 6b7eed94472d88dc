use Rattle.std.proofs.Common.{◌≡◌, sym, ap, ◌∙◌, subst}
use Rattle.std.specs.Option.{option_copied}
use Rattle.name_meaning.specs.Names.{with_name}
use Rattle.module_graph_meaning.specs.Walks.{direct}
use Rattle.module_graph_meaning.specs.Reach.{reach}
use Rattle.board_meaning.specs.Events.{library_after}
use Rattle.list_laws.proofs.Members.{Member}
use Rattle.module_graph.specs.ReachParts.{AreParts}
use Rattle.module_graph.proofs.PartsOfReach.{joined_reach}
use Rattle.verdict_board.proofs.Gathers.{among_ascending, row_not_missing, row_is}
use Rattle.verdict_board.proofs.Joins.{ok_same}
use Rattle.verdict_board.proofs.board.Board.reach_of.Goals as goal

pub unreachable-requires : goal.unreachable-requires
unreachable-requires g c =
    row_not_missing c.self.inside.graph g.S.Subject.subject.dependencies _ c.self.invariant.holds c.args.name.now (rw c.self.view_is c.requires.present) (sym (ap option_copied c.in_default.is) ∙ c.row.ensures.row)

pub parts-requires-clause-rests : goal.parts-requires-clause-rests
parts-requires-clause-rests g c κs b =
    let own : c.in-Some.dependencies.now ≡ direct g.S.Subject.subject.dependencies (library_after c.args.self.now) c.args.name.now =
    rw (← c.self.view_is) (row_is c.self.inside.graph g.S.Subject.subject.dependencies _ c.self.invariant.holds c.args.name.now (rw c.self.view_is c.requires.present) c.in-Some.dependencies.now c.in-Some.ensures.row) in
    λ d m p. c.requires.rests d (subst (Member d) own m) p

pub joined-requires : goal.joined-requires
joined-requires g c = λ list m. among_ascending g.S.Subject.subject.dependencies (library_after c.args.self.now) _ list (c.in_ok-parts.ensures.reaches list m)

pub returns : goal.returns
returns g c =
    let D = g.S.Subject.subject.dependencies in
    let own : c.in-Some.dependencies.now ≡ direct D (library_after c.args.self.now) c.args.name.now =
    rw (← c.self.view_is) (row_is c.self.inside.graph D _ c.self.invariant.holds c.args.name.now (rw c.self.view_is c.requires.present) c.in-Some.dependencies.now c.in-Some.ensures.row) in
    ok_same (λ names. names ≡ reach D (library_after c.args.self.now) c.args.name.now) c.with.result (with_name c.args.name.now c.in_ok-all.all) c.with.ensures
    (joined_reach D (library_after c.args.self.now) c.args.name.now c.in_ok-parts.parts.items c.in_ok-all.all
    (subst (λ z. AreParts D (library_after c.args.self.now) z z c.in_ok-parts.parts.items) own c.in_ok-parts.ensures) c.in_ok-all.ensures)
