use Rattle.std.proofs.Common.{ap, ◌∙◌}
use Rattle.name_meaning.specs.Names.{is_among, is_ascending}
use Rattle.module_graph_laws.proofs.Reaching.{reach_ascending}
use Rattle.board_meaning.specs.Events.{library_after}
use Rattle.verdict_board.proofs.board.Board.reaches.Goals as goal

pub contains-requires-clause-sorted : goal.contains-requires-clause-sorted
contains-requires-clause-sorted g c = ap is_ascending c.in-Some.ensures ∙ reach_ascending g.S.Subject.subject.dependencies (library_after c.args.self.now) c.args.from.now

pub returns-in-Some : goal.returns-in-Some
returns-in-Some g c = c.contains.ensures ∙ ap (λ names. is_among names c.args.name.now) c.in-Some.ensures
