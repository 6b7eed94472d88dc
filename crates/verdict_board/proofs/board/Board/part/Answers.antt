use Rattle.std.proofs.Common.{◌≡◌, ◌∷◌, []}
use Rattle.module_graph_meaning.specs.Reach.{reach}
use Rattle.board_meaning.specs.Events.{library_after}
use Rattle.verdict_board.proofs.Gathers.{absent_reach}
use Rattle.verdict_board.proofs.Joins.{ok_same}
use Rattle.verdict_board.proofs.board.Board.part.Goals as goal

pub returns-in-None : goal.returns-in-None
returns-in-None g c =
    ok_same (λ part. part ≡ reach g.S.Subject.subject.dependencies (library_after c.args.self.now) c.args.name.now) c.one.result (c.args.name.now ∷ []) c.one.ensures
    (absent_reach g.S.Subject.subject.dependencies c.args.self.now c.args.name.now c.requires c.in-None.ensures)
