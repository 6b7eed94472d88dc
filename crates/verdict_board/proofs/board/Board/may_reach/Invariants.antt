use Rattle.std.proofs.Common.{◌≡◌, false, take}
use Rattle.name_meaning.specs.Names.{Name, is_among}
use Rattle.list_laws.proofs.Members.{Member}
use Rattle.module_graph_meaning.specs.Reach.{reach}
use Rattle.board_meaning.specs.Events.{library_after}
use Rattle.verdict_board.proofs.board.Board.may_reach.Given as goal

abbrev pub invariant-loop-from : goal.invariant-loop-from
invariant-loop-from g l = (from : Name) → Member from (take l.from-index l.from-items) → is_among (reach g.S.Subject.subject.dependencies (library_after l.self) from) l.name ≡ false
