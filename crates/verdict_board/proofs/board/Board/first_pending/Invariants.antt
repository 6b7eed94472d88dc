use Rattle.std.proofs.Common.{◌≡◌, ℕ, ◌<◌, ◌≤◌, true, slice_get, Some}
use Rattle.name_meaning.specs.Names.{Name}
use Rattle.name_meaning.specs.Rows.{row_names}
use Rattle.board_meaning.specs.Machine.{is_known}
use Rattle.verdict_board.proofs.board.Board.first_pending.Given as goal

abbrev pub invariant-loop-place : goal.invariant-loop-place
invariant-loop-place g l =
    (l.from ≤ l.place)
    × ((j : ℕ) (n : Name) → l.from ≤ j → j < l.place → slice_get (row_names l.self-inside.stages) j ≡ Some n → is_known g.S.Subject.subject.dependencies l.self-inside.history.entries n ≡ true)
