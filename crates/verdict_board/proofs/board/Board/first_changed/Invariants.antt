use Rattle.std.proofs.Common.{◌≡◌, ℕ, ◌<◌, true, slice_get, Some}
use Rattle.board_meaning.specs.Claims.{Input, is_unchanged}
use Rattle.verdict_board.specs.Readings.{read_inputs}
use Rattle.verdict_board.proofs.board.Board.first_changed.Given as goal

abbrev pub invariant-loop-place : goal.invariant-loop-place
invariant-loop-place g l =
    (j : ℕ) (x : Input) → j < l.place → slice_get (read_inputs l.inputs) j ≡ Some x → is_unchanged l.self-inside.history.entries x ≡ true
