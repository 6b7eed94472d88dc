use Rattle.std.proofs.Common.{◌≡◌, take}
use Rattle.verdict_board.specs.Readings.{read_inputs, inputs_of_names}
use Rattle.verdict_board.proofs.board.Board.inputs.Given as goal

abbrev pub invariant-loop-name : goal.invariant-loop-name
invariant-loop-name g l = read_inputs l.inputs.items ≡ inputs_of_names l.self (take l.name-index l.names)
