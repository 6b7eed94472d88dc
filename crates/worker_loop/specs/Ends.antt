-- How a turn of a worker ended, as in the definition of turns (this profile).
use Rattle.board_meaning.specs.Turns as turns
use Rattle.verdict_board.specs.Readings.{read_installed}
use Rattle.worker_loop.specs.declared.one_turn.TurnEnd.{TurnEnd}
use Rattle.worker_loop.specs.declared.one_turn.TurnEnd.TheVariants.{Worked, Idle, Closed}

abbrev pub read_end : TurnEnd → turns.TurnEnd
read_end (Worked name how) = turns.Worked name (read_installed how)
read_end Idle = turns.Idle
read_end Closed = turns.Closed
