use Rattle.list_laws.proofs.Writes.{AreEmpty}
use Rattle.verdict_board.proofs.candidates.Candidates.new.Given as goal

abbrev pub invariant-loop : goal.invariant-loop
invariant-loop l = AreEmpty (λ list. list.items) l.parked.items l.counter
