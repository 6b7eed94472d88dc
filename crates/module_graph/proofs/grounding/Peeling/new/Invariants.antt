use Rattle.list_laws.proofs.Writes.{AreEmpty}
use Rattle.module_graph.proofs.grounding.Peeling.new.Given as goal

abbrev pub invariant-loop : goal.invariant-loop
invariant-loop l = AreEmpty (λ list. list.items) l.waiting.items l.counter
