use Rattle.std.proofs.Common.{◌≤◌, None, [], length}
use Rattle.std.specs.Prelude.{flat_map}
use Rattle.text_meaning.specs.Parsing.{AtAssign, Owner, answer_on}
use Rattle.text_meaning.specs.Dependencies.{assign_dependencies}
use Rattle.mmt_syntax.specs.DependenciesLeft.{own_name}
use Rattle.twelf_expressions.specs.Left.{left}
use Rattle.twelf_reader.specs.Dependencies.{Adds}
use Rattle.twelf_reader.proofs.dependency_assigns.add_assigns.Given as goal

abbrev pub invariant-loop : goal.invariant-loop
invariant-loop l = record {
  goes : (o : Owner) → Adds (answer_on (AtAssign o []) (left l.fn.reader)) (λ xs. answer_on (AtAssign o xs) (left l.reader)) (flat_map (assign_dependencies (own_name l.own) None [])) l.fn.names l.names;
  less : length (left l.reader) ≤ length (left l.fn.reader);
}

abbrev pub decreases-loop : goal.decreases-loop
decreases-loop l = length (left l.reader)
