use Rattle.std.proofs.Common.{◌≡◌, ◌≤◌, [], length}
use Rattle.text_meaning.specs.Parsing.{AtAssign, Owner, answer_on}
use Rattle.mmt_syntax.specs.Readings.{read_assigns}
use Rattle.twelf_expressions.specs.Left.{left}
use Rattle.twelf_reader.proofs.assigns.assigns.Given as goal

abbrev pub invariant-loop-assigns : goal.invariant-loop-assigns
invariant-loop-assigns l = record {
  goes : (o : Owner) → answer_on (AtAssign o []) (left l.initial.reader) ≡ answer_on (AtAssign o (read_assigns l.assigns)) (left l.reader);
  less : length (left l.reader) ≤ length (left l.initial.reader);
}

abbrev pub decreases-loop-assigns : goal.decreases-loop-assigns
decreases-loop-assigns l = length (left l.reader)
