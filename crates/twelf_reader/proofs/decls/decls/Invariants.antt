use Rattle.std.proofs.Common.{◌≡◌, ◌≤◌, [], length}
use Rattle.text_meaning.specs.Parsing.{AtDecl, Simple, answer_on}
use Rattle.mmt_syntax.specs.Readings.{read_decls}
use Rattle.twelf_expressions.specs.Left.{left}
use Rattle.twelf_reader.proofs.decls.decls.Given as goal

abbrev pub invariant-loop-decls : goal.invariant-loop-decls
invariant-loop-decls l = record {
  goes : (sig : Simple) → answer_on (AtDecl sig []) (left l.initial.reader) ≡ answer_on (AtDecl sig (read_decls l.decls)) (left l.reader);
  less : length (left l.reader) ≤ length (left l.initial.reader);
}

abbrev pub decreases-loop-decls : goal.decreases-loop-decls
decreases-loop-decls l = length (left l.reader)
