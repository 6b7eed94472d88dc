use Rattle.std.proofs.Common.{◌≤◌, [], length}
use Rattle.std.specs.Prelude.{flat_map}
use Rattle.text_meaning.specs.Parsing.{AtDecl, Simple, answer_on}
use Rattle.text_meaning.specs.Dependencies.{decl_dependencies}
use Rattle.twelf_expressions.specs.Left.{left}
use Rattle.twelf_reader.specs.Dependencies.{Adds}
use Rattle.twelf_reader.proofs.dependency_decls.add_decls.Given as goal

abbrev pub invariant-loop : goal.invariant-loop
invariant-loop l = record {
  goes : (sig : Simple) → Adds (answer_on (AtDecl sig []) (left l.fn.reader)) (λ xs. answer_on (AtDecl sig xs) (left l.reader)) (flat_map (decl_dependencies l.own)) l.fn.names l.names;
  less : length (left l.reader) ≤ length (left l.fn.reader);
}

abbrev pub decreases-loop : goal.decreases-loop
decreases-loop l = length (left l.reader)
