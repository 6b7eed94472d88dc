use Rattle.library_laws.proofs.ComputedWords.{ends_are_apart, module_is_unknown, module_is_refused, theory_is_no_word, view_has_no_structures, structure_is_unknown}
use Rattle.library_laws.proofs.examples.word_faults.Goals as goal

pub returns-clause-ends : goal.returns-clause-ends
returns-clause-ends c = ends_are_apart

pub returns-clause-absent : goal.returns-clause-absent
returns-clause-absent c = module_is_unknown

pub returns-clause-refused : goal.returns-clause-refused
returns-clause-refused c = module_is_refused

pub returns-clause-theory : goal.returns-clause-theory
returns-clause-theory c = theory_is_no_word

pub returns-clause-view : goal.returns-clause-view
returns-clause-view c = view_has_no_structures

pub returns-clause-structure : goal.returns-clause-structure
returns-clause-structure c = structure_is_unknown
