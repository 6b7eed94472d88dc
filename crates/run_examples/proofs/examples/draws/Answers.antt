use Rattle.run_examples.proofs.FoldersComputed.{draws_are_made, parents_are_drawn, edits_are_drawn, texts_are_made, first_has_no_parent, edits_stand_in_order}
use Rattle.run_examples.proofs.examples.draws.Goals as goal

pub returns-clause-draws_are_made : goal.returns-clause-draws_are_made
returns-clause-draws_are_made c = draws_are_made

pub returns-clause-parents_are_drawn : goal.returns-clause-parents_are_drawn
returns-clause-parents_are_drawn c = parents_are_drawn

pub returns-clause-edits_are_drawn : goal.returns-clause-edits_are_drawn
returns-clause-edits_are_drawn c = edits_are_drawn

pub returns-clause-texts_are_made : goal.returns-clause-texts_are_made
returns-clause-texts_are_made c = texts_are_made

pub returns-clause-first_has_no_parent : goal.returns-clause-first_has_no_parent
returns-clause-first_has_no_parent c = first_has_no_parent

pub returns-clause-edits_stand_in_order : goal.returns-clause-edits_stand_in_order
returns-clause-edits_stand_in_order c = edits_stand_in_order
