use Rattle.reach_printing_laws.proofs.PrintedInReach.{faces_print_theories, faces_print_views}
use Rattle.reach_printing_laws.proofs.laws.law_printed.Goals as goal

pub returns-clause-theories : goal.returns-clause-theories
returns-clause-theories c = faces_print_theories

pub returns-clause-views : goal.returns-clause-views
returns-clause-views c = faces_print_views
