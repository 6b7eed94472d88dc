use Rattle.acceptance_laws.proofs.ToldModules.{accepted_views_told, written_views_told}
use Rattle.acceptance_laws.proofs.AcceptedViews.{accepted_views, written_views}
use Rattle.acceptance_laws.proofs.view_laws.law_views.Goals as goal

pub returns-clause-faces : goal.returns-clause-faces
returns-clause-faces c = accepted_views

pub returns-clause-written : goal.returns-clause-written
returns-clause-written c = written_views

pub returns-clause-told : goal.returns-clause-told
returns-clause-told c = accepted_views_told

pub returns-clause-written_told : goal.returns-clause-written_told
returns-clause-written_told c = written_views_told
