use Rattle.judged_laws.proofs.Translated.{only_views_carry, views_are_found, unread_is_ill, family_is_ill_first, object_is_ill_next}
use Rattle.judged_laws.proofs.carrying_laws.law_carry_faults.Goals as goal

pub returns-clause-no_view : goal.returns-clause-no_view
returns-clause-no_view c = only_views_carry

pub returns-clause-view : goal.returns-clause-view
returns-clause-view c = views_are_found

pub returns-clause-unread : goal.returns-clause-unread
returns-clause-unread c = unread_is_ill

pub returns-clause-family : goal.returns-clause-family
returns-clause-family c = family_is_ill_first

pub returns-clause-object : goal.returns-clause-object
returns-clause-object c = object_is_ill_next
