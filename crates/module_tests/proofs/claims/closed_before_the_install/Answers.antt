use Rattle.module_tests.proofs.claims.closed_before_the_install.Goals as goal

pub bring-reply-requires-clause-may_end : goal.bring-reply-requires-clause-may_end
bring-reply-requires-clause-may_end g c κs within = c.close.ensures.stays 1 _ c.in-Some.ensures.may_end
