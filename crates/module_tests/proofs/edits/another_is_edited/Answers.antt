use Rattle.module_tests.proofs.edits.another_is_edited.Goals as goal

pub bring-reply-requires-clause-may_end : goal.bring-reply-requires-clause-may_end
bring-reply-requires-clause-may_end g c κs within = c.put-edited.ensures.stays 1 _ c.in-Some.ensures.may_end
