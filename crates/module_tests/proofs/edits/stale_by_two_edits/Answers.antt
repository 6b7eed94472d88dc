use Rattle.module_tests.proofs.edits.stale_by_two_edits.Goals as goal

pub bring-reply-requires-clause-may_end : goal.bring-reply-requires-clause-may_end
bring-reply-requires-clause-may_end g c κs within = c.put-back.ensures.stays 0 _ (c.put-edited.ensures.stays 0 _ c.in-Some.ensures.may_end)
