use Rattle.verdict_board.specs.Readings.{read_job}
use Rattle.module_tests.proofs.Handed.{apart}
use Rattle.module_tests.proofs.claims.claimed_twice.Goals as goal

pub bring-stale-requires-clause-may_end : goal.bring-stale-requires-clause-may_end
bring-stale-requires-clause-may_end g c κs within = c.claim-2.ensures.stays 1 _ (c.put-edited.ensures.stays 1 _ c.in-Some.ensures.may_end)

pub bring-fresh-requires-clause-may_end : goal.bring-fresh-requires-clause-may_end
bring-fresh-requires-clause-may_end g c κs within =
    let read = read_job g.S.Subject.meaning in
    let may = c.put-edited.ensures.stays 1 _ c.in-Some.ensures.may_end in
    c.bring-stale.ensures.stays 2 _ (apart g.S.Subject.subject c.put-edited.new.board 1 (read c.in-Some.first) (read c.in-Some-claim.second) may c.in-Some-claim.ensures.place).0 c.in-Some-claim.ensures.may_end

pub release-requires-clause-may_end : goal.release-requires-clause-may_end
release-requires-clause-may_end g c κs within = c.claim-2.ensures.stays 1 _ (c.put-edited.ensures.stays 1 _ c.in-Some.ensures.may_end)
