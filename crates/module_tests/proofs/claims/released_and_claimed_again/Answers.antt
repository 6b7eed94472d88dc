use Rattle.verdict_board.specs.Readings.{read_job}
use Rattle.module_tests.proofs.Handed.{apart}
use Rattle.module_tests.proofs.claims.released_and_claimed_again.Goals as goal

pub release-requires-clause-may_end : goal.release-requires-clause-may_end
release-requires-clause-may_end g c κs within = c.claim-2.ensures.stays 1 _ c.in-Some.ensures.may_end

pub release-requires-in-Some-claim-clause-may_end : goal.release-requires-in-Some-claim-clause-may_end
release-requires-in-Some-claim-clause-may_end g c κs within =
    let read = read_job g.S.Subject.meaning in
    c.release.ensures.stays 2 _ (apart g.S.Subject.subject c.claim.new.board 1 (read c.in-Some.first) (read c.in-Some-claim.second) c.in-Some.ensures.may_end c.in-Some-claim.ensures.place).0 c.in-Some-claim.ensures.may_end

pub release-requires-in-None-clause-may_end : goal.release-requires-in-None-clause-may_end
release-requires-in-None-clause-may_end g c κs within = c.claim-2.ensures.stays 1 _ c.in-Some.ensures.may_end
