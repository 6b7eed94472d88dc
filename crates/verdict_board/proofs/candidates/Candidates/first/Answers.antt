use Rattle.std.proofs.Common.{take, subst, sym}
use Rattle.verdict_board.specs.Readiness.{AreAll}
use Rattle.verdict_board.proofs.Parking.{first_all}
use Rattle.verdict_board.proofs.candidates.Candidates.first.Goals as goal

pub returns : goal.returns
returns c =
    subst (λ candidate. AreAll (λ list. list.items) c.args.count candidate c.truncate-2.new.self.items) (sym c.truncate.ensures)
    (subst (λ parked. AreAll (λ list. list.items) c.args.count (take c.args.count c.args.self.candidate) parked) (sym c.truncate-2.ensures.items)
    (first_all (λ list. list.items) c.args.count c.requires.0 c.args.self.candidate c.args.self.parked.items c.requires.1 c.requires.2))
