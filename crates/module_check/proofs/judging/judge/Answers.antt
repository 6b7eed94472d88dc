use Rattle.mmt_interface.specs.Readings.{read_verdict}
use Rattle.module_check.proofs.VerdictsTyped.{verdict_is_typed}
use Rattle.module_check.proofs.judging.judge.Goals as goal

pub returns-clause-typed : goal.returns-clause-typed
returns-clause-typed g c = λ library given. verdict_is_typed library c.args.name.now (read_verdict c.in_ok-verdict.verdict) (c.in_ok-verdict.ensures library given)
