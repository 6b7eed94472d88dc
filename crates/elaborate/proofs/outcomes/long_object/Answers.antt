use Rattle.std.proofs.Common.{◌≡◌}
use Rattle.std.proofs.lemmas.Result.{IfOk-weaker}
use Rattle.lf_meaning.specs.Terms.{apply_all}
use Rattle.lf_meaning.specs.Erasure.{erase}
use Rattle.eta_meaning.specs.LongTerms.{eta, expanded}
use Rattle.term_trees.specs.Readings.{read_arguments, read_family, read_head, read_object}
use Rattle.elaborate.proofs.OutcomesStand.{atomic_left, lambda_left, atom_expanded}
use Rattle.elaborate.proofs.outcomes.long_object.Goals as goal

pub returns-in-At : goal.returns-in-At
returns-in-At c = atomic_left c.args.family.now _ _ (read_object c.args.outcome) c.in-At.is

pub returns-in-Lam : goal.returns-in-Lam
returns-in-Lam c = lambda_left c.args.family.now c.in-Pi.field-0 c.in-Pi.field-1 c.in-Pi.is c.args.outcome c.in-Lam.field-0 c.in-Lam.is

pub returns-in-At-outcome : goal.returns-in-At-outcome
returns-in-At-outcome c =
    IfOk-weaker c.long_atom.result (λ m. read_object m ≡ eta (erase (read_family c.args.family.now)) (apply_all (read_head c.in-At-outcome.head) (read_arguments c.in-At-outcome.spine))) (λ m. read_object m ≡ expanded (read_family c.args.family.now) (read_object c.args.outcome))
    (λ m long. atom_expanded c.args.family.now c.in-Pi.field-0 c.in-Pi.field-1 c.in-Pi.is c.args.outcome c.in-At-outcome.head c.in-At-outcome.spine m c.in-At-outcome.is long)
    c.long_atom.ensures
