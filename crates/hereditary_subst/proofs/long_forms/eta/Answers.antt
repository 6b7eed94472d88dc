use Rattle.std.proofs.Common.{◌≡◌, IfOk, subst}
use Rattle.lf_meaning.specs.Terms as terms
use Rattle.term_trees.specs.Readings.{read_simple, read_head, read_object, read_objects}
use Rattle.hereditary_subst.proofs.LongForms.{eta_built}
use Rattle.hereditary_subst.proofs.long_forms.eta.Goals as goal

pub returns : goal.returns
returns c =
    let built = eta_built (read_simple c.args.simple.now) (read_head c.args.head.now) (read_objects c.args.spine.now) c.in_ok-count.count (read_head c.in_ok-raised.raised) (read_objects c.in_ok-arguments.arguments.items)
    c.in_ok-count.ensures c.in_ok-raised.ensures c.in_ok-arguments.ensures in
    subst (λ (whole : terms.Object). IfOk c.long_object.result (λ m. read_object m ≡ whole)) built c.long_object.ensures
