use Rattle.std.proofs.Common.{ap, sym, ◌∙◌}
use Rattle.lf_meaning.specs.Raising.{raise_family}
use Rattle.term_trees.specs.Readings.{read_family}
use Rattle.term_trees.proofs.Raised.{raise_family_at}
use Rattle.term_trees.proofs.shift.+shift_fam.Goals as goal

pub returns-in_ok-shift_spine-in-At : goal.returns-in_ok-shift_spine-in-At
returns-in_ok-shift_spine-in-At t c =
    let by = c.args.by in
    let from = c.args.from in
    let raised = raise_family_at by from c.in-At.head c.in_ok-copy-in-At.field-0 c.in-At.spine c.in_ok-shift_spine-in-At.field-0 c.in_ok-copy-in-At.ensures c.in_ok-shift_spine-in-At.ensures in
    raised ∙ sym (ap (λ a. raise_family by from (read_family a)) c.in-At.is)
