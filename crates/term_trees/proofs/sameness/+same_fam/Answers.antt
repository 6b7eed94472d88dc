use Rattle.std.proofs.Common.{◌≡◌, true, sym, ◌∙◌}
use lib.Pointwise.{pointwise}
use Rattle.lf_meaning.specs.Signatures.{same_constant}
use Rattle.lf_meaning.specs.Equality.{same_object, same_family}
use Rattle.term_trees.specs.Readings.{read_constant, read_family, read_arguments}
use Rattle.term_trees.proofs.SpineSameness.{same_family_at, first_decides, second_decides}
use Rattle.term_trees.proofs.sameness.+same_fam.Goals as goal

pub returns-then-eq : goal.returns-then-eq
returns-then-eq t c =
    let at = c.in-At-At in
    let heads = same_constant (read_constant at.c) (read_constant at.d) in
    let spines = pointwise same_object (read_arguments at.s) (read_arguments at.r) in
    let whole = same_family_at c.args.a.now c.args.b.now at.c at.d at.s at.r at.is-0 at.is-1 in
    let held : true ≡ heads = c.if-eq.ensures in
    c.same_spine.ensures ∙ second_decides heads spines (same_family (read_family c.args.a.now) (read_family c.args.b.now)) held whole

pub returns-else-eq : goal.returns-else-eq
returns-else-eq t c =
    let at = c.in-At-At in
    let heads = same_constant (read_constant at.c) (read_constant at.d) in
    let spines = pointwise same_object (read_arguments at.s) (read_arguments at.r) in
    let whole = same_family_at c.args.a.now c.args.b.now at.c at.d at.s at.r at.is-0 at.is-1 in
    let is : c.eq.result ≡ heads = c.eq.ensures in
    is ∙ first_decides heads spines (same_family (read_family c.args.a.now) (read_family c.args.b.now)) (sym is ∙ c.if-eq.false) whole
