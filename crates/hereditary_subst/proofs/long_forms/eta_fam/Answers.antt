use Rattle.std.proofs.Common.{ap, ◌∙◌}
use Rattle.lf_meaning.specs.Terms as terms
use Rattle.term_trees.specs.Readings.{read_constant, read_kind, read_objects, read_arguments}
use Rattle.term_trees.proofs.ReadingEquations.{read_family_at}
use Rattle.hereditary_subst.proofs.LongForms.{family_built}
use Rattle.hereditary_subst.proofs.long_forms.eta_fam.Goals as goal

pub returns : goal.returns
returns c =
    let head = c.in_ok-copy.field-0 in
    let spine = c.in_ok-of.field-0 in
    let constant = read_constant c.args.head.now in
    let built = family_built (read_kind c.args.kind.now) constant (read_objects c.args.spine.now) c.in_ok-count.count (read_objects c.in_ok-arguments.arguments.items) (read_objects c.in_ok-all.all.items)
    c.in_ok-count.ensures c.in_ok-arguments.ensures c.in_ok-all.ensures in
    read_family_at head spine
    ∙ ap (λ q. terms.AtFamily (terms.family_apply_all (terms.FamilyCon (read_constant q)) (read_arguments spine))) c.in_ok-copy.ensures
    ∙ ap (λ items. terms.AtFamily (terms.family_apply_all (terms.FamilyCon constant) (read_objects items))) c.in_ok-of.ensures
    ∙ ap terms.AtFamily built
