-- Raising of a head with a spine, taken at once.
use Rattle.std.proofs.Common.{◌≡◌, ℕ, map, ap, sym, ◌∙◌}
use Rattle.lf_meaning.specs.Terms as terms
use Rattle.lf_meaning.specs.Raising.{raise, raise_atomic, raise_family}
use Rattle.lf_term_laws.proofs.Spines.{raise_applied, map_applied}
use Rattle.term_trees.specs.Readings.{read_constant, read_head, read_object, read_arguments, read_family}
use Rattle.base_types.specs.declared.qname.QName.{QName}
use Rattle.term_trees.specs.declared.obj.Head.{Head}
use Rattle.term_trees.specs.declared.obj.Obj.TheVariants as objs
use Rattle.term_trees.specs.declared.obj.Spine.{Spine}
use Rattle.term_trees.specs.declared.fam.Fam.TheVariants as fams
use Rattle.term_trees.proofs.ReadingEquations.{read_object_at, read_family_at}

pub raise_object_at : (by from : ℕ) (h g : Head) (s r : Spine) → read_head g ≡ raise_atomic by from (read_head h) → read_arguments r ≡ map (raise by from) (read_arguments s) → read_object (objs.At g r) ≡ raise by from (read_object (objs.At h s))
raise_object_at by from h g s r head spine =
    let made = read_object_at g r in
    let heads = ap (λ x. terms.At (terms.apply_all x (read_arguments r))) head in
    let spines = ap (λ ms. terms.At (terms.apply_all (raise_atomic by from (read_head h)) ms)) spine in
    let raised = ap terms.At (sym (raise_applied by from (read_head h) (read_arguments s))) in
    made ∙ heads ∙ spines ∙ raised ∙ sym (ap (raise by from) (read_object_at h s))

pub raise_family_at : (by from : ℕ) (h g : QName) (s r : Spine) → g ≡ h → read_arguments r ≡ map (raise by from) (read_arguments s) → read_family (fams.At g r) ≡ raise_family by from (read_family (fams.At h s))
raise_family_at by from h g s r head spine =
    let made = read_family_at g r in
    let heads = ap (λ q. terms.AtFamily (terms.family_apply_all (terms.FamilyCon (read_constant q)) (read_arguments r))) head in
    let spines = ap (λ ms. terms.AtFamily (terms.family_apply_all (terms.FamilyCon (read_constant h)) ms)) spine in
    let raised = ap terms.AtFamily (sym (map_applied (raise by) from (terms.FamilyCon (read_constant h)) (read_arguments s))) in
    made ∙ heads ∙ spines ∙ raised ∙ sym (ap (raise_family by from) (read_family_at h s))
