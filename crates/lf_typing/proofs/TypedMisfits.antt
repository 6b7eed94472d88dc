-- A substitution into a typing judgement meets no misfit.
use Rattle.std.proofs.Common.{[], ◌∷◌, ◌++◌, length, refl, subst}
use Rattle.lf_meaning.specs.Terms.{Object, Family, Context}
use Rattle.lf_meaning.specs.Signatures.{Signature}
use Rattle.lf_meaning.specs.Judgements.{Checks, IsFamily, IsContext}
use Rattle.lf_meaning.specs.Erasure.{erase, erase_context}
use Rattle.lf_meaning.specs.Sorts.{HasSort, IsSortedFamily, sorts_of}
use Rattle.lf_meaning.specs.Misfits.{NoMisfit, NoMisfitInFamily, NoMisfitInContext}
use Rattle.lf_typing.specs.TypingLaws.{TypedSubstitutionMeetsNoMisfit}
use Rattle.lf_typing.proofs.Typed.{checks_sort, family_sorted}
use Rattle.lf_typing.proofs.Regular.{erase_split, length_erased}
use Rattle.lf_substitution_laws.proofs.Misfitting.{no_misfit, no_misfit_in_family}

-- in a family behind some variables
family_no_misfit : (sig : Signature) (after before : Context) (v : Object) (a : Family) → Checks sig before v a → (b : Family) → IsFamily sig (after ++ (a ∷ before)) b → NoMisfitInFamily v (erase a) (length after) b
family_no_misfit sig after before v a h b is =
    let value : HasSort (sorts_of sig) (erase_context before) v (erase a) = checks_sort sig before v a h in
    let family : IsSortedFamily (sorts_of sig) (erase_context after ++ (erase a ∷ erase_context before)) b = subst (λ D. IsSortedFamily (sorts_of sig) D b) (erase_split after before a (erase a) refl) (family_sorted sig (after ++ (a ∷ before)) b is) in
    subst (λ n. NoMisfitInFamily v (erase a) n b) (length_erased after) (no_misfit_in_family (sorts_of sig) (erase_context before) v (erase a) value (erase_context after) b family)

context_no_misfit : (sig : Signature) (after before : Context) (v : Object) (a : Family) → Checks sig before v a → IsContext sig (after ++ (a ∷ before)) → NoMisfitInContext v (erase a) after
context_no_misfit sig [] before v a h is = tt
context_no_misfit sig (c ∷ after) before v a h is = (family_no_misfit sig after before v a h c is.1, context_no_misfit sig after before v a h is.0)

pub typed_no_misfit : TypedSubstitutionMeetsNoMisfit
typed_no_misfit sig typed after before v a h m b j =
    let value : HasSort (sorts_of sig) (erase_context before) v (erase a) = checks_sort sig before v a h in
    let object : HasSort (sorts_of sig) (erase_context after ++ (erase a ∷ erase_context before)) m (erase b) = subst (λ D. HasSort (sorts_of sig) D m (erase b)) (erase_split after before a (erase a) refl) (checks_sort sig (after ++ (a ∷ before)) m b j.object_checks) in (
      subst (λ n. NoMisfit v (erase a) n m) (length_erased after) (no_misfit (erase a) (sorts_of sig) (erase_context after) (erase_context before) v m (erase b) value object),
      family_no_misfit sig after before v a h b j.family_is,
      context_no_misfit sig after before v a h j.context_is,
    )
