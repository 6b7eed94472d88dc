-- Values: of heads with arguments, and translated.
use Rattle.std.proofs.Common.{◌≡◌, ℕ, zero, List, [], ◌∷◌, length, Some, None, refl, ap, sym, ◌∙◌}
use Rattle.lf_meaning.specs.Terms.{Object, At, Atomic, Var, App, AtFamily, AtomicFamily, FamilyApp, apply_all, family_apply_all}
use Rattle.lf_meaning.specs.Signatures.{TermValue, FamilyValue}
use Rattle.lf_meaning.specs.HeadMaps.{Image, HeadMap, image_of}
use Rattle.translation_meaning.specs.Translation.{object_value, family_value, same_image, translate_object, translate_family, translate_value}
use Rattle.translation_meaning.specs.Unmapped.{without_image, unmapped_object, unmapped_family, unmapped_value}
use Rattle.term_trees.specs.Readings.{read_constant, read_object, read_objects, read_family, read_value}
use Rattle.base_types.specs.declared.qname.QName.{QName}
use Rattle.term_trees.specs.declared.class.Value.{Value}
use Rattle.term_trees.specs.declared.class.Value.TheVariants as values
use Rattle.term_trees.specs.declared.fam.Fam.{Fam}
use Rattle.term_trees.specs.declared.obj.Obj.{Obj}

term_applied : (r : Atomic) (m : Object) (ms : List Object) → TermValue (At (apply_all (App r m) ms)) ≡ object_value (At (apply_all (App r m) ms))
term_applied r m [] = refl
term_applied r m (n ∷ ms) = term_applied (App r m) n ms

-- A head with arguments is no bare constant, and no variable is one.
pub term_with_arguments : (r : Atomic) (items : List Obj) → (length items ≡ 0 → ⊥) → TermValue (At (apply_all r (read_objects items))) ≡ object_value (At (apply_all r (read_objects items)))
term_with_arguments r [] h = absurd (h refl)
term_with_arguments r (m ∷ items) h = term_applied r (read_object m) (read_objects items)

pub variable_term : (i : ℕ) (ms : List Object) → TermValue (At (apply_all (Var i) ms)) ≡ object_value (At (apply_all (Var i) ms))
variable_term i [] = refl
variable_term i (m ∷ ms) = term_applied (Var i) m ms

family_applied : (p : AtomicFamily) (m : Object) (ms : List Object) → FamilyValue zero (AtFamily (family_apply_all (FamilyApp p m) ms)) ≡ family_value zero (AtFamily (family_apply_all (FamilyApp p m) ms))
family_applied p m [] = refl
family_applied p m (n ∷ ms) = family_applied (FamilyApp p m) n ms

pub family_with_arguments : (p : AtomicFamily) (items : List Obj) → (length items ≡ 0 → ⊥) → FamilyValue zero (AtFamily (family_apply_all p (read_objects items))) ≡ family_value zero (AtFamily (family_apply_all p (read_objects items)))
family_with_arguments p [] h = absurd (h refl)
family_with_arguments p (m ∷ items) h = family_applied p (read_object m) (read_objects items)

module _ (along : HeadMap) (t v : Value) where
  abbrev pub Answered : Type 0
  Answered = (unmapped_value along (read_value t) ≡ None) × (read_value v ≡ translate_value along (read_value t))

  pub same_translated : (q : QName) (image : Image) → t ≡ values.Same q → image_of along (read_constant q) ≡ Some image → read_value v ≡ image.value → Answered
  unfolding translate_value
  same_translated q image is found copied = (
    ap (λ w. unmapped_value along (read_value w)) is ∙ ap (without_image (read_constant q)) found,
    copied ∙ sym (ap (same_image (read_constant q)) found) ∙ sym (ap (λ w. translate_value along (read_value w)) is),
  )

  pub term_translated : (n m : Obj) → t ≡ values.Term n → unmapped_object along (read_object n) ≡ None → read_object m ≡ translate_object along (read_object n) → read_value v ≡ object_value (read_object m) → Answered
  unfolding translate_value
  term_translated n m is none translated made = (
    ap (λ w. unmapped_value along (read_value w)) is ∙ none,
    made ∙ ap object_value translated ∙ sym (ap (λ w. translate_value along (read_value w)) is),
  )

  pub family_translated : (binders : ℕ) (b a : Fam) → t ≡ values.Fam binders b → unmapped_family along (read_family b) ≡ None → read_family a ≡ translate_family along (read_family b) → read_value v ≡ family_value binders (read_family a) → Answered
  unfolding translate_value
  family_translated binders b a is none translated made = (
    ap (λ w. unmapped_value along (read_value w)) is ∙ none,
    made ∙ ap (family_value binders) translated ∙ sym (ap (λ w. translate_value along (read_value w)) is),
  )
