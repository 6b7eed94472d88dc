-- Objects: what is asked of the images that are met, what has none, and what comes of a head with its arguments.
use Rattle.std.proofs.Common.{◌≡◌, ℕ, List, [], ◌∷◌, map, Some, None, true, sym, ap, ◌∙◌, subst}
use Rattle.std.specs.declared.boxed.Box.{Box}
use Rattle.std.specs.declared.alloc.Global.{Global}
use Rattle.lf_meaning.specs.Terms.{Constant, Object, Lam, At, Atomic, Var, Con, App, apply_all}
use Rattle.lf_meaning.specs.Equality.{same_value}
use Rattle.lf_meaning.specs.Signatures as signatures
use Rattle.lf_meaning.specs.HeadMaps.{Image, HeadMap, image_of}
use Rattle.lf_meaning.specs.Erasure.{erase}
use Rattle.lf_meaning.specs.Replacement.{Kept, object_of, takes_all, of_constants}
use Rattle.lf_meaning.specs.Substitution.{reduce}
use Rattle.lf_term_laws.proofs.Equality.{same_value_sound}
use Rattle.lf_term_laws.proofs.Spines.{replace_applied, takes_all_kept, takes_all_is_reduce}
use Rattle.lf_substitution_laws.proofs.Constants.{any_depth}
use Rattle.translation_meaning.specs.Translation.{headed_image, object_image, translate_object}
use Rattle.translation_meaning.specs.Unmapped.{first_of, without_image, unmapped_object, unmapped_atomic}
use Rattle.translation_laws.proofs.Spines.{spine_taken}
use Rattle.term_trees.specs.Readings.{read_constant, read_head, read_object, read_arguments, read_class, read_value, read_family, read_simple, read_objects, arguments_of}
use Rattle.base_types.specs.declared.qname.QName.{QName}
use Rattle.term_trees.specs.declared.class.Class as code
use Rattle.term_trees.specs.declared.class.Class.TheVariants as classes
use Rattle.term_trees.specs.declared.class.Value as code_value
use Rattle.term_trees.specs.declared.class.Value.TheVariants as values
use Rattle.term_trees.specs.declared.fam.Fam.{Fam}
use Rattle.term_trees.specs.declared.kind.Kind as kind
use Rattle.term_trees.specs.declared.obj.Head.{Head}
use Rattle.term_trees.specs.declared.obj.Head.TheVariants as head
use Rattle.term_trees.specs.declared.obj.Obj.{Obj}
use Rattle.term_trees.specs.declared.obj.Obj.TheVariants as objs
use Rattle.term_trees.specs.declared.obj.Spine.{Spine}
use Rattle.term_trees.specs.declared.simple.Simple as simples
use Rattle.term_trees.proofs.ReadingEquations.{read_object_lam, read_object_at}
use Rattle.lf_translate.specs.Answers.{Names}
use Rattle.lf_translate.specs.Spines.{unmapped_arguments}
use Rattle.lf_translate.specs.declared.fault.TranslateFault.{TranslateFault}
use Rattle.lf_translate.proofs.Faults.{first_none, first_grouped}

module _ (along : HeadMap) where
  unmapped_spine : (r : Atomic) (ms : List Object) → first_of (unmapped_atomic along r) (unmapped_arguments along ms) ≡ unmapped_atomic along (apply_all r ms)
  unfolding unmapped_object
  unmapped_spine r [] = first_none (unmapped_atomic along r)
  unmapped_spine r (m ∷ ms) = sym (first_grouped (unmapped_atomic along r) (unmapped_object along m) (unmapped_arguments along ms)) ∙ unmapped_spine (App r m) ms

  variable_taken : (i : ℕ) (ms : List Object) → translate_object along (At (apply_all (Var i) ms)) ≡ At (apply_all (Var i) (map (translate_object along) ms))
  unfolding translate_object
  variable_taken i ms = replace_applied (of_constants (λ (constant : Constant). headed_image constant (image_of along constant))) 0 (Var i) ms ∙ ap object_of (takes_all_kept (Var i) (map (translate_object along) ms))

  -- A λ.
  pub unmapped_lam : (t : Obj) (m : Box Obj Global) → t ≡ objs.Lam m → unmapped_object along (read_object m.value) ≡ unmapped_object along (read_object t)
  unfolding unmapped_object
  unmapped_lam t m is = sym (ap (unmapped_object along) (ap read_object is ∙ read_object_lam m))

  pub translated_lam : (t : Obj) (m b : Box Obj Global) → t ≡ objs.Lam m → read_object b.value ≡ translate_object along (read_object m.value) → read_object (objs.Lam b) ≡ translate_object along (read_object t)
  unfolding translate_object
  translated_lam t m b is h =
      read_object_lam b ∙ ap Lam (h ∙ any_depth (λ (constant : Constant). headed_image constant (image_of along constant)) 0 1 (read_object m.value))
      ∙ sym (ap (translate_object along) (ap read_object is ∙ read_object_lam m))

  pub lam_stays : (t : Obj) (m : Box Obj Global) → t ≡ objs.Lam m → read_object m.value ≡ translate_object along (read_object m.value) → read_object t ≡ translate_object along (read_object t)
  lam_stays t m is h = ap read_object is ∙ translated_lam t m m is h

  -- A head with its arguments.
  module _ (t : Obj) (h : Head) (s : Spine) (is : t ≡ objs.At h s) where
    reads : read_object t ≡ At (apply_all (read_head h) (read_arguments s))
    reads = ap read_object is ∙ read_object_at h s

    pub unmapped_at : first_of (unmapped_atomic along (read_head h)) (unmapped_arguments along (read_arguments s)) ≡ unmapped_object along (read_object t)
    unfolding unmapped_object
    unmapped_at = unmapped_spine (read_head h) (read_arguments s) ∙ sym (ap (unmapped_object along) reads)

    module _ (ms : List Object) (arguments : ms ≡ map (translate_object along) (read_arguments s)) where
      pub translated_variable : (i : ℕ) → h ≡ head.Var i → At (apply_all (read_head h) ms) ≡ translate_object along (read_object t)
      translated_variable i var =
          ap (λ g. At (apply_all (read_head g) ms)) var
          ∙ ap (λ ns. At (apply_all (Var i) ns)) arguments
          ∙ sym (variable_taken i (read_arguments s))
          ∙ sym (ap (translate_object along) (reads ∙ ap (λ g. At (apply_all (read_head g) (read_arguments s))) var))

      module _ (q : QName) (image : Image) (con : h ≡ head.Con q) (found : image_of along (read_constant q) ≡ Some image) where
        pub translated_constant : (m : Object) → m ≡ object_of (takes_all (object_image (read_constant q) image.class image.value) ms) → m ≡ translate_object along (read_object t)
        translated_constant m put =
            put
            ∙ ap (λ ns. object_of (takes_all (object_image (read_constant q) image.class image.value) ns)) arguments
            ∙ sym (ap (λ o. object_of (takes_all (headed_image (read_constant q) o) (map (translate_object along) (read_arguments s)))) found)
            ∙ sym (spine_taken along (read_constant q) (read_arguments s))
            ∙ sym (ap (translate_object along) (reads ∙ ap (λ g. At (apply_all (read_head g) (read_arguments s))) con))

        -- an image that is the same constant
        pub constant_stays : same_value image.value (signatures.SameAs (read_constant q)) ≡ true → At (apply_all (read_head h) ms) ≡ translate_object along (read_object t)
        constant_stays same =
            ap (λ g. At (apply_all (read_head g) ms)) con
            ∙ translated_constant (At (apply_all (Con (read_constant q)) ms))
            (sym (ap object_of (takes_all_kept (Con (read_constant q)) ms))
            ∙ sym (ap (λ v. object_of (takes_all (object_image (read_constant q) image.class v) ms)) (same_value_sound image.value (signatures.SameAs (read_constant q)) same)))

  pub head_none : (h : Head) (i : ℕ) → h ≡ head.Var i → unmapped_atomic along (read_head h) ≡ None
  unfolding unmapped_object
  head_none h i is = ap (λ g. unmapped_atomic along (read_head g)) is

  pub head_unmapped : (h : Head) (q : QName) (image : Image) → h ≡ head.Con q → image_of along (read_constant q) ≡ Some image → unmapped_atomic along (read_head h) ≡ None
  unfolding unmapped_object
  head_unmapped h q image is found = ap (λ g. unmapped_atomic along (read_head g)) is ∙ ap (without_image (read_constant q)) found

  pub head_missing : (h : Head) (q : QName) (fault : TranslateFault) → h ≡ head.Con q → Names fault (without_image (read_constant q) (image_of along (read_constant q))) → Names fault (unmapped_atomic along (read_head h))
  unfolding unmapped_object
  head_missing h q fault is names = subst (λ g. Names fault (unmapped_atomic along (read_head g))) (sym is) names

-- The image in its place.
module _ (c : QName) (k : code.Class) (v : code_value.Value) (s : Spine) where
  abbrev pub Placed : signatures.Class → signatures.Value → Object
  Placed class value = object_of (takes_all (object_image (read_constant c) class value) (read_arguments s))

  of_value : (w : code_value.Value) → v ≡ w → Placed (read_class k) (read_value v) ≡ Placed (read_class k) (read_value w)
  of_value w is = ap (λ x. Placed (read_class k) (read_value x)) is

  -- a constant in the place of the head
  constant_placed : (q p : QName) → p ≡ q → read_object (objs.At (head.Con p) s) ≡ object_of (takes_all (Kept (Con (read_constant q))) (read_arguments s))
  constant_placed q p copied =
      read_object_at (head.Con p) s
      ∙ ap (λ x. At (apply_all (Con (read_constant x)) (read_arguments s))) copied
      ∙ sym (ap object_of (takes_all_kept (Con (read_constant q)) (read_arguments s)))

  pub same_in_place : (q p : QName) → v ≡ values.Same q → p ≡ q → read_object (objs.At (head.Con p) s) ≡ Placed (read_class k) (read_value v)
  same_in_place q p value copied = constant_placed q p copied ∙ sym (of_value (values.Same q) value)

  pub term_in_place : (a : Fam) (n m : Obj) (simple : simples.Simple) (items : List Obj) → k ≡ classes.Fam a → v ≡ values.Term n → read_simple simple ≡ erase (read_family a) → items ≡ arguments_of s
      → read_object m ≡ reduce (read_object n) (read_simple simple) (read_objects items)
      → read_object m ≡ Placed (read_class k) (read_value v)
  term_in_place a n m simple items class value erased same reduced =
      reduced
      ∙ ap (λ x. reduce (read_object n) x (read_objects items)) erased
      ∙ ap (λ xs. reduce (read_object n) (erase (read_family a)) (read_objects xs)) same
      ∙ sym (ap object_of (takes_all_is_reduce (read_object n) (erase (read_family a)) (read_arguments s)))
      ∙ sym (ap (λ j. Placed (read_class j) (read_value (values.Term n))) class)
      ∙ sym (of_value (values.Term n) value)

  pub level_in_place : (j : kind.Kind) (n : Obj) (p : QName) → k ≡ classes.Kind j → v ≡ values.Term n → p ≡ c → read_object (objs.At (head.Con p) s) ≡ Placed (read_class k) (read_value v)
  level_in_place j n p class value copied = constant_placed c p copied ∙ sym (ap (λ l. Placed (read_class l) (read_value (values.Term n))) class) ∙ sym (of_value (values.Term n) value)

  pub family_in_place : (n : ℕ) (a : Fam) (p : QName) → v ≡ values.Fam n a → p ≡ c → read_object (objs.At (head.Con p) s) ≡ Placed (read_class k) (read_value v)
  family_in_place n a p value copied = constant_placed c p copied ∙ sym (of_value (values.Fam n a) value)
