-- Maps from the constants of one signature, and of no others, to typed images over another: as replacements of constants they
-- are closed and keep sorts.
use Rattle.std.proofs.Common.{◌≡◌, ℕ, [], Option, Some, None, refl, sym, ap, ◌∙◌, subst, arith}
use Rattle.lf_meaning.specs.Terms.{Constant, Family, Simple}
use Rattle.lf_meaning.specs.Erasure.{erase}
use Rattle.lf_meaning.specs.Replacement.{Headed, Replaced, raise_headed}
use Rattle.lf_meaning.specs.Substitution.{action}
use Rattle.lf_meaning.specs.Signatures.{Class, FamilyClass, KindClass, Value, SameAs, TermValue, FamilyValue, Signature, class_of}
use Rattle.lf_meaning.specs.Judgements.{IsClass, Fits}
use Rattle.lf_meaning.specs.Sorts.{sort_of_class, sorts_of}
use Rattle.lf_substitution_laws.specs.Uniform.{HasType, HeadedHasSort, IsSortedMap}
use Rattle.lf_substitution_laws.proofs.Past.{raise_past}
use Rattle.lf_typing.proofs.Typed.{checks_sort}
use Rattle.lf_meaning.specs.HeadMaps.{Image, HeadMap, image_of}
use Rattle.translation_meaning.specs.Translation.{object_image, headed_image, translate_family, translate_class}
use Rattle.translation_typing.specs.AtomicBodies.{BodiesAreAtomic}
use Rattle.translation_typing.proofs.Bases.{bases, renamed, erase_translated}
use Rattle.std.proofs.lemmas.Option.{same_Some}

pub record TypedImage (to : Signature) (along : HeadMap) (c : Constant) (class : Class) : Type 0 where
  pub image : Image
  pub mapped : image_of along c ≡ Some image
  pub class_is : image.class ≡ translate_class along class
  pub fits : Fits to image.value image.class

pub record IsMap (from to : Signature) (along : HeadMap) : Type 0 where
  pub atomic : BodiesAreAtomic along
  pub images : (c : Constant) (class : Class) → class_of from c ≡ Some class → TypedImage to along c class
  pub classes : (c : Constant) (class : Class) → class_of from c ≡ Some class → IsClass to (translate_class along class)
  pub declared : (c : Constant) (image : Image) → image_of along c ≡ Some image → (class : Class) × (class_of from c ≡ Some class)

abbrev pub by_images : HeadMap → Constant → Headed
by_images along = λ (c : Constant). headed_image c (image_of along c)

module _ (from to : Signature) (along : HeadMap) (map : IsMap from to along) where
  -- ---- closed, with what a simple type says

  object_image_typed : (c : Constant) (class : Class) (value : Value) → HasType (object_image c class value)
  object_image_typed c class (SameAs d) = tt
  object_image_typed c (FamilyClass a) (TermValue m) = (erase a, refl)
  object_image_typed c (KindClass k) (TermValue m) = tt
  object_image_typed c (FamilyClass a) (FamilyValue n body) = tt
  object_image_typed c (KindClass k) (FamilyValue n body) = tt

  headed_image_typed : (c : Constant) (o : Option Image) → HasType (headed_image c o)
  headed_image_typed c None = tt
  headed_image_typed c (Some image) = object_image_typed c image.class image.value

  object_image_closed : (k p : ℕ) (c : Constant) (class : Class) (value : Value) → Fits to value class → raise_headed k p (object_image c class value) ≡ object_image c class value
  object_image_closed k p c class (SameAs d) h = refl
  object_image_closed k p c (FamilyClass a) (TermValue m) h = ap (λ z. Replaced z (action (erase a))) (raise_past (sorts_of to) k [] p m (erase a) (omega arith) (checks_sort to [] m a h))
  object_image_closed k p c (KindClass l) (TermValue m) h = refl
  object_image_closed k p c (FamilyClass a) (FamilyValue n body) h = refl
  object_image_closed k p c (KindClass l) (FamilyValue n body) h = refl

  image_fits : (c : Constant) (image : Image) → image_of along c ≡ Some image → Fits to image.value image.class
  image_fits c image e =
      let d = map.declared c image e in
      let t = map.images c d.0 d.1 in
      subst (λ (z : Image). Fits to z.value z.class) (same_Some _ _ (sym t.mapped ∙ e)) t.fits

  headed_image_closed : (k p : ℕ) (c : Constant) (o : Option Image) → image_of along c ≡ o → raise_headed k p (headed_image c o) ≡ headed_image c o
  headed_image_closed k p c None e = refl
  headed_image_closed k p c (Some image) e = object_image_closed k p c image.class image.value (image_fits c image e)

  -- ---- of the right sort

  object_image_sorted : (c : Constant) (a : Family) (value : Value) → Fits to value (FamilyClass a) → HeadedHasSort (sorts_of to) [] (object_image c (FamilyClass a) value) (erase a)
  object_image_sorted c a (SameAs d) h = ap sort_of_class h
  object_image_sorted c a (TermValue m) h = (refl, checks_sort to [] m a h)
  object_image_sorted c a (FamilyValue n body) h = absurd h

  image_sorted : (c : Constant) (t : Simple) (o : Option Class) → class_of from c ≡ o → sort_of_class o ≡ Some t → HeadedHasSort (sorts_of to) [] (headed_image c (image_of along c)) (renamed along t)
  image_sorted c t None e h = absurd (cc)
  image_sorted c t (Some (KindClass k)) e h = absurd (cc)
  image_sorted c t (Some (FamilyClass a)) e h =
      let i = map.images c (FamilyClass a) e in
      let fits : Fits to i.image.value (FamilyClass (translate_family along a)) = subst (Fits to i.image.value) i.class_is i.fits in
      let sorted : HeadedHasSort (sorts_of to) [] (object_image c (FamilyClass (translate_family along a)) i.image.value) (erase (translate_family along a)) = object_image_sorted c (translate_family along a) i.image.value fits in
      let at : HeadedHasSort (sorts_of to) [] (object_image c i.image.class i.image.value) (renamed along t) =
      subst (λ s. HeadedHasSort (sorts_of to) [] (object_image c i.image.class i.image.value) s) (erase_translated along map.atomic a ∙ ap (renamed along) (same_Some _ _ h))
      (subst (λ z. HeadedHasSort (sorts_of to) [] (object_image c z i.image.value) (erase (translate_family along a))) (sym i.class_is) sorted) in
      subst (λ z. HeadedHasSort (sorts_of to) [] (headed_image c z) (renamed along t)) (sym i.mapped) at

  pub sorted_map : IsSortedMap (by_images along) (bases along) (sorts_of from) (sorts_of to)
  sorted_map = record {
    typed = λ c. headed_image_typed c (image_of along c);
    closed = λ k p c. headed_image_closed k p c (image_of along c) refl;
    has_sort = λ c t h. image_sorted c t (class_of from c) refl h;
  }
