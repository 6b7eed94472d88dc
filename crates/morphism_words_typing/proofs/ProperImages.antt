-- The values of the images of a coherent map are proper.
use Rattle.std.proofs.Common.{◌≡◌, ℕ, zero, suc, Bool, true, false, cond, [], ◌∷◌, slice_get, Option, Some, refl, subst}
use Rattle.lf_meaning.specs.Terms.{Constant}
use Rattle.lf_meaning.specs.Signatures.{Class, FamilyClass, KindClass, Value, SameAs, TermValue, FamilyValue, Signature, same_constant}
use Rattle.lf_meaning.specs.HeadMaps.{Image, Mapping, HeadMap, image_of}
use Rattle.translation_meaning.specs.ProperValues.{IsProperValue, ValuesAreProper}
use Rattle.translation_typing.specs.AtomicBodies.{BodiesAreAtomic}
use Rattle.translation_typing.proofs.Proper.{proper_atomic_map}
use Rattle.library_meaning.specs.Holding.{ValueHolds}
use Rattle.library_meaning.specs.Coherence.{IsCoherentMap}
use Rattle.morphism_words_typing.specs.TypedLinks.{CoherentMapsAreProper}
use Rattle.std.proofs.lemmas.Option.{same_Some}

-- where the image of a constant stands
record Placed (along : HeadMap) (image : Image) : Type 0 where
  place : ℕ
  mapping : Mapping
  mapped : slice_get along place ≡ Some mapping
  is : mapping.image ≡ image

placed_by : (b : Bool) (m : Mapping) (ms : HeadMap) (o : Option Image) (image : Image) → cond b (Some m.image) o ≡ Some image → (o ≡ Some image → Placed ms image) → Placed (m ∷ ms) image
placed_by true m ms o image h f = record { place = zero; mapping = m; mapped = refl; is = same_Some _ _ h }
placed_by false m ms o image h f = let p = f h in record { place = suc p.place; mapping = p.mapping; mapped = p.mapped; is = p.is }

placed : (along : HeadMap) (c : Constant) (image : Image) → image_of along c ≡ Some image → Placed along image
unfolding image_of
placed [] c image h = absurd (cc)
placed (m ∷ ms) c image h = placed_by (same_constant m.name c) m ms (image_of ms c) image h (placed ms c image)

pub value_proper : (signature : Signature) (class : Class) (value : Value) → ValueHolds signature class value → IsProperValue value
value_proper signature class (SameAs c) h = tt
value_proper signature (FamilyClass a) (TermValue m) h = h.1
value_proper signature (KindClass k) (TermValue m) h = absurd h
value_proper signature (FamilyClass a) (FamilyValue n body) h = absurd h
value_proper signature (KindClass k) (FamilyValue n body) h = h.2

pub images_proper : (from to : Signature) (along : HeadMap) → IsCoherentMap from to along → ValuesAreProper along
images_proper from to along k c image h =
    let p = placed along c image h in
    let q = k.holds p.place p.mapping p.mapped in
    subst (λ (z : Image). IsProperValue z.value) p.is (value_proper to p.mapping.image.class p.mapping.image.value q.1)

pub images_atomic : (from to : Signature) (along : HeadMap) → IsCoherentMap from to along → BodiesAreAtomic along
images_atomic from to along k = proper_atomic_map along (images_proper from to along k)

pub coherent_maps_are_proper : CoherentMapsAreProper
coherent_maps_are_proper from to along k = let p = images_proper from to along k in (p, proper_atomic_map along p)
