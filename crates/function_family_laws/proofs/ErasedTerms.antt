-- Erasure commutes with the translation of simple types, along any map.
use Rattle.std.proofs.Common.{◌≡◌, [], ◌∷◌, map, Option, Some, None, refl, ap, ap₂, ◌∙◌}
use Rattle.lf_meaning.specs.Terms.{Constant, Family, Kind, Ty, PiKind, Context, SimpleContext, with_domains}
use Rattle.lf_meaning.specs.Erasure.{erase, erase_context}
use Rattle.lf_meaning.specs.Signatures.{Value, SameAs, TermValue, FamilyValue}
use Rattle.lf_meaning.specs.HeadMaps.{Image, HeadMap, image_of}
use Rattle.translation_meaning.specs.FunctionFamilies.{type_of_value, image_type, partial_value, partial_image, bases_along, objects_along, families_along, translate_simple, translate_family, translate_kind, translate_context, erased_domains}
use Rattle.function_family_laws.proofs.CarriedFamilies.{erase_carried}

pub erases_to_image_type : (c : Constant) (o : Option Image) → erase (partial_image c o).family ≡ image_type c o
erases_to_image_type c None = refl
erases_to_image_type c (Some image) = by image.value
  where
    by : (v : Value) → erase (partial_value c image.class v).family ≡ type_of_value c v
    by (SameAs d) = refl
    by (TermValue m) = refl
    by (FamilyValue n body) = refl

pub erase_family : (along : HeadMap) (types : SimpleContext) (a : Family) → erase (translate_family along types a) ≡ translate_simple along (erase a)
erase_family along types a = erase_carried (objects_along along) (families_along along) (bases_along along) (λ c. erases_to_image_type c (image_of along c)) types a

pub erase_domains : (along : HeadMap) (types before : SimpleContext) (k : Kind) → erased_domains (translate_kind along types k) (map (translate_simple along) before) ≡ map (translate_simple along) (erased_domains k before)
erase_domains along types before Ty = refl
erase_domains along types before (PiKind a k) =
    ap (λ s. erased_domains (translate_kind along (erase (translate_family along types a) ∷ types) k) (s ∷ map (translate_simple along) before)) (erase_family along types a)
    ∙ erase_domains along (erase (translate_family along types a) ∷ types) (erase a ∷ before) k

-- the domains of a kind are erased as those of a context
pub erased_domains_are : (k : Kind) (context : Context) → erase_context (with_domains k context) ≡ erased_domains k (erase_context context)
erased_domains_are Ty context = refl
erased_domains_are (PiKind a k) context = erased_domains_are k (a ∷ context)

pub erase_translated_context : (along : HeadMap) (context : Context) → erase_context (translate_context along context) ≡ map (translate_simple along) (erase_context context)
erase_translated_context along [] = refl
erase_translated_context along (a ∷ context) = ap₂ (λ s ss. s ∷ ss) (erase_family along (erase_context (translate_context along context)) a) (erase_translated_context along context)
