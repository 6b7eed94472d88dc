-- What a typed map gives.
use Rattle.std.proofs.Common.{◌≡◌, Option, Some, sym, ap, ◌∙◌, subst}
use Rattle.std.proofs.lemmas.Option.{same_Some}
use Rattle.lf_meaning.specs.Signatures.{Value}
use Rattle.lf_meaning.specs.HeadMaps.{Image}
use Rattle.translation_meaning.specs.TypedMaps.{KeepsValue}
use Rattle.translation_laws.specs.TranslationLaws.{DefinedConstantsKeepValues, ConstantsHaveImages}

pub defined_constants_keep_values : DefinedConstantsKeepValues
defined_constants_keep_values from to along place declaration value image typed found valued mapped =
    let t = typed place declaration found in
    let same : t.image ≡ image = same_Some _ _ (sym t.mapped ∙ mapped) in
    let kept : KeepsValue along (Some value) t.image = subst (λ (o : Option Value). KeepsValue along o t.image) valued t.value in
    sym (ap (λ (i : Image). i.value) same) ∙ kept

pub constants_have_images : ConstantsHaveImages
constants_have_images from to along place declaration typed found =
    let t = typed place declaration found in
    (t.image, t.mapped, t.class, t.fits)
