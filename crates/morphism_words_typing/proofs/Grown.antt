-- Judgements, and typed maps, over signatures that have more.
use Rattle.lf_meaning.specs.Signatures.{Signature}
use Rattle.lf_meaning.specs.HeadMaps.{HeadMap}
use Rattle.translation_meaning.specs.TypedMaps.{IsTypedMap}
use Rattle.link_laws.specs.Below.HoldingLaws.{Grows}
pub use Rattle.translation_typing.proofs.Grown.{class_more, fits_more, optional_fits_more, declaration_more}

pub typed_map_more : (from to more : Signature) (along : HeadMap) → Grows to more → IsTypedMap from to along → IsTypedMap from more along
typed_map_more from to more along g h place d e =
    let t = h place d e in
    record { image = t.image; mapped = t.mapped; class = t.class; fits = fits_more to more g t.image.class t.image.value t.fits; value = t.value }
