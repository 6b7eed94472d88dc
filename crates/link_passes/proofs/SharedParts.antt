-- What shared structures share, tested constant by constant.
use Rattle.std.proofs.Common.{◌≡◌, ℕ, suc, ◌&&◌, drop, slice_get, Some, sym, ap}
use Rattle.list_laws.proofs.Places.{drop_here}
use Rattle.lf_meaning.specs.Terms.{Constant}
use Rattle.lf_meaning.specs.Signatures.{SameAs, Declaration, Signature}
use Rattle.lf_meaning.specs.HeadMaps.{Image, HeadMap, image_of}
use Rattle.translation_meaning.specs.Translation.{same_image, translate_value}
use Rattle.library_meaning.specs.Words.{Link}
use Rattle.link_meaning.specs.Passes.{shares}
use Rattle.link_passes.specs.Steps.{share}

-- The constants from a place on: the one there, and those behind it.
pub share_constant : (along : HeadMap) (structure by : Link) (own : Signature) (i : ℕ) (d : Declaration) → slice_get own i ≡ Some d
    → share along structure by (drop i own) ≡ (shares along structure by d && share along structure by (drop (suc i) own))
share_constant along structure by own i d p = ap (share along structure by) (drop_here own i d p)

-- A constant is translated to the value of its image.
pub constant_translated : (along : HeadMap) (constant : Constant) (image : Image) → Some image ≡ image_of along constant → translate_value along (SameAs constant) ≡ image.value
unfolding translate_value
constant_translated along constant image found = ap (same_image constant) (sym found)
