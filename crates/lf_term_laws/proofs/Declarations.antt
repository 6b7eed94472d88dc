-- Look-up in signatures and maps that grow at their end, and what a found declaration is.
use Rattle.std.proofs.Common.{◌≡◌, Bool, true, false, cond, [], ◌∷◌, ◌++◌, Option, Some, None, refl}
use Rattle.lf_meaning.specs.Terms.{Constant}
use Rattle.lf_meaning.specs.Signatures.{Class, Value, Declaration, Signature, same_constant, declaration_of, undefined_class, declared_class, class_of}
use Rattle.lf_meaning.specs.HeadMaps.{Image, HeadMap, image_of}

-- the two maps give each constant of the signature the same image
abbrev pub AgreeOn : Signature → HeadMap → HeadMap → Type 0
AgreeOn signature first second = (c : Constant) (class : Class) → class_of signature c ≡ Some class → image_of first c ≡ image_of second c

keep_found : {A : Type 0} (b : Bool) (first found : A) (o q : Option A) → (o ≡ Some found → q ≡ Some found) → cond b (Some first) o ≡ Some found → cond b (Some first) q ≡ Some found
keep_found true first found o q f h = h
keep_found false first found o q f h = f h

-- a declaration is found too where more are behind
pub declaration_front : (sig more : Signature) (c : Constant) (d : Declaration) → declaration_of sig c ≡ Some d → declaration_of (sig ++ more) c ≡ Some d
declaration_front [] more c d h = absurd (cc)
declaration_front (e ∷ sig) more c d h = keep_found (same_constant e.name c) e d (declaration_of sig c) (declaration_of (sig ++ more) c) (declaration_front sig more c d) h

-- an image too
pub image_front : (along more : HeadMap) (c : Constant) (image : Image) → image_of along c ≡ Some image → image_of (along ++ more) c ≡ Some image
unfolding image_of
image_front [] more c image h = absurd (cc)
image_front (m ∷ along) more c image h = keep_found (same_constant m.name c) m.image image (image_of along c) (image_of (along ++ more) c) (image_front along more c image) h

pub declared_some : (o : Option Declaration) (class : Class) → declared_class o ≡ Some class → (d : Declaration) × (o ≡ Some d)
declared_some None class h = absurd (cc)
declared_some (Some d) class h = (d, refl)

pub undefined_is : (value : Option Value) (class found : Class) → undefined_class value class ≡ Some found → class ≡ found
undefined_is None class found h = cc
undefined_is (Some v) class found h = absurd (cc)
