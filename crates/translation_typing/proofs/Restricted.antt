-- A map restricted to the constants of a signature.
use Rattle.std.proofs.Common.{◌≡◌, [], ◌∷◌, Bool, true, false, cond, Option, Some, None, refl, sym, ap, ◌∙◌}
use Rattle.std.specs.Prelude.{is_some}
use Rattle.lf_meaning.specs.Terms.{Constant}
use Rattle.lf_meaning.specs.Signatures.{Class, Signature, same_constant, class_of}
use Rattle.lf_term_laws.proofs.Equality.{same_constant_sound}
use Rattle.lf_meaning.specs.HeadMaps.{Image, Mapping, HeadMap, image_of}

abbrev pub is_declared : Signature → Constant → Bool
is_declared sig c = is_some (class_of sig c)

pub restrict : Signature → HeadMap → HeadMap
restrict sig [] = []
restrict sig (m ∷ ms) = cond (is_declared sig m.name) (m ∷ restrict sig ms) (restrict sig ms)

module _ (sig : Signature) (c : Constant) where
  -- by whether the first mapping's name is in the signature, and whether it is the constant's
  step : (m : Mapping) (ms : HeadMap) (d s : Bool) → is_declared sig m.name ≡ d → same_constant m.name c ≡ s
      → image_of (restrict sig ms) c ≡ cond (is_declared sig c) (image_of ms c) None
      → image_of (cond d (m ∷ restrict sig ms) (restrict sig ms)) c ≡ cond (is_declared sig c) (cond s (Some m.image) (image_of ms c)) None
  unfolding image_of
  step m ms true true e f h =
      let same : is_declared sig c ≡ true = ap (is_declared sig) (sym (same_constant_sound m.name c f)) ∙ e in
      ap (λ b. cond b (Some m.image) (image_of (restrict sig ms) c)) f ∙ sym (ap (λ b. cond b (Some m.image) None) same)
  step m ms true false e f h = ap (λ b. cond b (Some m.image) (image_of (restrict sig ms) c)) f ∙ h
  step m ms false true e f h =
      let other : is_declared sig c ≡ false = ap (is_declared sig) (sym (same_constant_sound m.name c f)) ∙ e in
      h ∙ ap (λ b. cond b (image_of ms c) None) other ∙ sym (ap (λ b. cond b (Some m.image) None) other)
  step m ms false false e f h = h

  pub restricted : (along : HeadMap) → image_of (restrict sig along) c ≡ cond (is_declared sig c) (image_of along c) None
  unfolding image_of restrict
  restricted [] = by (is_declared sig c)
    where
      nothing : Option Image
      nothing = None

      by : (b : Bool) → nothing ≡ cond b nothing None
      by true = refl
      by false = refl
  restricted (m ∷ ms) = step m ms (is_declared sig m.name) (same_constant m.name c) refl refl (restricted ms)

  pub restricted_there : (along : HeadMap) (class : Class) → class_of sig c ≡ Some class → image_of (restrict sig along) c ≡ image_of along c
  restricted_there along class e = restricted along ∙ ap (λ o. cond (is_some o) (image_of along c) None) e

  pub restricted_declared : (along : HeadMap) (image : Image) → image_of (restrict sig along) c ≡ Some image → (class : Class) × (class_of sig c ≡ Some class)
  restricted_declared along image e = by (class_of sig c) refl (sym (restricted along) ∙ e)
    where
      by : (o : Option Class) → class_of sig c ≡ o → cond (is_some o) (image_of along c) None ≡ Some image → (class : Class) × (class_of sig c ≡ Some class)
      by None f h = absurd (cc)
      by (Some class) f h = (class, f)
