-- Laws of the form in which values are kept (this profile): a bare constant is the same as the constant, and no other value is.
use Rattle.std.specs.Prelude.{◌≡◌, ℕ, zero}
use Rattle.lf_meaning.specs.Terms.{Constant, Object, At, Con, Family, AtFamily, AtomicFamily, FamilyCon}
use Rattle.lf_meaning.specs.Signatures.{SameAs, TermValue, FamilyValue}
use Rattle.translation_meaning.specs.Translation.{object_value, family_value}
use Rattle.translation_meaning.specs.ProperValues.{IsNoConstant, IsValueBody, IsProperValue}

-- The value that an object comes out as.
pub record ObjectComesOut (object : Object) : Type 0 where
  pub proper : IsProperValue (object_value object)
  pub bare : (constant : Constant) → object ≡ At (Con constant) → object_value object ≡ SameAs constant
  pub other : IsNoConstant object → object_value object ≡ TermValue object

abbrev pub ObjectsComeOut : Type 0
ObjectsComeOut = (object : Object) → ObjectComesOut object

-- The value that an atomic family with so many binders comes out as.
pub record FamilyComesOut (binders : ℕ) (p : AtomicFamily) : Type 0 where
  pub proper : IsProperValue (family_value binders (AtFamily p))
  pub bare : (constant : Constant) → binders ≡ zero → p ≡ FamilyCon constant → family_value binders (AtFamily p) ≡ SameAs constant
  pub other : IsValueBody binders (AtFamily p) → family_value binders (AtFamily p) ≡ FamilyValue binders (AtFamily p)

abbrev pub FamiliesComeOut : Type 0
FamiliesComeOut = (binders : ℕ) (p : AtomicFamily) → FamilyComesOut binders p
