-- Judgements over signatures that have more.
use Rattle.std.proofs.Common.{◌≡◌, [], Option, Some, None, subst, append-nil}
use Rattle.lf_meaning.specs.Terms.{Constant, with_domains}
use Rattle.lf_meaning.specs.Signatures.{Class, FamilyClass, KindClass, Value, SameAs, TermValue, FamilyValue, Declaration, Signature, class_of}
use Rattle.lf_meaning.specs.Judgements.{IsFamily, IsClass, Fits, ValueFits, IsDeclaration}
use Rattle.lf_typing.proofs.Typed.{more_checks, more_family, more_kind}

module _ (before sig : Signature) (grown : (c : Constant) (class : Class) → class_of before c ≡ Some class → class_of sig c ≡ Some class) where
  pub class_more : (class : Class) → IsClass before class → IsClass sig class
  class_more (FamilyClass a) h = more_family before sig grown [] [] a h
  class_more (KindClass k) h = more_kind before sig grown [] [] k h

  pub fits_more : (class : Class) (value : Value) → Fits before value class → Fits sig value class
  fits_more class (SameAs c) h = grown c class h
  fits_more (FamilyClass a) (TermValue m) h = more_checks before sig grown [] [] m a h
  fits_more (KindClass k) (TermValue m) h = h
  fits_more (FamilyClass a) (FamilyValue n body) h = h
  fits_more (KindClass k) (FamilyValue n body) h = (h.0, subst (λ z. IsFamily sig z body) (append-nil (with_domains k [])) (more_family before sig grown (with_domains k []) [] body h.1))

  pub optional_fits_more : (class : Class) (value : Option Value) → ValueFits before value class → ValueFits sig value class
  optional_fits_more class None h = tt
  optional_fits_more class (Some v) h = fits_more class v h

  pub declaration_more : (d : Declaration) → IsDeclaration before d → IsDeclaration sig d
  declaration_more d h = record { class_is = class_more d.class h.class_is; value_fits = optional_fits_more d.class d.value h.value_fits }
