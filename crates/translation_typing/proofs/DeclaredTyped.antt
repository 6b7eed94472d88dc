-- The declarations of a well-typed signature are typed over the whole of it.
use Rattle.std.proofs.Common.{◌≡◌, ℕ, zero, suc, [], ◌∷◌, ◌++◌, take, drop, slice_get, Some, sym, ap, subst}
use Rattle.lf_meaning.specs.Terms.{Constant}
use Rattle.lf_meaning.specs.Signatures.{Class, Value, Declaration, Signature, class_of}
use Rattle.lf_meaning.specs.Judgements.{IsClass, Fits, ValueFits, IsDeclaration, IsSignature}
use Rattle.lf_typing.proofs.Declared.{class_more as class_later}
use Rattle.translation_typing.proofs.Grown.{class_more, fits_more}
use Rattle.std.proofs.lemmas.Option.{same_Some}

pub split_at : (sig : Signature) (place : ℕ) (d : Declaration) → slice_get sig place ≡ Some d → sig ≡ take place sig ++ (d ∷ drop (suc place) sig)
split_at [] place d e = absurd (cc)
split_at (x ∷ sig) zero d e = ap (λ z. z ∷ sig) (same_Some _ _ e)
split_at (x ∷ sig) (suc place) d e = ap (λ z. x ∷ z) (split_at sig place d e)

pub record DeclaredTyped (sig : Signature) (d : Declaration) : Type 0 where
  pub class : IsClass sig d.class
  pub value : (v : Value) → d.value ≡ Some v → Fits sig v d.class

pub declared_typed : (sig : Signature) → IsSignature sig → (place : ℕ) (d : Declaration) → slice_get sig place ≡ Some d → DeclaredTyped sig d
declared_typed sig typed place d e =
    let before : Signature = take place sig in
    let parts = split_at sig place d e in
    let is : IsDeclaration (take place sig) d = typed (take place sig) d (drop (suc place) sig) parts in
    let more : (c : Constant) (k : Class) → class_of (take place sig) c ≡ Some k → class_of sig c ≡ Some k =
    (λ c k h. subst (λ z. class_of z c ≡ Some k) (sym parts) (class_later (take place sig) (d ∷ drop (suc place) sig) c k h)) in
    record {
      class = class_more (take place sig) sig more d.class is.class_is;
      value = λ v q. fits_more (take place sig) sig more d.class v (subst (λ z. ValueFits (take place sig) z d.class) q is.value_fits);
    }
