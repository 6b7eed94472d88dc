-- Values in the form in which they are kept.
use Rattle.std.proofs.Common.{◌≡◌, ℕ, zero, suc, refl, arith}
use Rattle.lf_meaning.specs.Terms.{Object, Lam, At, Var, Con, App, Family, Pi, AtFamily, FamilyCon, FamilyApp}
use Rattle.lf_meaning.specs.HeadMaps.{HeadMap}
use Rattle.lf_meaning.specs.Signatures.{Signature, Value, SameAs, TermValue, FamilyValue}
use Rattle.translation_meaning.specs.Translation.{object_value, family_value}
use Rattle.translation_meaning.specs.ProperValues.{IsProperValue, IsNoConstant, IsValueBody, ValuesAreProper}
use Rattle.translation_meaning.specs.AtomicFamilies.{IsAtomicFamily}
use Rattle.translation_typing.specs.AtomicBodies.{HasAtomicBody, BodiesAreAtomic}
use Rattle.translation_typing.specs.TypedTranslation.{BodiesAreAtomicOver}

pub proper_object : (o : Object) → IsNoConstant o → object_value o ≡ TermValue o
proper_object (Lam m) h = refl
proper_object (At (Var i)) h = refl
proper_object (At (Con c)) h = absurd h
proper_object (At (App r m)) h = refl

pub proper_body : (body : Family) → IsValueBody zero body → family_value zero body ≡ FamilyValue zero body
proper_body (Pi a b) h = absurd h
proper_body (AtFamily (FamilyCon c)) h = absurd (omega (arith, h))
proper_body (AtFamily (FamilyApp p m)) h = refl

pub proper_atomic : (value : Value) → IsProperValue value → HasAtomicBody value
proper_atomic (SameAs c) h = tt
proper_atomic (TermValue m) h = tt
proper_atomic (FamilyValue n (Pi a b)) h = absurd h
proper_atomic (FamilyValue n (AtFamily p)) h = tt

pub object_value_proper : (o : Object) → IsProperValue (object_value o)
object_value_proper (Lam m) = tt
object_value_proper (At (Var i)) = tt
object_value_proper (At (Con c)) = tt
object_value_proper (At (App r m)) = tt

pub family_value_proper : (n : ℕ) (family : Family) → IsAtomicFamily family → IsProperValue (family_value n family)
family_value_proper n (Pi a b) h = absurd h
family_value_proper zero (AtFamily (FamilyCon c)) h = tt
family_value_proper zero (AtFamily (FamilyApp p m)) h = tt
family_value_proper (suc n) (AtFamily (FamilyCon c)) h = omega arith
family_value_proper (suc n) (AtFamily (FamilyApp p m)) h = tt

pub proper_atomic_map : (along : HeadMap) → ValuesAreProper along → BodiesAreAtomic along
proper_atomic_map along h c image e = proper_atomic image.value (h c image e)

-- so it is of the images of the constants of a signature
pub proper_atomic_over : (from : Signature) (along : HeadMap) → ValuesAreProper along → BodiesAreAtomicOver from along
proper_atomic_over from along h c class image k e = proper_atomic image.value (h c image e)
