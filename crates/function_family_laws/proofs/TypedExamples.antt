-- The worked examples of typed maps.
use Rattle.std.proofs.Common.{◌≡◌, refl, ap, ◌∙◌}
use Rattle.lf_meaning.specs.Terms.{Lam, Ty}
use Rattle.lf_meaning.specs.Signatures.{FamilyClass, KindClass, SameAs, TermValue, FamilyValue}
use Rattle.lf_meaning.specs.HeadMaps.{Image, image_of}
use Rattle.lf_term_laws.specs.Examples.{letter}
use Rattle.eta_meaning.specs.LongValues.{long_value}
use Rattle.function_family_laws.specs.Examples.{TypedAtFamily, TypedAtConstant, ValuesAgree, ValuesDiffer, function, apply, variable}
use Rattle.std.proofs.lemmas.Option.{same_Some}

pub typed_at_family : TypedAtFamily
unfolding image_of
typed_at_family = record { image = record { class = KindClass Ty; value = FamilyValue 0 function }; mapped = refl; class = refl; fits = (refl, (refl, refl)); agrees = tt }

pub typed_at_constant : TypedAtConstant
unfolding image_of
typed_at_constant = record { image = record { class = FamilyClass function; value = SameAs (letter 103) }; mapped = refl; class = refl; fits = refl; agrees = tt }

pub values_agree : ValuesAgree
unfolding image_of
values_agree = record { image = record { class = FamilyClass function; value = SameAs (letter 103) }; mapped = refl; class = refl; fits = refl; agrees = refl }

other_value : TermValue (Lam (apply 103 variable)) ≡ TermValue (Lam (apply 103 (apply 103 variable))) → ⊥
other_value e = absurd (cc)

pub values_differ : ValuesDiffer
unfolding image_of
values_differ typed =
    let same : record { class = FamilyClass function; value = SameAs (letter 103) } ≡ typed.image = same_Some _ _ typed.mapped in
    other_value (ap (λ (i : Image). long_value (FamilyClass function) i.value) same ∙ typed.agrees)
