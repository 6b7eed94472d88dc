-- The first of two constants, and faults that name it.
use Rattle.std.proofs.Common.{◌≡◌, Option, Some, None, refl, sym, ap, ◌∙◌, subst}
use Rattle.lf_meaning.specs.Terms.{Constant}
use Rattle.translation_meaning.specs.Unmapped.{first_of}
use Rattle.lf_translate.specs.Answers.{Names}
use Rattle.lf_translate.specs.declared.fault.TranslateFault.{TranslateFault}
use Rattle.lf_translate.specs.declared.fault.TranslateFault.TheVariants.{Unmapped, Memory}

pub first_none : (o : Option Constant) → first_of o None ≡ o
first_none None = refl
first_none (Some c) = refl

pub first_grouped : (x y z : Option Constant) → first_of (first_of x y) z ≡ first_of x (first_of y z)
first_grouped None y z = refl
first_grouped (Some c) y z = refl

-- A part that has the fault, of a whole in which it comes first.
pub names_same : (fault : TranslateFault) (part whole : Option Constant) → part ≡ whole → Names fault part → Names fault whole
names_same fault part whole e h = subst (Names fault) e h

pub names_first : (fault : TranslateFault) (first second whole : Option Constant) → first_of first second ≡ whole → Names fault first → Names fault whole
names_first (Unmapped name) first second whole e h = sym e ∙ ap (λ o. first_of o second) h
names_first Memory first second whole e h = tt

pub names_second : (fault : TranslateFault) (first second whole : Option Constant) → first_of first second ≡ whole → first ≡ None → Names fault second → Names fault whole
names_second fault first second whole e none h = subst (Names fault) (sym (ap (λ o. first_of o second) none) ∙ e) h

pub none_at_all : (first second whole : Option Constant) → first_of first second ≡ whole → first ≡ None → second ≡ None → whole ≡ None
none_at_all first second whole e none other = sym e ∙ ap (λ o. first_of o second) none ∙ other

pub rest_after : (first rest whole : Option Constant) → first_of first rest ≡ whole → first ≡ None → rest ≡ whole
rest_after first rest whole e none = sym (ap (λ o. first_of o rest) none) ∙ e
