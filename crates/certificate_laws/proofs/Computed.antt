-- The worked examples.
use Rattle.std.proofs.Common.{◌≡◌, ℕ, List, [], ◌∷◌, inl, inr, Option, Some, None, refl, ap}
use Rattle.lf_meaning.specs.Terms.{Object, At, Con, Family, AtFamily, FamilyCon, Ty, Simple, domain_count}
use Rattle.lf_meaning.specs.Signatures.{Class, KindClass, Value, TermValue, FamilyValue, Signature}
use Rattle.lf_term_laws.specs.Examples.{letter, letter_object, letter_family}
use Rattle.certificate_meaning.specs.Statements.{KindTerm, FamilyTerm, ContextTerm, Statement, KindIn, FamilyIn, SynthesisesKindIn, TypedHead, HeadStays, HeadGoes}
use Rattle.certificate_meaning.specs.Steps.{class_statement, raise_type, raise_kind_pi, apply_atomic, application_family, kind_type, family_atomic, constant_kind, IsNoConstant, IsNoConstantFamily, Declares, declares_undefined, declares_same, declares_term, declares_family}
use Rattle.certificate_meaning.specs.Certificates.{TermLine, StepLine, Holds, IsCertificate}
use Rattle.certificate_laws.proofs.SoundCertificates.{step_true}
use Rattle.certificate_laws.specs.Examples as example

pub object_is_raised : example.ObjectIsRaised
object_is_raised = refl

pub kind_is_not_raised : example.KindIsNotRaised
kind_is_not_raised h = cc

pub atomic_is_not_raised : example.AtomicIsNotRaised
atomic_is_not_raised h = cc

pub forms_are_raised_apart : example.FormsAreRaisedApart
forms_are_raised_apart h = absurd h

pub context_is_not_raised : example.ContextIsNotRaised
context_is_not_raised h = absurd h

pub object_is_substituted : example.ObjectIsSubstituted
object_is_substituted = refl

pub atomic_is_not_substituted : example.AtomicIsNotSubstituted
atomic_is_not_substituted h = absurd h

pub head_goes_at_codomain : example.HeadGoesAtCodomain
head_goes_at_codomain = refl

-- the simple type of what comes of an atomic object, where its head goes
abbrev type_of : TypedHead → Option Simple
type_of (HeadStays r) = None
type_of (HeadGoes v) = Some v.type

pub head_goes_at_no_other : example.HeadGoesAtNoOther
head_goes_at_no_other h =
    let same : Some example.base ≡ Some example.arrow = ap type_of h in
    cc

pub head_goes_with_type : example.HeadGoesWithType
head_goes_with_type h = cc

pub head_stays_without_type : example.HeadStaysWithoutType
head_stays_without_type h = cc

pub lambda_does_not_stay : example.LambdaDoesNotStay
lambda_does_not_stay h = absurd h

pub kind_row : example.KindRow
kind_row by from a b k l = raise_kind_pi

pub type_row : example.TypeRow
type_row by from = raise_type

pub atomic_value_row : example.AtomicValueRow
atomic_value_row s t r m = apply_atomic

pub application_row : example.ApplicationRow
application_row sig g r m a b c s = application_family a c s

-- the terms of the certificate stand once
context_is_new : Holds (TermLine (KindTerm Ty) ∷ []) (TermLine (ContextTerm [])) → ⊥
context_is_new (inl e) = cc
context_is_new (inr h) = absurd h

family_is_new : Holds example.first_lines (TermLine (FamilyTerm (letter_family 97))) → ⊥
family_is_new (inl e) = cc
family_is_new (inr (inl e)) = cc
family_is_new (inr (inr (inl e))) = cc
family_is_new (inr (inr (inr (inl e)))) = cc
family_is_new (inr (inr (inr (inr h)))) = absurd h

first_is_certificate : IsCertificate example.first_lines
first_is_certificate = ((((tt, λ h. absurd h), context_is_new), record { premises = []; are_above = tt; follows = kind_type }), record { is_new = refl; premises = KindIn [] Ty ∷ []; are_above = (inl refl, tt); declares = declares_undefined })

all_are_certificate : IsCertificate example.all_lines
all_are_certificate = ((((first_is_certificate, family_is_new), record { premises = []; are_above = tt; follows = constant_kind refl }), record { premises = SynthesisesKindIn [] (FamilyCon (letter 97)) Ty ∷ []; are_above = (inl refl, tt); follows = family_atomic }), record { is_new = refl; premises = FamilyIn [] (letter_family 97) ∷ []; are_above = (inl refl, tt); declares = declares_undefined })

pub two_declarations : example.TwoDeclarations
two_declarations = record { certificate = all_are_certificate; signature = refl }

-- what a declaration without a value is shown by
undefined_premises : (sig : Signature) {value : Option Value} {class : Class} {ps : List Statement} → Declares sig value class ps → value ≡ None → ps ≡ class_statement class ∷ []
undefined_premises sig declares_undefined e = refl
undefined_premises sig (declares_same found) e = absurd cc
undefined_premises sig (declares_term normal) e = absurd cc
undefined_premises sig (declares_family normal) e = absurd cc

pub other_premise : example.OtherPremise
other_premise sig h =
    let same : SynthesisesKindIn [] (FamilyCon (letter 97)) Ty ∷ [] ≡ FamilyIn [] (letter_family 97) ∷ [] = undefined_premises sig h refl in
    cc

pub step_without_premises : example.StepWithoutPremises
step_without_premises h =
    let found : None ≡ Some (KindClass Ty) = step_true (StepLine (FamilyIn [] (letter_family 97)) ∷ []) h [] [] (FamilyIn [] (letter_family 97)) refl in
    cc

pub term_twice : example.TermTwice
term_twice h = h.1 (inl refl)

pub step_twice : example.StepTwice
step_twice = ((tt, record { premises = []; are_above = tt; follows = kind_type }), record { premises = []; are_above = tt; follows = kind_type })

pub no_lines : example.NoLines
no_lines = record { certificate = tt; signature = refl }

-- a declared object, or a family without binders, is no constant
declared_object : (sig : Signature) {value : Option Value} {class : Class} {ps : List Statement} → Declares sig value class ps → (m : Object) → value ≡ Some (TermValue m) → IsNoConstant m
declared_object sig declares_undefined m e c f = cc
declared_object sig (declares_same found) m e c f = cc
declared_object sig (declares_term {m = o} normal) m e c f =
    let same : o ≡ At (Con c) = cc in
    normal c same
declared_object sig (declares_family normal) m e c f = cc

pub constant_is_no_object : example.ConstantIsNoObject
constant_is_no_object sig a premises h = declared_object sig h (letter_object 99) refl (letter 99) refl

declared_family : (sig : Signature) {value : Option Value} {class : Class} {ps : List Statement} → Declares sig value class ps → (n : ℕ) (a : Family) → value ≡ Some (FamilyValue n a) → IsNoConstantFamily n a
declared_family sig declares_undefined n a e c f g = cc
declared_family sig (declares_same found) n a e c f g = cc
declared_family sig (declares_term normal) n a e c f g = cc
declared_family sig (declares_family {k} {a = b} normal) n a e c f g =
    let none : domain_count k ≡ 0 = cc in
    let same : b ≡ AtFamily (FamilyCon c) = cc in
    normal c none same

pub constant_is_no_family : example.ConstantIsNoFamily
constant_is_no_family sig premises h = declared_family sig h 0 (letter_family 97) refl (letter 97) refl refl
