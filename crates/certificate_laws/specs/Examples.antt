-- Worked examples: statements that are true and that are not, rows, and certificates that are written out.
use Rattle.std.specs.Prelude.{ℕ, suc, List, [], ◌∷◌, Some, None}
use Rattle.lf_meaning.specs.Terms.{Object, Lam, At, Atomic, Var, Con, App, Family, Pi, FamilyCon, Kind, Ty, PiKind, Simple, Base, Arrow, Context}
use Rattle.lf_meaning.specs.Signatures.{FamilyClass, KindClass, TermValue, FamilyValue, Signature}
use Rattle.lf_term_laws.specs.Examples.{letter, letter_object, letter_family, undefined}
use Rattle.certificate_meaning.specs.Statements.{KindTerm, FamilyTerm, ObjectTerm, AtomicTerm, ContextTerm, Statement, Raises, Erases, Substitutes, SubstitutesAtHead, Applies, KindIn, FamilyIn, SynthesisesKindIn, ChecksIn, SynthesisesIn, IsTrueOver}
use Rattle.certificate_meaning.specs.Steps.{Follows, Declares}
use Rattle.certificate_meaning.specs.Certificates.{Line, TermLine, StepLine, DeclarationLine, IsCertificate, IsCertificateOf}

-- The base b, and `b -> b`.
abbrev pub base : Simple
base = Base (letter 98)

abbrev pub arrow : Simple
arrow = Arrow base base

-- Raised by 2 from 0, `λ. 0 1` is `λ. 0 3`: below the λ raising is from 1.
abbrev pub ObjectIsRaised : Type 0
ObjectIsRaised = IsTrueOver [] (Raises 2 0 (ObjectTerm (Lam (At (App (Var 0) (At (Var 1)))))) (ObjectTerm (Lam (At (App (Var 0) (At (Var 3)))))))

-- `type` is raised to itself alone.
abbrev pub KindIsNotRaised : Type 0
KindIsNotRaised = IsTrueOver [] (Raises 1 0 (KindTerm Ty) (KindTerm (PiKind (letter_family 98) Ty))) → ⊥

-- A variable that is not below is not left.
abbrev pub AtomicIsNotRaised : Type 0
AtomicIsNotRaised = IsTrueOver [] (Raises 1 0 (AtomicTerm (Var 0)) (AtomicTerm (Var 0))) → ⊥

-- An object is not raised to an atomic object, nor anything to a context.
abbrev pub FormsAreRaisedApart : Type 0
FormsAreRaisedApart = IsTrueOver [] (Raises 0 0 (ObjectTerm (At (Var 0))) (AtomicTerm (Var 0))) → ⊥

abbrev pub ContextIsNotRaised : Type 0
ContextIsNotRaised = IsTrueOver [] (Raises 0 0 (ContextTerm []) (ContextTerm [])) → ⊥

-- `[λ. 0 / b -> b at 0] (0 c)` is `c`.
abbrev pub ObjectIsSubstituted : Type 0
ObjectIsSubstituted = IsTrueOver [] (Substitutes (Lam (At (Var 0))) arrow 0 (ObjectTerm (At (App (Var 0) (letter_object 99)))) (ObjectTerm (letter_object 99)))

-- Of atomic objects substitution is stated at their heads alone.
abbrev pub AtomicIsNotSubstituted : Type 0
AtomicIsNotSubstituted = IsTrueOver [] (Substitutes (letter_object 99) base 0 (AtomicTerm (Con (letter 99))) (AtomicTerm (Con (letter 99)))) → ⊥

-- At the head: `0 c` goes to `c` at b, and not at `b -> b`, nor without a simple type.
abbrev pub HeadGoesAtCodomain : Type 0
HeadGoesAtCodomain = IsTrueOver [] (SubstitutesAtHead (Lam (At (Var 0))) arrow 0 (App (Var 0) (letter_object 99)) (letter_object 99) (Some base))

abbrev pub HeadGoesAtNoOther : Type 0
HeadGoesAtNoOther = IsTrueOver [] (SubstitutesAtHead (Lam (At (Var 0))) arrow 0 (App (Var 0) (letter_object 99)) (letter_object 99) (Some arrow)) → ⊥

abbrev pub HeadGoesWithType : Type 0
HeadGoesWithType = IsTrueOver [] (SubstitutesAtHead (Lam (At (Var 0))) arrow 0 (App (Var 0) (letter_object 99)) (letter_object 99) None) → ⊥

-- A constant stays, without a simple type.
abbrev pub HeadStaysWithoutType : Type 0
HeadStaysWithoutType = IsTrueOver [] (SubstitutesAtHead (letter_object 99) base 0 (Con (letter 100)) (letter_object 100) (Some base)) → ⊥

-- A λ is no atomic object whose head stays.
abbrev pub LambdaDoesNotStay : Type 0
LambdaDoesNotStay = IsTrueOver [] (SubstitutesAtHead (letter_object 99) base 0 (Con (letter 100)) (Lam (letter_object 100)) None) → ⊥

-- Kinds are raised by their domains, the second one below one binder more.
abbrev pub KindRow : Type 0
KindRow = (by from : ℕ) (a b : Family) (k l : Kind) → Follows [] (Raises by from (KindTerm (PiKind a k)) (KindTerm (PiKind b l))) (Raises by from (FamilyTerm a) (FamilyTerm b) ∷ Raises by (suc from) (KindTerm k) (KindTerm l) ∷ [])

abbrev pub TypeRow : Type 0
TypeRow = (by from : ℕ) → Follows [] (Raises by from (KindTerm Ty) (KindTerm Ty)) []

-- An atomic value at an arrow takes the argument.
abbrev pub AtomicValueRow : Type 0
AtomicValueRow = (s t : Simple) (r : Atomic) (m : Object) → Follows [] (Applies (Arrow s t) (At r) m (At (App r m)) t) []

-- The premises of an application, in order.
abbrev pub ApplicationRow : Type 0
ApplicationRow = (sig : Signature) (g : Context) (r : Atomic) (m : Object) (a b c : Family) (s : Simple) → Follows sig (SynthesisesIn g (App r m) b) (SynthesisesIn g r (Pi a c) ∷ ChecksIn g m a ∷ Erases a s ∷ Substitutes m s 0 (FamilyTerm c) (FamilyTerm b) ∷ [])

-- `a : type.` and `c : a.`
abbrev pub two_declarations : Signature
two_declarations = undefined 97 (KindClass Ty) ∷ undefined 99 (FamilyClass (letter_family 97)) ∷ []

-- A certificate of them, the newest line first.
abbrev pub first_lines : List Line
first_lines = DeclarationLine (undefined 97 (KindClass Ty)) ∷ StepLine (KindIn [] Ty) ∷ TermLine (ContextTerm []) ∷ TermLine (KindTerm Ty) ∷ []

abbrev pub all_lines : List Line
all_lines = DeclarationLine (undefined 99 (FamilyClass (letter_family 97))) ∷ StepLine (FamilyIn [] (letter_family 97)) ∷ StepLine (SynthesisesKindIn [] (FamilyCon (letter 97)) Ty) ∷ TermLine (FamilyTerm (letter_family 97)) ∷ first_lines

abbrev pub TwoDeclarations : Type 0
TwoDeclarations = IsCertificateOf two_declarations all_lines

-- That the constant synthesises `type` is not the premise of its declaration.
abbrev pub OtherPremise : Type 0
OtherPremise = (sig : Signature) → Declares sig None (FamilyClass (letter_family 97)) (SynthesisesKindIn [] (FamilyCon (letter 97)) Ty ∷ []) → ⊥

-- A step without its premises is no certificate.
abbrev pub StepWithoutPremises : Type 0
StepWithoutPremises = IsCertificate (StepLine (FamilyIn [] (letter_family 97)) ∷ []) → ⊥

-- A term stands once; a step may stand twice.
abbrev pub TermTwice : Type 0
TermTwice = IsCertificate (TermLine (KindTerm Ty) ∷ TermLine (KindTerm Ty) ∷ []) → ⊥

abbrev pub StepTwice : Type 0
StepTwice = IsCertificate (StepLine (KindIn [] Ty) ∷ StepLine (KindIn [] Ty) ∷ [])

-- No lines are a certificate of the empty signature.
abbrev pub NoLines : Type 0
NoLines = IsCertificateOf [] []

-- One constant as an object, and as a family without binders, is declared by no premises.
abbrev pub ConstantIsNoObject : Type 0
ConstantIsNoObject = (sig : Signature) (a : Family) (premises : List Statement) → Declares sig (Some (TermValue (letter_object 99))) (FamilyClass a) premises → ⊥

abbrev pub ConstantIsNoFamily : Type 0
ConstantIsNoFamily = (sig : Signature) (premises : List Statement) → Declares sig (Some (FamilyValue 0 (letter_family 97))) (KindClass Ty) premises → ⊥
