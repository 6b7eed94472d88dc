-- Worked examples: what the definitions give at terms that are written out.
use Rattle.std.specs.Prelude.{◌≡◌}
use Rattle.lf_meaning.specs.Terms.{Lam, At, Var, Con, App, Family, Pi, AtFamily, FamilyCon, FamilyApp, Ty, PiKind, Simple, Base, Arrow}
use Rattle.lf_meaning.specs.Signatures.{FamilyClass, KindClass, SameAs, TermValue, FamilyValue}
use Rattle.lf_term_laws.specs.Examples.{letter, letter_object, letter_family, vector_of}
use Rattle.eta_meaning.specs.LongTerms.{eta, eta_family, expanded}
use Rattle.eta_meaning.specs.LongValues.{long_value, Agree}

-- The base t, and `t -> t`.
abbrev pub base : Simple
base = Base (letter 116)

abbrev pub first_order : Simple
first_order = Arrow base base

-- At a base a variable is left.
abbrev pub AtomAtBase : Type 0
AtomAtBase = eta base (Var 3) ≡ At (Var 3)

-- At `t -> t` the variable 0 is `λ. 1 0`: it is raised over the new one.
abbrev pub VariableAtArrow : Type 0
VariableAtArrow = eta first_order (Var 0) ≡ Lam (At (App (Var 1) (At (Var 0))))

-- An application is raised in its arguments too: `g 0` at `t -> t` is `λ. g 1 0`.
abbrev pub ApplicationAtArrow : Type 0
ApplicationAtArrow =
    eta first_order (App (Con (letter 103)) (At (Var 0))) ≡ Lam (At (App (App (Con (letter 103)) (At (Var 1))) (At (Var 0))))

-- At `(t -> t) -> t` the new variable stands in its long form too: `λ. 1 (λ. 1 0)`.
abbrev pub VariableAtSecondOrder : Type 0
VariableAtSecondOrder = eta (Arrow first_order base) (Var 0) ≡ Lam (At (App (Var 1) (Lam (At (App (Var 1) (At (Var 0)))))))

-- At `((t -> t) -> t) -> t`, one order higher, it is `λ. 1 (λ. 1 (λ. 1 0))`.
abbrev pub VariableAtThirdOrder : Type 0
VariableAtThirdOrder =
    eta (Arrow (Arrow first_order base) base) (Var 0) ≡ Lam (At (App (Var 1) (Lam (At (App (Var 1) (Lam (At (App (Var 1) (At (Var 0))))))))))

-- Of two domains the outer one is taken first: at `t -> (t -> t) -> t` it is `λ. λ. 2 1 (λ. 1 0)`.
abbrev pub TwoDomains : Type 0
TwoDomains =
    eta (Arrow base (Arrow first_order base)) (Var 0) ≡ Lam (Lam (At (App (App (Var 2) (At (Var 1))) (Lam (At (App (Var 1) (At (Var 0))))))))

-- The family a, and `a -> a`.
abbrev pub atom : Family
atom = letter_family 97

abbrev pub function : Family
function = Pi atom atom

-- `f : {x : a} {y : a -> a} a` has the long form `λ. λ. f 1 (λ. 1 0)`.
abbrev pub LongFormAtFamily : Type 0
LongFormAtFamily =
    long_value (FamilyClass (Pi atom (Pi function atom))) (SameAs (letter 102)) ≡ TermValue (Lam (Lam (At (App (App (Con (letter 102)) (At (Var 1))) (Lam (At (App (Var 1) (At (Var 0)))))))))

-- `Q : {x : a} {y : a -> a} type` has the long form `Q 1 (λ. 1 0)` behind two binders.
abbrev pub LongFormAtKind : Type 0
LongFormAtKind =
    long_value (KindClass (PiKind atom (PiKind function Ty))) (SameAs (letter 81)) ≡ FamilyValue 2 (AtFamily (FamilyApp (FamilyApp (FamilyCon (letter 81)) (At (Var 1))) (Lam (At (App (Var 1) (At (Var 0)))))))

-- A family with an argument, `V 0`, is raised with it: at `{x : a} type` it is `V 1 0`.
abbrev pub FamilyWithArgument : Type 0
FamilyWithArgument =
    eta_family (PiKind atom Ty) (FamilyApp (FamilyCon (letter 86)) (At (Var 0))) ≡ FamilyApp (FamilyApp (FamilyCon (letter 86)) (At (Var 1))) (At (Var 0))

-- A constant is left at an atomic family and at `type`.
abbrev pub ConstantAtAtom : Type 0
ConstantAtAtom = long_value (FamilyClass (vector_of (letter_object 122))) (SameAs (letter 101)) ≡ SameAs (letter 101)

abbrev pub ConstantAtType : Type 0
ConstantAtType = long_value (KindClass Ty) (SameAs (letter 97)) ≡ SameAs (letter 97)

-- A value that is no constant is left, also one that would have a longer form.
abbrev pub TermStays : Type 0
TermStays = long_value (FamilyClass function) (TermValue (letter_object 102)) ≡ TermValue (letter_object 102)

abbrev pub FamilyStays : Type 0
FamilyStays = long_value (KindClass (PiKind atom Ty)) (FamilyValue 1 atom) ≡ FamilyValue 1 atom

-- The constant f and `λ. f 0` agree at `a -> a`; f and `λ. 0` do not.
abbrev pub ConstantAgreesWithItsLongForm : Type 0
ConstantAgreesWithItsLongForm = Agree (FamilyClass function) (SameAs (letter 102)) (TermValue (Lam (At (App (Con (letter 102)) (At (Var 0))))))

abbrev pub ConstantIsNoIdentity : Type 0
ConstantIsNoIdentity = Agree (FamilyClass function) (SameAs (letter 102)) (TermValue (Lam (At (Var 0)))) → ⊥

-- A family constant Q agrees with `Q 0` behind one binder at `{x : a} type`.
abbrev pub FamilyAgreesWithItsLongForm : Type 0
FamilyAgreesWithItsLongForm =
    Agree (KindClass (PiKind atom Ty)) (SameAs (letter 81)) (FamilyValue 1 (AtFamily (FamilyApp (FamilyCon (letter 81)) (At (Var 0)))))

-- What an outcome stands for: an atomic one at a Π for its long form; a λ at a Π, and an atomic one at an atomic family, for
-- itself.
abbrev pub AtomicOutcome : Type 0
AtomicOutcome = expanded function (letter_object 102) ≡ Lam (At (App (Con (letter 102)) (At (Var 0))))

abbrev pub LambdaOutcome : Type 0
LambdaOutcome = expanded function (Lam (At (Var 0))) ≡ Lam (At (Var 0))

abbrev pub AtomicOutcomeAtAtom : Type 0
AtomicOutcomeAtAtom = expanded atom (letter_object 122) ≡ letter_object 122
