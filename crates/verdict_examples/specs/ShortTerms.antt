-- Worked cases: what a name or an application is expanded to where it stands at a product, or at a kind with domains, and where it
-- stands for nothing.
use Rattle.std.specs.Prelude.{◌≡◌, List, [], ◌∷◌, Option, Some, None, map, codes}
use Rattle.name_meaning.specs.Names.{Name, Text}
use Rattle.lf_meaning.specs.Terms.{Constant, Object, Lam, At, Var, Con, App, AtFamily, FamilyCon, FamilyApp}
use Rattle.lf_meaning.specs.Signatures.{Value, SameAs, TermValue, FamilyValue, Declaration}
use Rattle.verdict_meaning.specs.Rounds.{verdict_of}
use Rattle.elaborate_meaning.specs.Rules.{Rule}
use Rattle.verdict_examples.specs.Telling.{RefusedAt, under, library_with, told_of, own_of_verdict}
use Rattle.verdict_examples.specs.OrderTexts.{text_A}

-- The values of the own constants of Z, with this text, which includes A.
abbrev pub values_of : Text → List (Option Value)
values_of text = map (λ (own : Declaration). own.value) (own_of_verdict (verdict_of (library_with (under (codes "A") text_A ∷ under (codes "Z") text ∷ [])) (codes "Z")))

-- A constant of A, and one of Z.
abbrev pub of_A : Name → Constant
of_A name = record { theory = codes "A"; path = name ∷ [] }

abbrev pub of_Z : Name → Constant
of_Z name = record { theory = codes "Z"; path = name ∷ [] }

-- The constant c as an object; a constant with one argument; the variable 1 with one argument.
abbrev pub c_object : Object
c_object = At (Con (of_A (codes "c")))

abbrev pub with_argument : Constant → Object → Object
with_argument constant argument = At (App (Con constant) argument)

abbrev pub outer_with_argument : Object → Object
outer_with_argument argument = At (App (Var 1) argument)

-- An argument that is a constant, `f`; one that is an application, `k c`; and one that is a variable, raised over its own λ.
abbrev pub ShortArguments : Type 0
ShortArguments =
    values_of (codes "%sig Z = { %include A. k : a -> a -> a. d : a = g f. e : a = g (k c). m : (a -> a) -> a = [x] g x. }.")
    ≡ None
    ∷ Some (TermValue (with_argument (of_A (codes "g")) (Lam (with_argument (of_A (codes "f")) (At (Var 0))))))
    ∷ Some (TermValue (with_argument (of_A (codes "g")) (Lam (At (App (App (Con (of_Z (codes "k"))) c_object) (At (Var 0)))))))
    ∷ Some (TermValue (Lam (with_argument (of_A (codes "g")) (Lam (outer_with_argument (At (Var 0)))))))
    ∷ []

-- The domain of h is of the third order: k stands for `λ. k (λ. 1 (λ. 1 0))`.
abbrev pub ThirdOrderDomain : Type 0
ThirdOrderDomain =
    values_of (codes "%sig Z = { %include A. k : ((a -> a) -> a) -> a. h : (((a -> a) -> a) -> a) -> a. d : a = h k. }.")
    ≡ None
    ∷ None
    ∷ Some (TermValue (with_argument (of_Z (codes "h")) (Lam (with_argument (of_Z (codes "k")) (Lam (outer_with_argument (Lam (outer_with_argument (At (Var 0))))))))))
    ∷ []

-- The second domain of h depends on the first: h stands for `λ. λ. h 1 0`.
abbrev pub DependentProduct : Type 0
DependentProduct =
    values_of (codes "%sig Z = { %include A. all : ({x:a} p x -> a) -> a. h : {x:a} p x -> a. d : a = all h. }.")
    ≡ None
    ∷ None
    ∷ Some (TermValue (with_argument (of_Z (codes "all")) (Lam (Lam (At (App (App (Con (of_Z (codes "h"))) (At (Var 1))) (At (Var 0))))))))
    ∷ []

-- At a kind with a domain: an application of a constant, the same under a λ, and an application that still has a binder,
-- which is left.
abbrev pub ShortFamilies : Type 0
ShortFamilies =
    values_of (codes "%sig Z = { %include A. q : a -> a -> type. d : a -> type = q c. e : a -> a -> type = [x] q x. r : a -> a -> type = [x] [y] q y x. s : a -> type = r c. }.")
    ≡ None
    ∷ Some (FamilyValue 1 (AtFamily (FamilyApp (FamilyApp (FamilyCon (of_Z (codes "q"))) c_object) (At (Var 0)))))
    ∷ Some (FamilyValue 2 (AtFamily (FamilyApp (FamilyApp (FamilyCon (of_Z (codes "q"))) (At (Var 1))) (At (Var 0)))))
    ∷ Some (FamilyValue 2 (AtFamily (FamilyApp (FamilyApp (FamilyCon (of_Z (codes "q"))) (At (Var 0))) (At (Var 1)))))
    ∷ Some (FamilyValue 1 (AtFamily (FamilyApp (FamilyApp (FamilyCon (of_Z (codes "q"))) (At (Var 0))) c_object)))
    ∷ []

-- A whole value that is one name is the same as what that name stands for; as an argument the same name is expanded.
abbrev pub OneNameStaysTheSame : Type 0
OneNameStaysTheSame =
    values_of (codes "%sig Z = { %include A. d : a -> a = f. e : a -> type = p. m : a = g d. }.")
    ≡ Some (SameAs (of_A (codes "f")))
    ∷ Some (SameAs (of_A (codes "p")))
    ∷ Some (TermValue (with_argument (of_A (codes "g")) (Lam (with_argument (of_A (codes "f")) (At (Var 0))))))
    ∷ []

-- An argument that comes out as a λ is left: a defined constant, and the application of one.
abbrev pub LambdaIsLeft : Type 0
LambdaIsLeft =
    values_of (codes "%sig Z = { %include A. d : a -> a -> a = [x] [y] f x. e : a = g (d c). k : a -> a = [x] f (f x). m : a = g k. }.")
    ≡ Some (TermValue (Lam (Lam (with_argument (of_A (codes "f")) (At (Var 1))))))
    ∷ Some (TermValue (with_argument (of_A (codes "g")) (Lam (with_argument (of_A (codes "f")) c_object))))
    ∷ Some (TermValue (Lam (with_argument (of_A (codes "f")) (with_argument (of_A (codes "f")) (At (Var 0))))))
    ∷ Some (TermValue (with_argument (of_A (codes "g")) (Lam (with_argument (of_A (codes "f")) (with_argument (of_A (codes "f")) (At (Var 0)))))))
    ∷ []

-- A name of an atomic family at a product.
abbrev pub AtomAtAProduct : Type 0
AtomAtAProduct =
    told_of (under (codes "A") text_A ∷ []) (codes "Z")
    (codes "%sig Z = { %include A. d : a = g c. }.")
    ≡ RefusedAt 1 34 Rule.Mismatch (codes "d" ∷ [])

-- A name at another product than its own, which has the same erasure.
abbrev pub NameOfAnotherProduct : Type 0
NameOfAnotherProduct =
    told_of (under (codes "A") text_A ∷ []) (codes "Z")
    (codes "%sig Z = { %include A. all : ({x:a} p x -> a) -> a. h : {x:a} p c -> a. d : a = all h. }.")
    ≡ RefusedAt 1 85 Rule.Mismatch (codes "d" ∷ [])

-- An application at a kind with a domain that is none of those that it misses.
abbrev pub ApplicationOfAnotherKind : Type 0
ApplicationOfAnotherKind =
    told_of (under (codes "A") text_A ∷ []) (codes "Z")
    (codes "%sig Z = { %include A. q : a -> b -> type. d : a -> type = q c. }.")
    ≡ RefusedAt 1 60 Rule.Mismatch (codes "d" ∷ [])

-- An application at `type` that misses an argument.
abbrev pub ApplicationThatMissesAnArgument : Type 0
ApplicationThatMissesAnArgument =
    told_of (under (codes "A") text_A ∷ []) (codes "Z")
    (codes "%sig Z = { %include A. q : a -> a -> type. d : type = q c. }.")
    ≡ RefusedAt 1 55 Rule.NotCanonical (codes "d" ∷ [])
