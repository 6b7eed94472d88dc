-- Worked examples of printed text: a view and a judgement that it carries, a theory with an included theory, and a
-- structure that was assigned.
use Rattle.std.specs.Prelude.{◌≡◌, ℕ, List, [], ◌∷◌, ◌++◌, None, Some, codes, if◌then◌else◌}
use Rattle.name_meaning.specs.Names.{Name, Path, same_name}
use Rattle.lf_meaning.specs.Terms.{Constant, Object, Lam, At, Var, Con, App, Family, Pi, AtFamily, FamilyCon, FamilyApp, Ty, PiKind}
use Rattle.lf_meaning.specs.Signatures.{Class, FamilyClass, KindClass, Value, SameAs, TermValue, FamilyValue, Declaration, Signature}
use Rattle.lf_meaning.specs.HeadMaps.{Mapping}
use Rattle.library_meaning.specs.Faces.{TheoryFace, ViewFace, IsAbsent, IsTheory, IsView, Environment}
use Rattle.printing_meaning.specs.Prefixes.{prefix_of}
use Rattle.printing_meaning.specs.Constants.{Seen}
use Rattle.printing_meaning.specs.PrintedTerms.{family_text, kind_text, value_text}
use Rattle.printing_meaning.specs.PrintedTables.{seen_from, theory_text, view_text}
use Rattle.printing_meaning.specs.CarriedLines.{Carries, NoView, Ill, carried_line}
use Rattle.printing_meaning.specs.VerdictLines.{Refused, AcceptedTheory, AcceptedView, place_text, judged_line}

abbrev pub constant : Name → Name → Constant
constant theory name = record { theory = theory; path = name ∷ [] }

abbrev pub declared : Constant → Class → Declaration
declared name class = record { name = name; class = class; value = None }

abbrev pub family : Constant → Family
family name = AtFamily (FamilyCon name)

abbrev pub object : Constant → Object
object name = At (Con name)

abbrev pub variable : ℕ → Object
variable index = At (Var index)

-- The codomain U: `u : type`, `z : u`, `g : u -> u -> u`.
abbrev pub in_U : Name → Constant
in_U name = constant (codes "U") name

abbrev pub u : Family
u = family (in_U (codes "u"))

abbrev pub own_U : Signature
own_U =
    declared (in_U (codes "u")) (KindClass Ty)
    ∷ declared (in_U (codes "z")) (FamilyClass u)
    ∷ declared (in_U (codes "g")) (FamilyClass (Pi u (Pi u u)))
    ∷ []

-- The same with `x1 : u`.
abbrev pub own_U_with_x1 : Signature
own_U_with_x1 = own_U ++ declared (in_U (codes "x1")) (FamilyClass u) ∷ []

-- The domain S: `t : type`, `z : t`, `f : t -> t`, `app : (t -> t) -> t`.
abbrev pub in_S : Name → Constant
in_S name = constant (codes "S") name

abbrev pub t : Family
t = family (in_S (codes "t"))

abbrev pub own_S : Signature
own_S =
    declared (in_S (codes "t")) (KindClass Ty)
    ∷ declared (in_S (codes "z")) (FamilyClass t)
    ∷ declared (in_S (codes "f")) (FamilyClass (Pi t t))
    ∷ declared (in_S (codes "app")) (FamilyClass (Pi (Pi t t) t))
    ∷ []

abbrev pub sends : Name → Class → Value → Mapping
sends name class value = record { name = in_S name; image = record { class = class; value = value } }

abbrev pub g_of : Object → Object → Object
g_of first second = At (App (App (Con (in_U (codes "g"))) first) second)

-- The view F: `t := u`, `z := z`, `f := [x] g x x`, `app := [h] h (h z)`.
abbrev pub face_F : ViewFace
face_F = record {
  name = codes "F";
  domain = codes "S";
  codomain = codes "U";
  map =
      sends (codes "t") (KindClass Ty) (SameAs (in_U (codes "u")))
      ∷ sends (codes "z") (FamilyClass u) (SameAs (in_U (codes "z")))
      ∷ sends (codes "f") (FamilyClass (Pi u u)) (TermValue (Lam (g_of (variable 0) (variable 0))))
      ∷ sends (codes "app") (FamilyClass (Pi (Pi u u) u)) (TermValue (Lam (At (App (Var 0) (At (App (Var 0) (object (in_U (codes "z")))))))))
      ∷ [];
}

abbrev pub theory : Name → Signature → List Name → TheoryFace
theory name own includes = record { name = name; own = own; includes = includes; structures = [] }

-- The library of S, U and F, where U has these own constants.
abbrev pub library : Signature → Environment
library own name =
    if same_name name (codes "S") then IsTheory (theory (codes "S") own_S [])
    else (if same_name name (codes "U") then IsTheory (theory (codes "U") own [])
    else (if same_name name (codes "F") then IsView face_F else IsAbsent))

abbrev pub MapIsPrinted : Type 0
MapIsPrinted =
    view_text (library own_U) (codes "F") 3 face_F
    ≡ codes "F @3 map 4\nt := u.\nz := z.\nf := [x1] g x1 x1.\napp := [x1] x1 (x1 z).\n"

-- `x1` is a constant of the codomain, so the variables have a mark.
abbrev pub PrefixIsChanged : Type 0
PrefixIsChanged =
    view_text (library own_U_with_x1) (codes "F") 3 face_F
    ≡ codes "F @3 map 4\nt := u.\nz := z.\nf := [x'1] g x'1 x'1.\napp := [x'1] x'1 (x'1 z).\n"

abbrev pub doubled : Object
doubled = g_of (object (in_U (codes "z"))) (object (in_U (codes "z")))

-- `f (f z) : t` is carried to `g (g z z) (g z z) : u`.
abbrev pub JudgementIsPrinted : Type 0
JudgementIsPrinted =
    carried_line (codes "F") 3 (seen_from (library own_U) (codes "U")) (Carries (g_of doubled doubled) u)
    ≡ codes "F @3 carries g (g z z) (g z z) : u\n"

abbrev pub IllIsPrinted : Type 0
IllIsPrinted =
    carried_line (codes "F") 3 (seen_from (library own_U) (codes "U")) (Ill 2 (codes "mismatch")) ≡ codes "F @3 ill 3 mismatch\n"

abbrev pub NoViewIsPrinted : Type 0
NoViewIsPrinted = carried_line (codes "S") 3 (seen_from (library own_U) (codes "U")) NoView ≡ codes "S @3 no-view\n"

-- First-order logic, a magma over it, and a monoid with that magma as a structure.
abbrev pub in_FOL : Name → Constant
in_FOL name = constant (codes "FOL") name

abbrev pub i : Family
i = family (in_FOL (codes "i"))

abbrev pub o : Family
o = family (in_FOL (codes "o"))

abbrev pub own_FOL : Signature
own_FOL =
    declared (in_FOL (codes "i")) (KindClass Ty)
    ∷ declared (in_FOL (codes "o")) (KindClass Ty)
    ∷ declared (in_FOL (codes "pf")) (KindClass (PiKind o Ty))
    ∷ declared (in_FOL (codes "eq")) (FamilyClass (Pi i (Pi i o)))
    ∷ declared (in_FOL (codes "all")) (FamilyClass (Pi (Pi i o) o))
    ∷ []

abbrev pub in_Monoid : Path → Constant
in_Monoid path = record { theory = codes "Monoid"; path = path }

abbrev pub operation : Object → Object → Object
operation first second = At (App (App (Con (in_Monoid (codes "mag" ∷ codes "op" ∷ []))) first) second)

abbrev pub equal : Object → Object → Object
equal first second = At (App (App (Con (in_FOL (codes "eq"))) first) second)

abbrev pub proof : Object → Family
proof statement = AtFamily (FamilyApp (FamilyCon (in_FOL (codes "pf"))) statement)

abbrev pub unit : Object
unit = object (in_Monoid (codes "e" ∷ []))

abbrev pub own_Monoid : Signature
own_Monoid =
    declared (in_Monoid (codes "mag" ∷ codes "op" ∷ [])) (FamilyClass (Pi i (Pi i i)))
    ∷ declared (in_Monoid (codes "e" ∷ [])) (FamilyClass i)
    ∷ declared (in_Monoid (codes "left" ∷ [])) (FamilyClass (Pi i (proof (equal (operation unit (variable 0)) (variable 0)))))
    ∷ declared (in_Monoid (codes "right" ∷ [])) (FamilyClass (Pi i (proof (equal (operation (variable 0) unit) (variable 0)))))
    ∷ []

abbrev pub logic : Environment
logic name = if same_name name (codes "FOL") then IsTheory (theory (codes "FOL") own_FOL []) else IsAbsent

abbrev pub monoid : TheoryFace
monoid = theory (codes "Monoid") own_Monoid (codes "FOL" ∷ [])

abbrev pub MonoidIsPrinted : Type 0
MonoidIsPrinted =
    theory_text logic (codes "Monoid") 3 monoid
    ≡ codes "Monoid @3 flat 9\nFOL.i : type.\nFOL.o : type.\nFOL.pf : FOL.o -> type.\nFOL.eq : FOL.i -> FOL.i -> FOL.o.\nFOL.all : (FOL.i -> FOL.o) -> FOL.o.\nmag.op : FOL.i -> FOL.i -> FOL.i.\ne : FOL.i.\nleft : {x1:FOL.i} FOL.pf (FOL.eq (mag.op e x1) x1).\nright : {x1:FOL.i} FOL.pf (FOL.eq (mag.op x1 e) x1).\n"

abbrev pub VerdictIsPrinted : Type 0
VerdictIsPrinted = judged_line logic (codes "Monoid") 3 (place_text []) (AcceptedTheory monoid) ≡ codes "Monoid @3 accepted theory 9\n"

abbrev pub ViewVerdictIsPrinted : Type 0
ViewVerdictIsPrinted = judged_line (library own_U) (codes "F") 3 (place_text []) (AcceptedView face_F) ≡ codes "F @3 accepted view 4\n"

-- The text of the theory of natural numbers with a misspelled name at byte 45, in the fourth line.
abbrev pub RefusalIsPrinted : Type 0
RefusalIsPrinted =
    judged_line logic (codes "Nat") 1 (place_text (codes "%sig Nat = {\nnat : type.\nz : nat.\ns : nat -> nta.\n}.\n"))
    (Refused (record { at = 45; rule = codes "unknown-name"; label = codes "s" ∷ [] }))
    ≡ codes "Nat @1 refused 4:12 unknown-name s\n"

-- Natural numbers with a structure `m` whose constants were assigned: `m.a : type = nat`, `m.op : nat -> nat -> nat = plus`.
abbrev pub in_Nat : Path → Constant
in_Nat path = record { theory = codes "Nat"; path = path }

abbrev pub nat : Family
nat = family (in_Nat (codes "nat" ∷ []))

abbrev pub defined : Path → Class → Value → Declaration
defined path class value = record { name = in_Nat path; class = class; value = Some value }

abbrev pub numbers : TheoryFace
numbers =
    theory (codes "Nat")
    (declared (in_Nat (codes "nat" ∷ [])) (KindClass Ty)
    ∷ declared (in_Nat (codes "z" ∷ [])) (FamilyClass nat)
    ∷ declared (in_Nat (codes "s" ∷ [])) (FamilyClass (Pi nat nat))
    ∷ declared (in_Nat (codes "plus" ∷ [])) (FamilyClass (Pi nat (Pi nat nat)))
    ∷ defined (codes "m" ∷ codes "a" ∷ []) (KindClass Ty) (SameAs (in_Nat (codes "nat" ∷ [])))
    ∷ defined (codes "m" ∷ codes "op" ∷ []) (FamilyClass (Pi nat (Pi nat nat))) (SameAs (in_Nat (codes "plus" ∷ [])))
    ∷ []) []

abbrev pub DefinitionsArePrinted : Type 0
DefinitionsArePrinted =
    theory_text logic (codes "Nat") 2 numbers
    ≡ codes "Nat @2 flat 6\nnat : type.\nz : nat.\ns : nat -> nat.\nplus : nat -> nat -> nat.\nm.a : type = nat.\nm.op : nat -> nat -> nat = plus.\n"

-- A number of a binder counts the bodies that hold it, and not the domains: both binders of `{x1:{x1:nat} eq x1 x1} ..` have
-- number 1.
abbrev pub eq_of : ℕ → ℕ → Family
eq_of first second = AtFamily (FamilyApp (FamilyApp (FamilyCon (in_Nat (codes "eq" ∷ []))) (variable first)) (variable second))

abbrev pub seen_from_Nat : Seen
seen_from_Nat = record { theory = codes "Nat"; prefix = prefix_of [] }

abbrev pub BodiesAreCounted : Type 0
BodiesAreCounted =
    family_text seen_from_Nat 0 (Pi (Pi nat (eq_of 0 0)) (Pi nat (eq_of 0 1)))
    ≡ codes "{x1:{x1:nat} eq x1 x1} {x2:nat} eq x2 x1"

abbrev pub DomainsAreParenthesized : Type 0
DomainsAreParenthesized =
    kind_text seen_from_Nat 0 (PiKind (Pi nat nat) (PiKind nat Ty)) ≡ codes "(nat -> nat) -> nat -> type"

-- A family value prints its binders.
abbrev pub FamilyValueIsPrinted : Type 0
FamilyValueIsPrinted = value_text seen_from_Nat (FamilyValue 2 (eq_of 0 1)) ≡ codes "[x1] [x2] eq x2 x1"

abbrev pub LambdaIsParenthesized : Type 0
LambdaIsParenthesized =
    value_text seen_from_Nat (TermValue (Lam (At (App (Var 0) (Lam (variable 1)))))) ≡ codes "[x1] x1 ([x2] x1)"
