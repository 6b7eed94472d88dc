-- Worked examples: what the definitions give along small maps that are written out, whose families may be functions. Constants
-- are letters, given by their bytes: a, c, f and v are the source of the map `view`, b, k, g and w belong to its target, and each
-- other letter is of the one example in which it stands.
use Rattle.std.specs.Prelude.{◌≡◌, ℕ, [], ◌∷◌, None}
use Rattle.lf_meaning.specs.Terms.{Object, Lam, At, Var, Con, App, Family, Pi, AtFamily, FamilyCon, FamilyApp, Kind, Ty, PiKind, Simple, Base, Arrow}
use Rattle.lf_meaning.specs.Signatures.{Class, FamilyClass, KindClass, Value, SameAs, TermValue, FamilyValue, Signature}
use Rattle.lf_meaning.specs.HeadMaps.{Mapping, HeadMap}
use Rattle.lf_term_laws.specs.Examples.{letter, letter_object, letter_family, undefined, defined}
use Rattle.translation_meaning.specs.FunctionFamilies.{with_bases, domain_type, codomain_type, listed_variable, takes_at_kind, partial_image, typed_value, erased_domains, translate_simple, translate_object, translate_family, translate_kind, translate_class, translate_context, translate_value, compose}
use Rattle.function_family_laws.specs.TypedFunctionMaps.{IsTypedFunctionAt}

abbrev pub base : ℕ → Simple
base byte = Base (letter byte)

-- `b -> b`, as a simple type and as a family.
abbrev pub arrow : Simple
arrow = Arrow (base 98) (base 98)

abbrev pub function : Family
function = Pi (letter_family 98) (letter_family 98)

abbrev pub apply : ℕ → Object → Object
apply byte object = At (App (Con (letter byte)) object)

abbrev pub family_apply : ℕ → Object → Family
family_apply byte object = AtFamily (FamilyApp (FamilyCon (letter byte)) object)

-- The variable 0 at a base, and its long form at `b -> b`: `λ. 1 0`.
abbrev pub variable : Object
variable = At (Var 0)

abbrev pub long_variable : Object
long_variable = Lam (At (App (Var 1) (At (Var 0))))

-- `λ. λ. 1 (1 0)`.
abbrev pub twice : Object
twice = Lam (Lam (At (App (Var 1) (At (App (Var 1) (At (Var 0)))))))

abbrev pub maps : ℕ → Class → Value → Mapping
maps byte class value = record { name = letter byte; image = record { class = class; value = value } }

-- The map of one constant, q.
abbrev pub only : Class → Value → HeadMap
only class value = maps 113 class value ∷ []

-- `a : type` goes to `b -> b`, `c : a` to g, `f : a -> a` to `[h] [x] h (h x)`, and `v : a -> type` to w.
abbrev pub view : HeadMap
view =
    maps 97 (KindClass Ty) (FamilyValue 0 function)
    ∷ maps 99 (FamilyClass function) (SameAs (letter 103))
    ∷ maps 102 (FamilyClass (Pi function function)) (TermValue twice)
    ∷ maps 118 (KindClass (PiKind function Ty)) (SameAs (letter 119))
    ∷ []

-- ---- simple types

-- Each base is replaced, in the domain and in the codomain.
abbrev pub EachBaseIsReplaced : Type 0
EachBaseIsReplaced = with_bases (λ constant. Arrow (Base constant) (base 107)) (Arrow (base 97) (base 98)) ≡ Arrow (Arrow (base 97) (base 107)) (Arrow (base 98) (base 107))

-- Along the map a is `b -> b`; a base without an image stays.
abbrev pub BaseBecomesArrow : Type 0
BaseBecomesArrow = translate_simple view (Arrow (base 97) (base 107)) ≡ Arrow arrow (base 107)

-- A base whose image is the same as d is the base d; one with an object for its image stays.
abbrev pub BaseBecomesBase : Type 0
BaseBecomesBase = translate_simple (only (KindClass Ty) (SameAs (letter 98))) (base 113) ≡ base 98

abbrev pub ObjectLeavesBase : Type 0
ObjectLeavesBase = translate_simple (only (KindClass Ty) (TermValue variable)) (base 113) ≡ base 113

-- A base is its own domain and codomain.
abbrev pub BaseIsItsDomain : Type 0
BaseIsItsDomain = domain_type (base 98) ≡ base 98

abbrev pub BaseIsItsCodomain : Type 0
BaseIsItsCodomain = codomain_type (base 98) ≡ base 98

-- ---- objects

-- `f (f c)`, translated at `b -> b`, is `λ. g (g (g (g 0)))`.
abbrev pub AppliedTwice : Type 0
AppliedTwice = translate_object view [] (apply 102 (apply 102 (letter_object 99))) arrow ≡ Lam (apply 103 (apply 103 (apply 103 (apply 103 variable))))

-- `λ. f 0`, at `(b -> b) -> b -> b`, is `λ. λ. 1 (1 0)`.
abbrev pub LambdaOverFunction : Type 0
LambdaOverFunction = translate_object view [] (Lam (apply 102 variable)) (Arrow arrow arrow) ≡ twice

-- A variable is put in its long form at its listed type; the inner λ has the later domain.
abbrev pub VariableIsLong : Type 0
VariableIsLong = translate_object [] (arrow ∷ []) variable arrow ≡ long_variable

abbrev pub DomainsInOrder : Type 0
DomainsInOrder = translate_object [] [] (Lam (Lam variable)) (Arrow (base 98) (Arrow arrow arrow)) ≡ Lam (Lam long_variable)

-- One that is not listed stays, at a base of no name; so does a constant without an image.
abbrev pub UnlistedVariable : Type 0
UnlistedVariable = translate_object [] (arrow ∷ []) (At (Var 3)) arrow ≡ At (Var 3)

abbrev pub UnlistedHasNoType : Type 0
UnlistedHasNoType = (listed_variable 3 None).type ≡ Base (record { theory = []; path = [] })

abbrev pub ConstantWithoutImage : Type 0
ConstantWithoutImage = translate_object [] [] (letter_object 113) arrow ≡ letter_object 113

-- An argument is translated at the domain of what takes it: `0 (λ. 0)` with 0 at `((b -> b) -> b -> b) -> b` is `0 (λ. λ. 1 0)`.
abbrev pub ArgumentAtDomain : Type 0
ArgumentAtDomain = translate_object [] (Arrow (Arrow arrow arrow) (base 98) ∷ []) (At (App (Var 0) (Lam variable))) (base 98) ≡ At (App (Var 0) (Lam long_variable))

-- A variable is put in its long form before it takes arguments, so an ill-sorted argument gets the long form too: `0 1` with 0 at
-- `(b -> b) -> b` and 1 at b is `0 (λ. 2 0)`. A λ at a base has that base for its domain, and its body is at that base.
abbrev pub IllSortedVariable : Type 0
IllSortedVariable = translate_object [] (Arrow arrow (base 98) ∷ base 98 ∷ []) (At (App (Var 0) (At (Var 1)))) (base 98) ≡ At (App (Var 0) (Lam (At (App (Var 2) (At (Var 0))))))

abbrev pub LambdaAtBase : Type 0
LambdaAtBase = translate_object [] [] (Lam (Lam (At (Var 1)))) (base 98) ≡ Lam (Lam (At (Var 1)))

-- ---- what constants stand for

-- The same as g, at `b -> b`, is `λ. g 0`; a term is itself; either has the erasure of the image's class for its type.
abbrev pub SameIsLong : Type 0
SameIsLong = translate_object view [] (letter_object 99) arrow ≡ Lam (apply 103 variable)

abbrev pub TermIsItself : Type 0
TermIsItself = translate_object view [] (letter_object 102) (Arrow arrow arrow) ≡ twice

abbrev pub SameHasType : Type 0
SameHasType = (typed_value (letter 99) (FamilyClass function) (SameAs (letter 103))).type ≡ arrow

abbrev pub TermHasType : Type 0
TermHasType = (typed_value (letter 99) (FamilyClass function) (TermValue variable)).type ≡ arrow

-- An image of another level leaves an object constant, at a base of no name: a family at a family, and any value at a kind.
abbrev pub FamilyLeavesObject : Type 0
FamilyLeavesObject = translate_object (only (FamilyClass function) (FamilyValue 0 function)) [] (letter_object 113) arrow ≡ letter_object 113

abbrev pub KindLeavesObject : Type 0
KindLeavesObject = translate_object (only (KindClass Ty) (SameAs (letter 103))) [] (letter_object 113) arrow ≡ letter_object 113

-- ---- families

-- `a -> a` is `(b -> b) -> b -> b`; behind the Π the variable is a function.
abbrev pub FamilyBecomesFunction : Type 0
FamilyBecomesFunction = translate_family view [] (Pi (letter_family 97) (letter_family 97)) ≡ Pi function function

abbrev pub VariableBehindPi : Type 0
VariableBehindPi = translate_family view [] (Pi (letter_family 97) (family_apply 118 variable)) ≡ Pi function (family_apply 119 long_variable)

-- What is the same as w takes its arguments on the spine.
abbrev pub SpineIsTaken : Type 0
SpineIsTaken = translate_family view [] (family_apply 118 (apply 102 (letter_object 99))) ≡ family_apply 119 (Lam (apply 103 (apply 103 variable)))

-- They are translated at the erasures of the domains: `λ. 0` at `(b -> b) -> b -> b` is `λ. λ. 1 0`.
abbrev pub FamilyArgumentAtDomain : Type 0
FamilyArgumentAtDomain = translate_family (only (KindClass (PiKind (Pi function function) Ty)) (SameAs (letter 119))) [] (family_apply 113 (Lam variable)) ≡ family_apply 119 (Lam long_variable)

-- With binders the first argument is for the outermost one: along `q := [x] [y] w y -> u x` the family `q k g` is `w g -> u k`.
abbrev pub two_binders : HeadMap
two_binders = only (KindClass (PiKind (letter_family 98) (PiKind (letter_family 98) Ty))) (FamilyValue 2 (Pi (family_apply 119 (At (Var 0))) (family_apply 117 (At (Var 2)))))

abbrev pub BindersAreTaken : Type 0
BindersAreTaken =
    translate_family two_binders [] (AtFamily (FamilyApp (FamilyApp (FamilyCon (letter 113)) (letter_object 107)) (letter_object 103)))
    ≡ Pi (family_apply 119 (letter_object 103)) (family_apply 117 (letter_object 107))

-- An argument for a binder is substituted at the erasure of the domain: along `q : (b -> b) -> type := [h] w (h k)` the family
-- `q (λ. g 0)` is `w (g k)`.
abbrev pub BinderAtFunction : Type 0
BinderAtFunction =
    translate_family (only (KindClass (PiKind function Ty)) (FamilyValue 1 (family_apply 119 (At (App (Var 0) (letter_object 107)))))) [] (family_apply 113 (Lam (apply 103 variable)))
    ≡ family_apply 119 (apply 103 (letter_object 107))

-- The kind that is left has the argument in place of its variable, with a binder and without.
abbrev pub dependent : Kind
dependent = PiKind (letter_family 98) (PiKind (family_apply 119 variable) Ty)

abbrev pub KindLeftOnSpine : Type 0
KindLeftOnSpine = (takes_at_kind 0 (letter_family 113) dependent (λ t. letter_object 107)).kind ≡ PiKind (family_apply 119 (letter_object 107)) Ty

abbrev pub KindLeftWithBinder : Type 0
KindLeftWithBinder = (takes_at_kind 2 (letter_family 98) dependent (λ t. letter_object 107)).kind ≡ PiKind (family_apply 119 (letter_object 107)) Ty

abbrev pub BinderIsLeft : Type 0
BinderIsLeft = (takes_at_kind 2 (letter_family 98) dependent (λ t. letter_object 107)).binders ≡ 1

-- An argument without a domain is left out.
abbrev pub ArgumentWithoutDomain : Type 0
ArgumentWithoutDomain = translate_family (only (KindClass Ty) (SameAs (letter 98))) [] (family_apply 113 (letter_object 107)) ≡ letter_family 98

-- An object as the image of a family constant leaves it, and so does no image, at `type`.
abbrev pub ObjectLeavesFamily : Type 0
ObjectLeavesFamily = translate_family (only (KindClass Ty) (TermValue variable)) [] (letter_family 113) ≡ letter_family 113

abbrev pub FamilyWithoutImage : Type 0
FamilyWithoutImage = translate_family [] [] (letter_family 113) ≡ letter_family 113

abbrev pub NoImageIsAtType : Type 0
NoImageIsAtType = (partial_image (letter 113) None).kind ≡ Ty

-- ---- kinds, classes and contexts

abbrev pub VariableBehindPiKind : Type 0
VariableBehindPiKind = translate_kind view [] (PiKind (letter_family 97) (PiKind (family_apply 118 variable) Ty)) ≡ PiKind function (PiKind (family_apply 119 long_variable) Ty)

abbrev pub KindIsTranslated : Type 0
KindIsTranslated = translate_class view (KindClass (PiKind (letter_family 97) Ty)) ≡ KindClass (PiKind function Ty)

abbrev pub FamilyIsTranslated : Type 0
FamilyIsTranslated = translate_class view (FamilyClass (letter_family 97)) ≡ FamilyClass function

-- `x : a, y : v x`, the innermost first.
abbrev pub ContextIsTranslated : Type 0
ContextIsTranslated = translate_context view (family_apply 118 variable ∷ letter_family 97 ∷ []) ≡ family_apply 119 long_variable ∷ function ∷ []

-- The domains of `b -> (b -> b) -> type` in front of k, the inner one first.
abbrev pub DomainsAreErased : Type 0
DomainsAreErased = erased_domains (PiKind (letter_family 98) (PiKind function Ty)) (base 107 ∷ []) ≡ arrow ∷ base 98 ∷ base 107 ∷ []

-- ---- values

-- A constant has the value of its image, and without one it is the same as before.
abbrev pub SameIsImage : Type 0
SameIsImage = translate_value view (FamilyClass (Pi function function)) (SameAs (letter 102)) ≡ TermValue twice

abbrev pub SameStays : Type 0
SameStays = translate_value view (FamilyClass function) (SameAs (letter 113)) ≡ SameAs (letter 113)

-- A term is translated at the erasure of the class, here `f c` at `b -> b` and `λ. 0` at `(b -> b) -> b -> b`.
abbrev pub TermIsTranslated : Type 0
TermIsTranslated = translate_value view (FamilyClass function) (TermValue (apply 102 (letter_object 99))) ≡ TermValue (Lam (apply 103 (apply 103 variable)))

abbrev pub TermAtClass : Type 0
TermAtClass = translate_value view (FamilyClass (Pi function function)) (TermValue (Lam variable)) ≡ TermValue (Lam long_variable)

-- One that comes out as a bare constant is the same as that constant.
abbrev pub TermBecomesSame : Type 0
TermBecomesSame = translate_value (only (FamilyClass (letter_family 98)) (SameAs (letter 107))) (FamilyClass (letter_family 98)) (TermValue (letter_object 113)) ≡ SameAs (letter 107)

-- A family is translated behind the erased domains of its class.
abbrev pub FamilyBehindDomains : Type 0
FamilyBehindDomains = translate_value view (KindClass (PiKind function Ty)) (FamilyValue 1 (family_apply 118 variable)) ≡ FamilyValue 1 (family_apply 119 long_variable)

abbrev pub FamilyBecomesSame : Type 0
FamilyBecomesSame = translate_value (only (KindClass Ty) (SameAs (letter 98))) (KindClass Ty) (FamilyValue 0 (letter_family 113)) ≡ SameAs (letter 98)

-- Values of another level than the class stay.
abbrev pub TermAtKindStays : Type 0
TermAtKindStays = translate_value view (KindClass Ty) (TermValue (letter_object 99)) ≡ TermValue (letter_object 99)

abbrev pub FamilyAtFamilyStays : Type 0
FamilyAtFamilyStays = translate_value view (FamilyClass function) (FamilyValue 0 (letter_family 97)) ≡ FamilyValue 0 (letter_family 97)

-- ---- composition

-- Along the first map `d : type` goes to a, `h : d -> d` to `λ. 0`, and `z : d` to c.
abbrev pub first : HeadMap
first =
    maps 100 (KindClass Ty) (SameAs (letter 97))
    ∷ maps 104 (FamilyClass (Pi (letter_family 97) (letter_family 97))) (TermValue (Lam variable))
    ∷ maps 122 (FamilyClass (letter_family 97)) (SameAs (letter 99))
    ∷ []

-- So behind it comes the other.
abbrev pub both : HeadMap
both =
    maps 100 (KindClass Ty) (FamilyValue 0 function)
    ∷ maps 104 (FamilyClass (Pi function function)) (TermValue (Lam long_variable))
    ∷ maps 122 (FamilyClass function) (SameAs (letter 103))
    ∷ []

abbrev pub ImagesAreTranslated : Type 0
ImagesAreTranslated = compose first view ≡ both

-- Values compose up to agreement alone: `h z` is the bare constant c along the first map and is kept as the same as c, which then is
-- the same as g; along both at once it is a term, the long form of g.
abbrev pub OneAfterTheOther : Type 0
OneAfterTheOther = translate_value view (FamilyClass function) (translate_value first (FamilyClass (letter_family 97)) (TermValue (apply 104 (letter_object 122)))) ≡ SameAs (letter 103)

abbrev pub BothAtOnce : Type 0
BothAtOnce = translate_value both (FamilyClass function) (TermValue (apply 104 (letter_object 122))) ≡ TermValue (Lam (apply 103 variable))

-- ---- typed maps

-- Over `b : type`, `g : b -> b` the map is typed at `a : type`, and at `c : a`.
abbrev pub target : Signature
target = undefined 98 (KindClass Ty) ∷ undefined 103 (FamilyClass function) ∷ []

abbrev pub TypedAtFamily : Type 0
TypedAtFamily = IsTypedFunctionAt target view (undefined 97 (KindClass Ty))

abbrev pub TypedAtConstant : Type 0
TypedAtConstant = IsTypedFunctionAt target view (undefined 99 (FamilyClass (letter_family 97)))

-- Where c is defined as the same as e, and e goes to the term `λ. g 0`, the values g and `λ. g 0` agree.
abbrev pub ValuesAgree : Type 0
ValuesAgree = IsTypedFunctionAt target (maps 101 (FamilyClass function) (TermValue (Lam (apply 103 variable))) ∷ view) (defined 99 (FamilyClass (letter_family 97)) (SameAs (letter 101)))

-- Where c is defined as `f c`, they do not.
abbrev pub ValuesDiffer : Type 0
ValuesDiffer = IsTypedFunctionAt target view (defined 99 (FamilyClass (letter_family 97)) (TermValue (apply 102 (letter_object 99)))) → ⊥
