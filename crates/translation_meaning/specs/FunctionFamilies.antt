-- Translation along a head map whose families may be functions (Rabe and Kohlhase 2013, section 4: the homomorphic extension of
-- a morphism; here a family constant may go to a Π, and the result is brought to canonical form hereditarily, with
-- η-expansion as in Harper and Licata 2007, section 2). It stands beside the translation of `Translation`, where the family
-- that a family constant goes to is atomic below its binders.
--
-- An object is translated at a simple type, which is translated already, in a list of the translated simple types of its
-- variables: where a base goes to an arrow, what was atomic becomes a function, and so variables and constants are put in
-- their long forms.
use Rattle.std.specs.Prelude.{ℕ, zero, suc, [], ◌∷◌, Option, Some, None, slice_get, map}
use Rattle.eta_meaning.specs.Below.Terms.{Constant, Object, Lam, At, Atomic, Var, Con, App, Family, Pi, AtFamily, AtomicFamily, FamilyCon, FamilyApp, Kind, Ty, PiKind, Simple, Base, Arrow, SimpleContext, Context}
use Rattle.eta_meaning.specs.Below.Erasure.{erase, erase_context}
use Rattle.eta_meaning.specs.Below.Substitution.{Typed, app, substitute_family, substitute_kind}
use Rattle.eta_meaning.specs.Below.Signatures.{Class, FamilyClass, KindClass, Value, SameAs, TermValue, FamilyValue}
use Rattle.eta_meaning.specs.Below.HeadMaps.{Image, Mapping, HeadMap, image_of}
use Rattle.eta_meaning.specs.LongTerms.{eta}
use Rattle.translation_meaning.specs.Heads.{family_takes}
use Rattle.translation_meaning.specs.Translation.{object_value, family_value, same_image, image_kind}

-- A simple type with a simple type in place of each base.
abbrev pub with_bases : (Constant → Simple) → Simple → Simple
with_bases bases (Base constant) = bases constant
with_bases bases (Arrow domain codomain) = Arrow (with_bases bases domain) (with_bases bases codomain)

-- What a simple type takes next and what it gives then. A base is its own domain and its own codomain: no well-sorted object has
-- a λ or an argument there.
abbrev pub domain_type : Simple → Simple
domain_type (Base constant) = Base constant
domain_type (Arrow domain codomain) = domain

abbrev pub codomain_type : Simple → Simple
codomain_type (Base constant) = Base constant
codomain_type (Arrow domain codomain) = codomain

-- The base of what has no simple type: a variable that is not listed, a constant without an image or with one of another level.
-- No well-sorted object of a checked map has one.
abbrev pub no_type : Simple
no_type = Base (record { theory = []; path = [] })

-- A variable begins as its long form at its listed type.
abbrev pub listed_variable : ℕ → Option Simple → Typed
listed_variable i None = record { value = At (Var i); type = no_type }
listed_variable i (Some t) = record { value = eta t (Var i); type = t }

-- A value with its type takes what an argument is at the domain of that type.
abbrev pub takes_at_type : Typed → (Simple → Object) → Typed
takes_at_type head argument = app head.type head.value (argument (domain_type head.type))

abbrev mutual
  -- The object at a translated simple type, with what each constant stands for and the translated types of the variables, that of
  -- the innermost first. A λ puts the domain in front.
  pub carried : (Constant → Typed) → SimpleContext → Object → Simple → Object
  carried objects types (Lam body) t = Lam (carried objects (domain_type t ∷ types) body (codomain_type t))
  carried objects types (At r) t = (carried_head objects types r).value

  -- An atomic object with the type that is left: its head takes the arguments from left to right.
  pub carried_head : (Constant → Typed) → SimpleContext → Atomic → Typed
  carried_head objects types (Var i) = listed_variable i (slice_get types i)
  carried_head objects types (Con constant) = objects constant
  carried_head objects types (App r argument) = takes_at_type (carried_head objects types r) (carried objects types argument)

-- A family that still has so many binders, with the kind that is left.
pub record PartialFamily : Type 0 where
  pub binders : ℕ
  pub family : Family
  pub kind : Kind

abbrev pub partial_family : ℕ → Family → Kind → PartialFamily
partial_family binders family kind = record { binders = binders; family = family; kind = kind }

-- With no binder left an argument goes on the spine of an atomic family; else it is for the outermost binder, which is the one
-- with the highest number, at the erasure of the domain.
abbrev pub takes_at_domain : ℕ → Family → Family → Kind → Object → PartialFamily
takes_at_domain zero family domain kind argument = partial_family zero (family_takes family argument) (substitute_kind argument (erase domain) 0 kind)
takes_at_domain (suc binders) family domain kind argument =
    partial_family binders (substitute_family argument (erase domain) binders family) (substitute_kind argument (erase domain) 0 kind)

-- An argument is translated at the erasure of its domain; one without a domain is left out.
abbrev pub takes_at_kind : ℕ → Family → Kind → (Simple → Object) → PartialFamily
takes_at_kind binders family Ty argument = partial_family binders family Ty
takes_at_kind binders family (PiKind domain kind) argument = takes_at_domain binders family domain kind (argument (erase domain))

abbrev pub partial_takes : PartialFamily → (Simple → Object) → PartialFamily
partial_takes head argument = takes_at_kind head.binders head.family head.kind argument

-- The head of an atomic family takes the arguments from left to right.
abbrev pub carried_atomic : (Constant → Typed) → (Constant → PartialFamily) → SimpleContext → AtomicFamily → PartialFamily
carried_atomic objects families types (FamilyCon constant) = families constant
carried_atomic objects families types (FamilyApp p argument) = partial_takes (carried_atomic objects families types p) (carried objects types argument)

-- Behind a Π the variable has the erasure of the translated domain.
abbrev pub product_with : Family → (Simple → Family) → Family
product_with domain body = Pi domain (body (erase domain))

abbrev pub kind_product_with : Family → (Simple → Kind) → Kind
kind_product_with domain body = PiKind domain (body (erase domain))

abbrev pub carried_family : (Constant → Typed) → (Constant → PartialFamily) → SimpleContext → Family → Family
carried_family objects families types (Pi domain body) =
    product_with (carried_family objects families types domain) (λ t. carried_family objects families (t ∷ types) body)
carried_family objects families types (AtFamily p) = (carried_atomic objects families types p).family

abbrev pub carried_kind : (Constant → Typed) → (Constant → PartialFamily) → SimpleContext → Kind → Kind
carried_kind objects families types Ty = Ty
carried_kind objects families types (PiKind domain kind) =
    kind_product_with (carried_family objects families types domain) (λ t. carried_kind objects families (t ∷ types) kind)

-- The families of a context, each with the simple types of the translated ones that stand before it.
abbrev pub carried_next : (Constant → Typed) → (Constant → PartialFamily) → Family → Context → Context
carried_next objects families family before = carried_family objects families (erase_context before) family ∷ before

abbrev pub carried_context : (Constant → Typed) → (Constant → PartialFamily) → Context → Context
carried_context objects families [] = []
carried_context objects families (family ∷ context) = carried_next objects families family (carried_context objects families context)

-- The simple type that stands for a base: the base d where the image is "the same as d", else the erasure of the image's body. A
-- base without an image, or with an object for one, stays: no checked map has one.
abbrev pub type_of_value : Constant → Value → Simple
type_of_value constant (SameAs d) = Base d
type_of_value constant (TermValue object) = Base constant
type_of_value constant (FamilyValue binders body) = erase body

abbrev pub image_type : Constant → Option Image → Simple
image_type constant None = Base constant
image_type constant (Some image) = type_of_value constant image.value

-- What stands for an object constant: its image at the erasure of the image's class; "the same as d" is the long form of d.
abbrev pub typed_value : Constant → Class → Value → Typed
typed_value constant (FamilyClass family) (SameAs d) = record { value = eta (erase family) (Con d); type = erase family }
typed_value constant (FamilyClass family) (TermValue object) = record { value = object; type = erase family }
typed_value constant (FamilyClass family) (FamilyValue binders body) = record { value = At (Con constant); type = no_type }
typed_value constant (KindClass kind) value = record { value = At (Con constant); type = no_type }

abbrev pub typed_image : Constant → Option Image → Typed
typed_image constant None = record { value = At (Con constant); type = no_type }
typed_image constant (Some image) = typed_value constant image.class image.value

-- What stands for a family constant: its image at the kind of the image.
abbrev pub partial_value : Constant → Class → Value → PartialFamily
partial_value constant class (SameAs d) = partial_family zero (AtFamily (FamilyCon d)) (image_kind class)
partial_value constant class (TermValue object) = partial_family zero (AtFamily (FamilyCon constant)) (image_kind class)
partial_value constant class (FamilyValue binders body) = partial_family binders body (image_kind class)

abbrev pub partial_image : Constant → Option Image → PartialFamily
partial_image constant None = partial_family zero (AtFamily (FamilyCon constant)) Ty
partial_image constant (Some image) = partial_value constant image.class image.value

-- What a map gives for bases, for object constants and for family constants.
abbrev pub bases_along : HeadMap → Constant → Simple
bases_along along = λ (constant : Constant). image_type constant (image_of along constant)

abbrev pub objects_along : HeadMap → Constant → Typed
objects_along along = λ (constant : Constant). typed_image constant (image_of along constant)

abbrev pub families_along : HeadMap → Constant → PartialFamily
families_along along = λ (constant : Constant). partial_image constant (image_of along constant)

abbrev pub translate_simple : HeadMap → Simple → Simple
translate_simple along t = with_bases (bases_along along) t

-- Of the simple types that these take, that of the object and those of the variables are translated already.
abbrev pub translate_object : HeadMap → SimpleContext → Object → Simple → Object
translate_object along types object t = carried (objects_along along) types object t

abbrev pub translate_family : HeadMap → SimpleContext → Family → Family
translate_family along types family = carried_family (objects_along along) (families_along along) types family

abbrev pub translate_kind : HeadMap → SimpleContext → Kind → Kind
translate_kind along types kind = carried_kind (objects_along along) (families_along along) types kind

abbrev pub translate_class : HeadMap → Class → Class
translate_class along (FamilyClass family) = FamilyClass (translate_family along [] family)
translate_class along (KindClass kind) = KindClass (translate_kind along [] kind)

abbrev pub translate_context : HeadMap → Context → Context
translate_context along context = carried_context (objects_along along) (families_along along) context

-- The erasures of a kind's domains in front of a list, that of the innermost first.
abbrev pub erased_domains : Kind → SimpleContext → SimpleContext
erased_domains Ty types = types
erased_domains (PiKind domain kind) types = erased_domains kind (erase domain ∷ types)

-- The value at its translated class. "The same as c" becomes the image of c; a term is translated at the erasure of the class; a
-- family under the erasures of the domains of the class. One of another level than the class stays: no fitting value is one.
abbrev pub translate_value : HeadMap → Class → Value → Value
translate_value along class (SameAs constant) = same_image constant (image_of along constant)
translate_value along (FamilyClass family) (TermValue object) = object_value (translate_object along [] object (erase family))
translate_value along (KindClass kind) (TermValue object) = TermValue object
translate_value along (FamilyClass family) (FamilyValue binders body) = FamilyValue binders body
translate_value along (KindClass kind) (FamilyValue binders body) = family_value binders (translate_family along (erased_domains kind []) body)

abbrev pub translate_image : HeadMap → Image → Image
translate_image along image = record { class = translate_class along image.class; value = translate_value along (translate_class along image.class) image.value }

-- The composition of two maps: the constants of the first, each with its image translated along the second.
unfoldable pub compose : HeadMap → HeadMap → HeadMap
compose first second = map (λ (mapping : Mapping). record { name = mapping.name; image = translate_image second mapping.image }) first
