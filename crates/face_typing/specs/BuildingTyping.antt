-- A theory that is being built is well typed at each time (Rabe and Kohlhase 2013, section 3; this profile). It stands over what
-- is known of others; no library is spoken of.
use Rattle.std.specs.Prelude.{◌≡◌, List, Option, Some, None, Ok, IsSome}
use Rattle.name_meaning.specs.Names.{Name}
use Rattle.lf_meaning.specs.Signatures.{Class, Value}
use Rattle.lf_meaning.specs.Judgements.{IsClass, ValueFits}
use Rattle.lf_meaning.specs.HeadMaps.{HeadMap}
use Rattle.translation_meaning.specs.TypedMaps.{IsTypedMap}
use Rattle.library_meaning.specs.Faces.{TheoryFace, Environment, theory_of, structure_of, flat_signature, flat_of}
use Rattle.library_meaning.specs.Closure.{with_inclusion}
use Rattle.library_meaning.specs.Coherence.{IsCoherent}
use Rattle.text_meaning.specs.Trees.{Written, Assign, Decl, first_name}
use Rattle.link_meaning.specs.Passes.{link_map}
use Rattle.link_meaning.specs.Induced.{with_structure}
use Rattle.verdict_meaning.specs.Modules.{scope_in, with_constant, structure_setting, view_setting, declare, declare_all, empty_theory}
use Rattle.coherence_laws.specs.BuildingLaws.{IsBuiltOver}
use Rattle.face_typing.specs.Below.TypingOfExpansion.{IsTypedScope}
use Rattle.face_typing.specs.Below.TypedFaces.{IsTypedTheory, IsTypedEnvironment}
use Rattle.face_typing.specs.Below.TypedLinks.{HereTyped}

-- What is known of others is well typed, and the theory is so far; both are coherent.
pub record IsTypedOver (environment : Environment) (here : TheoryFace) : Type 0 where
  pub built : IsBuiltOver environment here
  pub known : IsTypedEnvironment environment
  pub so_far : IsTypedTheory environment here

-- The scope of such a theory is well typed, so that what expressions stand for in it is.
abbrev pub BuiltScopesAreTyped : Type 0
BuiltScopesAreTyped = (environment : Environment) (here : TheoryFace) → IsTypedOver environment here → IsTypedScope (scope_in environment here)

-- It is as the laws of typed words ask of the theory that words of its own name speak of.
abbrev pub BuiltTheoriesAreTyped : Type 0
BuiltTheoriesAreTyped = (environment : Environment) (here : TheoryFace) → IsTypedOver environment here → HereTyped environment (Some here)

-- The empty theory is one.
abbrev pub EmptyIsTyped : Type 0
EmptyIsTyped = (environment : Environment) (name : Name) → IsTypedEnvironment environment → IsBuiltOver environment (empty_theory name) → IsTypedOver environment (empty_theory name)

-- One more inclusion of an accepted theory leaves it such.
abbrev pub InclusionsKeepTyped : Type 0
InclusionsKeepTyped =
    (environment : Environment) (here : TheoryFace) (theory : Name) → IsTypedOver environment here → IsSome (theory_of environment theory)
    → IsTypedTheory environment (record here { includes = with_inclusion environment here.includes theory })

-- So does one more constant, whose class is one over what the theory has, and whose value, if it has one, fits the class.
abbrev pub ConstantsKeepTyped : Type 0
ConstantsKeepTyped =
    (environment : Environment) (here : TheoryFace) (name : Name) (class : Class) (value : Option Value) → IsTypedOver environment here
    → IsClass (flat_signature environment here) class → ValueFits (flat_signature environment here) value class
    → IsTypedTheory environment (with_constant here name class value)

-- So does one more structure from an accepted theory, of a name that no structure has, where the passes over its link answer a
-- map; and the map is a typed one from the structure's domain to the theory with the structure.
abbrev pub StructuresKeepTyped : Type 0
StructuresKeepTyped =
    (environment : Environment) (here : TheoryFace) (written : Written) (domain : Name) (assigns : List Assign) (along : HeadMap)
    → IsTypedOver environment here → IsSome (theory_of environment domain) → structure_of here.structures (first_name written.path) ≡ None
    → link_map (structure_setting environment here written domain) assigns ≡ Ok along
    → IsTypedTheory environment (with_structure here (structure_setting environment here written domain) (first_name written.path) along)
    × IsTypedMap (flat_of environment domain) (flat_signature environment (with_structure here (structure_setting environment here written domain) (first_name written.path) along)) along

-- So does every declaration that passes its tests.
abbrev pub DeclarationsKeepTyped : Type 0
DeclarationsKeepTyped =
    (environment : Environment) (here next : TheoryFace) (decl : Decl) → IsTypedOver environment here → declare environment here decl ≡ Ok next
    → IsTypedOver environment next

-- So do all of them, one after another.
abbrev pub AllDeclarationsKeepTyped : Type 0
AllDeclarationsKeepTyped =
    (environment : Environment) (here next : TheoryFace) (decls : List Decl) → IsTypedOver environment here → declare_all environment here decls ≡ Ok next
    → IsTypedOver environment next

-- Where what is known is coherent and well typed, the ends of a view are accepted theories, and the passes over its link answer
-- a map, the map is typed.
abbrev pub ViewsAreTyped : Type 0
ViewsAreTyped =
    (environment : Environment) (written : Written) (domain codomain : Name) (target : TheoryFace) (assigns : List Assign) (along : HeadMap)
    → IsCoherent environment → IsTypedEnvironment environment → IsSome (theory_of environment domain) → theory_of environment codomain ≡ Some target
    → link_map (view_setting environment written domain target codomain) assigns ≡ Ok along
    → IsTypedMap (flat_of environment domain) (flat_of environment codomain) along
