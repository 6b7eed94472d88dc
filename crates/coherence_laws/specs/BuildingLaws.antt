-- Laws of a theory that is being built (this profile). It stands over what is known of others; no library is spoken of.
use Rattle.std.specs.Prelude.{◌≡◌, false, List, Option, Some, Ok, IsSome}
use Rattle.name_meaning.specs.Names.{Name}
use Rattle.lf_meaning.specs.Signatures.{Class, Value}
use Rattle.lf_meaning.specs.HeadMaps.{HeadMap}
use Rattle.library_meaning.specs.Faces.{TheoryFace, IsAbsent, Environment, theory_of, flat_signature}
use Rattle.library_meaning.specs.Closure.{with_inclusion}
use Rattle.library_meaning.specs.Holding.{ClassHolds, OptionalValueHolds}
use Rattle.library_meaning.specs.Coherence.{IsCoherentTheory, IsCoherentView, IsCoherent}
use Rattle.text_meaning.specs.Trees.{Written, Assign, Decl, first_name}
use Rattle.link_meaning.specs.Passes.{link_map}
use Rattle.link_meaning.specs.Induced.{with_structure}
use Rattle.verdict_meaning.specs.Modules.{scope_in, is_used, with_constant, structure_setting, view_setting, declare, declare_all, empty_theory}
use Rattle.constant_laws.specs.ExpansionHolds.{ScopeHolds}
use Rattle.link_laws.specs.LinkTargets.{HereHolds}

-- What is known of others is coherent, nothing is known of the theory itself, and it is coherent so far.
pub record IsBuiltOver (environment : Environment) (here : TheoryFace) : Type 0 where
  pub known : IsCoherent environment
  pub absent : environment here.name ≡ IsAbsent
  pub so_far : IsCoherentTheory environment here.name here

-- The scope of such a theory holds, so that what expressions stand for in it does.
abbrev pub BuiltScopesHold : Type 0
BuiltScopesHold = (environment : Environment) (here : TheoryFace) → IsBuiltOver environment here → ScopeHolds (scope_in environment here)

-- It is as the laws of words ask of the theory that words of its own name speak of.
abbrev pub BuiltTheoriesHold : Type 0
BuiltTheoriesHold = (environment : Environment) (here : TheoryFace) → IsBuiltOver environment here → HereHolds environment (Some here)

-- The empty theory is one.
abbrev pub EmptyIsBuilt : Type 0
EmptyIsBuilt = (environment : Environment) (name : Name) → IsCoherent environment → environment name ≡ IsAbsent → IsBuiltOver environment (empty_theory name)

-- One more inclusion of an accepted theory leaves it such.
abbrev pub InclusionsKeepBuilt : Type 0
InclusionsKeepBuilt =
    (environment : Environment) (here : TheoryFace) (theory : Name) → IsBuiltOver environment here → IsSome (theory_of environment theory)
    → IsBuiltOver environment (record here { includes = with_inclusion environment here.includes theory })

-- So does one more constant of an unused name, whose class and value hold constants of the theory alone.
abbrev pub ConstantsKeepBuilt : Type 0
ConstantsKeepBuilt =
    (environment : Environment) (here : TheoryFace) (name : Name) (class : Class) (value : Option Value) → IsBuiltOver environment here → is_used here name ≡ false
    → ClassHolds (flat_signature environment here) class → OptionalValueHolds (flat_signature environment here) class value
    → IsBuiltOver environment (with_constant here name class value)

-- So does one more structure of an unused name from an accepted theory, where the passes over its link answer a map.
abbrev pub StructuresKeepBuilt : Type 0
StructuresKeepBuilt =
    (environment : Environment) (here : TheoryFace) (written : Written) (domain : Name) (assigns : List Assign) (along : HeadMap)
    → IsBuiltOver environment here → IsSome (theory_of environment domain) → is_used here (first_name written.path) ≡ false
    → link_map (structure_setting environment here written domain) assigns ≡ Ok along
    → IsBuiltOver environment (with_structure here (structure_setting environment here written domain) (first_name written.path) along)

-- So does every declaration that passes its tests, and the name stays.
abbrev pub DeclarationsKeepBuilt : Type 0
DeclarationsKeepBuilt =
    (environment : Environment) (here next : TheoryFace) (decl : Decl) → IsBuiltOver environment here → declare environment here decl ≡ Ok next
    → IsBuiltOver environment next × (next.name ≡ here.name)

-- So do all of them, one after another.
abbrev pub AllDeclarationsKeepBuilt : Type 0
AllDeclarationsKeepBuilt =
    (environment : Environment) (here next : TheoryFace) (decls : List Decl) → IsBuiltOver environment here → declare_all environment here decls ≡ Ok next
    → IsBuiltOver environment next × (next.name ≡ here.name)

-- Where what is known is coherent, the ends of a view are accepted theories, and the passes over its link answer a map, the
-- view's face is coherent.
abbrev pub ViewsAreCoherent : Type 0
ViewsAreCoherent =
    (environment : Environment) (written : Written) (domain codomain : Name) (target : TheoryFace) (assigns : List Assign) (along : HeadMap)
    → IsCoherent environment → IsSome (theory_of environment domain) → theory_of environment codomain ≡ Some target
    → link_map (view_setting environment written domain target codomain) assigns ≡ Ok along
    → IsCoherentView environment (first_name written.path) (record { name = first_name written.path; domain = domain; codomain = codomain; map = along })
