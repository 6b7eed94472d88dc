-- The map of a link while it is made (this profile). An assigned value stands at a class that is translated along what there is
-- of the map, so it may hold constants that the structure has induced so far.
use Rattle.std.specs.Prelude.{◌≡◌, false, List, [], ◌++◌, Some, Ok, IsSome}
use Rattle.name_meaning.specs.Names.{Name}
use Rattle.lf_meaning.specs.Signatures.{Signature}
use Rattle.lf_meaning.specs.HeadMaps.{HeadMap}
use Rattle.library_meaning.specs.Faces.{TheoryFace, Environment, theory_of, flat_of}
use Rattle.library_meaning.specs.Coherence.{DeclarationsHold, IsCoherentMap, IsCoherent}
use Rattle.text_meaning.specs.Trees.{Written, Assign, first_name}
use Rattle.link_meaning.specs.Assignments.{Setting, Assigned, read_assigns}
use Rattle.link_meaning.specs.Passes.{map_all}
use Rattle.verdict_meaning.specs.Modules.{is_used, structure_setting, view_setting}
use Rattle.constant_laws.specs.ExpansionHolds.{scope_signature, NamesOnce}
use Rattle.coherence_laws.specs.BuildingLaws.{IsBuiltOver}

-- Behind the scope's constants stand those that were induced so far, each name once, over what stands before it; and the map is
-- a coherent one from the constants that were met to all these.
pub record MapHoldsSoFar (setting : Setting) (met : Signature) (along : HeadMap) : Type 0 where
  pub induced : Signature
  pub declarations : DeclarationsHold (scope_signature setting.scope ++ induced)
  pub once : NamesOnce (scope_signature setting.scope ++ induced)
  pub map_is : IsCoherentMap met (scope_signature setting.scope ++ induced) along

-- So it is, where the third pass over a new structure has met a beginning of the domain's constants.
abbrev pub StructuresHoldSoFar : Type 0
StructuresHoldSoFar =
    (environment : Environment) (here : TheoryFace) (written : Written) (domain : Name) (assigns : List Assign) (assigned : List Assigned) (met later : Signature) (along : HeadMap)
    → IsBuiltOver environment here → IsSome (theory_of environment domain) → is_used here (first_name written.path) ≡ false
    → read_assigns (structure_setting environment here written domain) [] assigns ≡ Ok assigned
    → flat_of environment domain ≡ met ++ later → map_all (structure_setting environment here written domain) assigned [] met ≡ Ok along
    → MapHoldsSoFar (structure_setting environment here written domain) met along

-- So it is with a view between accepted theories.
abbrev pub ViewsHoldSoFar : Type 0
ViewsHoldSoFar =
    (environment : Environment) (written : Written) (domain codomain : Name) (target : TheoryFace) (assigns : List Assign) (assigned : List Assigned) (met later : Signature) (along : HeadMap)
    → IsCoherent environment → IsSome (theory_of environment domain) → theory_of environment codomain ≡ Some target
    → read_assigns (view_setting environment written domain target codomain) [] assigns ≡ Ok assigned
    → flat_of environment domain ≡ met ++ later → map_all (view_setting environment written domain target codomain) assigned [] met ≡ Ok along
    → MapHoldsSoFar (view_setting environment written domain target codomain) met along
