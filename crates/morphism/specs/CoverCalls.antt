-- What a call of the second pass alone asks for and answers, in the words of the definitions (this profile).
use Rattle.std.specs.Prelude.{◌≡◌, ◌⊎◌, List, [], Option, Some, None, IsSome, ⊤}
use Rattle.name_meaning.specs.Names.{Name}
use Rattle.lf_meaning.specs.HeadMaps.{HeadMap}
use Rattle.text_meaning.specs.Trees.{Written, Assign}
use Rattle.library_meaning.specs.Faces as faces
use Rattle.library_meaning.specs.Faces.{theory_of, includes_of}
use Rattle.elaborate_meaning.specs.Rules as rules
use Rattle.answer_meaning.specs.Answers.{◌>>=◌}
use Rattle.link_meaning.specs.Refusals.{Outcome}
use Rattle.link_meaning.specs.Assignments.{Setting, read_assigns}
use Rattle.link_meaning.specs.CoveringMaps.{covering_map}
use Rattle.mmt_interface.specs.ReadRules.{read_rule}
use Rattle.link_passes.specs.Below.LinkFault.{LinkFault}
use Rattle.link_passes.specs.Below.TheVariants.{Broken, Memory}

-- A link between these theories, of which the codomain includes these so far. It has this name, at its place; no value stands in it.
abbrev pub link_between : faces.Environment → Option faces.TheoryFace → Name → Name → List Name → Written → Setting
link_between environment here domain codomain seen at =
    record {
      environment = environment;
      here = here;
      domain = domain;
      codomain = codomain;
      scope = record { own = []; includes = seen; environment = environment };
      structure = None;
      span = at.span;
      label = at.path;
    }

-- The first pass over a link and then the second.
abbrev pub first_passes : Setting → List Assign → Outcome HeadMap
first_passes setting assigns = read_assigns setting [] assigns >>= covering_map setting

-- The codomain is the theory that is being built or, where there is none, an accepted one.
abbrev pub IsCodomain : faces.Environment → Option faces.TheoryFace → Name → Type 0
IsCodomain environment None codomain = IsSome (theory_of environment codomain)
IsCodomain environment (Some here) codomain = codomain ≡ here.name

-- These are the theories that the codomain includes, the theory that is being built so far.
abbrev pub AreSeen : faces.Environment → Option faces.TheoryFace → Name → List Name → Type 0
AreSeen environment None codomain seen = seen ≡ includes_of (theory_of environment codomain)
AreSeen environment (Some here) codomain seen = seen ≡ here.includes

-- A theory is not covered, or two coverings disagree; or it is want of memory.
abbrev pub BreaksCoveringRule : LinkFault → Type 0
BreaksCoveringRule (Broken refusal) = (read_rule refusal.rule ≡ rules.Rule.IncludeNotCovered) ⊎ (read_rule refusal.rule ≡ rules.Rule.MorphismsDisagree)
BreaksCoveringRule Memory = ⊤
