-- The second pass over a link: which links cover the theories that its domain includes (this profile: a structure or a view
-- shares what its domain includes, and does not copy it).
use Rattle.std.specs.Prelude.{Bool, true, false, List, [], ◌∷◌, ◌&&◌, ◌||◌, is_some, filter_map, find, Option, Some, None, Ok, ⊤}
use Rattle.std.specs.List.{list_any}
use Rattle.name_meaning.specs.Names.{Name}
use Rattle.lf_meaning.specs.Terms.{Constant}
use Rattle.lf_meaning.specs.Signatures.{Value, Declaration}
use Rattle.lf_meaning.specs.HeadMaps.{HeadMap}
use Rattle.elaborate_meaning.specs.Below.Differ.{value_in, differ}
use Rattle.library_meaning.specs.Faces.{Environment, theory_of, includes_of, own_part}
use Rattle.library_meaning.specs.Closure.{sees}
use Rattle.library_meaning.specs.Words.{identity_map}
use Rattle.text_meaning.specs.Tokens.{Span}
use Rattle.elaborate_meaning.specs.Rules.{Rule}
use Rattle.answer_meaning.specs.Answers.{◌>>=◌}
use Rattle.link_meaning.specs.Refusals.{Outcome, refused, or_refused, each}
use Rattle.link_meaning.specs.Assignments.{Setting, is_or_includes, codomain_sees, included_theories, Assigned, Covering, Sharing, Giving}

-- The map of a covering assignment, and the place of its first word.
pub record Cover : Type 0 where
  pub first : Span
  pub map : HeadMap

-- This map, with the place of its first word, where it covers.
abbrev pub cover_if : Bool → Span → HeadMap → Option Cover
cover_if true first map = Some (record { first = first; map = map })
cover_if false first map = None

-- What an assignment covers a theory by, if it does: it is an inclusion, and its link is from that theory, or from one
-- that includes it.
abbrev pub cover_by : Environment → Name → Assigned → Option Cover
cover_by environment theory (Covering first by) = cover_if (is_or_includes environment by.domain theory) first by.map
cover_by environment theory (Sharing target structure first by) = None
cover_by environment theory (Giving target value) = None

-- The covering assignments of a theory, in the order of the text.
abbrev pub covers_of : Setting → List Assigned → Name → List Cover
covers_of setting assigned theory = filter_map (cover_by setting.environment theory) assigned

-- There are none.
abbrev pub is_none_of : List Cover → Bool
is_none_of [] = true
is_none_of (cover ∷ covers) = false

-- No assignment covers the theory, and the codomain sees it: the identity covers it.
abbrev pub identity_covers : Setting → List Assigned → Name → Bool
identity_covers setting assigned theory = is_none_of (covers_of setting assigned theory) && codomain_sees setting theory

-- The identity is a covering of the theory: it covers it, or a theory that includes it.
abbrev pub is_identity_covering : Setting → List Assigned → Name → Bool
is_identity_covering setting assigned theory =
    identity_covers setting assigned theory
    || list_any (λ (other : Name). identity_covers setting assigned other && sees (includes_of (theory_of setting.environment other)) theory) (included_theories setting)

-- The map of the identity on the own constants of a theory.
abbrev pub identity_on : Setting → Name → HeadMap
identity_on setting theory = identity_map (own_part setting.environment theory)

-- The map of the first one.
abbrev pub first_map : List Cover → Option HeadMap
first_map [] = None
first_map (cover ∷ covers) = Some cover.map

-- The identity, or the first assignment that covers.
abbrev pub covering_by : Setting → List Assigned → Name → Bool → Option HeadMap
covering_by setting assigned theory true = Some (identity_on setting theory)
covering_by setting assigned theory false = first_map (covers_of setting assigned theory)

-- The covering with which the others are compared: the identity where it is one, else the first assignment.
abbrev pub first_covering : Setting → List Assigned → Name → Option HeadMap
first_covering setting assigned theory = covering_by setting assigned theory (is_identity_covering setting assigned theory)

-- The covering assignment gives other values to own constants of the theory than this map does.
abbrev pub disagrees : Setting → Name → HeadMap → Cover → Bool
disagrees setting theory along cover = is_some (differ along cover.map (own_part setting.environment theory))

-- The refusal at the first one that disagrees.
abbrev pub none_disagrees : Setting → Option Cover → Outcome ⊤
none_disagrees setting None = Ok tt
none_disagrees setting (Some cover) = refused cover.first Rule.MorphismsDisagree setting.label

-- The theory has a covering, and all its coverings agree.
abbrev pub covered_test : Setting → List Assigned → Name → Outcome ⊤
covered_test setting assigned theory = do
  along ← or_refused (first_covering setting assigned theory) setting.span Rule.IncludeNotCovered (theory ∷ [])
  none_disagrees setting (find (disagrees setting theory along) (covers_of setting assigned theory))

-- The tests of all theories that the domain includes, in order.
unfoldable pub covered_tests : Setting → List Assigned → Outcome ⊤
covered_tests setting assigned = each (covered_test setting assigned) (included_theories setting)

-- What the map gives, if there is one.
abbrev pub value_by : Option HeadMap → Constant → Option Value
value_by None constant = None
value_by (Some along) constant = value_in along constant

-- The value that the coverings of its theory give to a constant.
abbrev pub covered_value : Setting → List Assigned → Declaration → Option Value
covered_value setting assigned declaration = value_by (first_covering setting assigned declaration.name.theory) declaration.name

-- This value, or the refusal where there is none.
abbrev pub covering_value : Setting → List Assigned → Declaration → Outcome Value
covering_value setting assigned declaration = or_refused (covered_value setting assigned declaration) setting.span Rule.IncludeNotCovered (declaration.name.theory ∷ [])
