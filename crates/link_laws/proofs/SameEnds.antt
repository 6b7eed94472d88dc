-- What assignments give, and the second pass, depend on the ends of a link alone.
use Rattle.std.proofs.Common.{◌≡◌, List, [], ◌∷◌, ◌++◌, refl, ap, ◌∙◌, subst}
use Rattle.name_meaning.specs.Names.{Name, Path}
use Rattle.lf_meaning.specs.Signatures.{Value, Declaration, Signature}
use Rattle.lf_meaning.specs.HeadMaps.{HeadMap}
use Rattle.text_meaning.specs.Trees.{Assign, IncludeAssign, StructAssign, ConstAssign}
use Rattle.link_meaning.specs.Assignments.{Setting, Assigned, with_target}
use Rattle.link_meaning.specs.AssignmentsRead.{AssignReads, AssignsRead}
use Rattle.answer_meaning.specs.Answers.{◌>>=◌}
use Rattle.link_meaning.specs.Coverings.{covered_tests, covering_value}
use Rattle.link_meaning.specs.Passes.{mapping_to}
use Rattle.link_meaning.specs.Equations.{IsCovering, ByIdentity, ByAssignment, CoveringsGive}
use Rattle.link_meaning.specs.CoveringMaps.{included_part, cover_all, covering_map, MeetsCoverings, HaveSameEnds}
use Rattle.link_laws.specs.CoveringLaws.{ReadingKeepsToEnds, CoveringsKeepToEnds, CoveringMapKeepsToEnds}

-- the ends of one link, and all else of another
abbrev ends_of : Setting → Setting → Setting
ends_of setting other =
    record {
      environment = setting.environment;
      here = setting.here;
      domain = setting.domain;
      codomain = setting.codomain;
      scope = record { own = other.scope.own; includes = setting.scope.includes; environment = other.scope.environment };
      structure = other.structure;
      span = other.span;
      label = other.label;
    }

same_ends : (setting other : Setting) → HaveSameEnds setting other → ends_of setting other ≡ other
same_ends setting other h = λ i.
    record {
      environment = h.environment i;
      here = h.here i;
      domain = h.domain i;
      codomain = h.codomain i;
      scope = record { own = other.scope.own; includes = h.includes i; environment = other.scope.environment };
      structure = other.structure;
      span = other.span;
      label = other.label;
    }

module _ (setting other : Setting) where
  one_reads : (earlier : List Path) (assign : Assign) (given : Assigned) → AssignReads setting earlier assign given → AssignReads (ends_of setting other) earlier assign given
  one_reads earlier (ConstAssign target value) given h = h
  one_reads earlier (IncludeAssign words) given h = h
  one_reads earlier (StructAssign target words) given h = h

  all_read : (earlier : List Path) (assigns : List Assign) (assigned : List Assigned) → AssignsRead setting earlier assigns assigned → AssignsRead (ends_of setting other) earlier assigns assigned
  all_read earlier [] [] h = tt
  all_read earlier [] (first ∷ rest) h = absurd h
  all_read earlier (assign ∷ assigns) [] h = absurd h
  all_read earlier (assign ∷ assigns) (first ∷ rest) h = (one_reads earlier assign first h.0, all_read (with_target earlier assign) assigns rest h.1)

  module _ (assigned : List Assigned) where
    covers : (theory : Name) (along : HeadMap) → IsCovering setting assigned theory along → IsCovering (ends_of setting other) assigned theory along
    covers theory along (ByIdentity i e) = ByIdentity i e
    covers theory along (ByAssignment place first by s t e) = ByAssignment place first by s t e

    covers_back : (theory : Name) (along : HeadMap) → IsCovering (ends_of setting other) assigned theory along → IsCovering setting assigned theory along
    covers_back theory along (ByIdentity i e) = ByIdentity i e
    covers_back theory along (ByAssignment place first by s t e) = ByAssignment place first by s t e

    gives : (d : Declaration) (value : Value) → CoveringsGive setting assigned d value → CoveringsGive (ends_of setting other) assigned d value
    gives d value g =
        record {
          covered = (g.covered.0, covers d.name.theory g.covered.0 g.covered.1);
          give = λ along c. g.give along (covers_back d.name.theory along c);
        }

    meets : (along : HeadMap) → MeetsCoverings setting assigned along → MeetsCoverings (ends_of setting other) assigned along
    meets along m =
        record {
          names = m.names;
          classes = m.classes;
          values = λ i x d p q. gives d x.image.value (m.values i x d p q);
          covered = λ theory s. (let c = m.covered theory s in (c.0, covers theory c.0 c.1));
        }

pub reading_keeps_to_ends : ReadingKeepsToEnds
reading_keeps_to_ends setting other earlier assigns assigned h r =
    subst (λ (z : Setting). AssignsRead z earlier assigns assigned) (same_ends setting other h) (all_read setting other earlier assigns assigned r)

pub coverings_keep_to_ends : CoveringsKeepToEnds
coverings_keep_to_ends setting other assigned along h m =
    subst (λ (z : Setting). MeetsCoverings z assigned along) (same_ends setting other h) (meets setting other assigned along m)

-- the ends of one link with its place and label, and all else of another
abbrev place_of : Setting → Setting → Setting
place_of setting other = record (ends_of setting other) { span = setting.span; label = setting.label }

placed_alike : (setting other : Setting) → HaveSameEnds setting other → setting.span ≡ other.span → setting.label ≡ other.label → place_of setting other ≡ other
placed_alike setting other h p q = λ i.
    record {
      environment = h.environment i;
      here = h.here i;
      domain = h.domain i;
      codomain = h.codomain i;
      scope = record { own = other.scope.own; includes = h.includes i; environment = other.scope.environment };
      structure = other.structure;
      span = p i;
      label = q i;
    }

all_covered : (setting other : Setting) (assigned : List Assigned) (so_far : HeadMap) (ds : Signature) → cover_all setting assigned so_far ds ≡ cover_all (place_of setting other) assigned so_far ds
unfolding cover_all
all_covered setting other assigned so_far [] = refl
all_covered setting other assigned so_far (d ∷ ds) = λ i. covering_value setting assigned d >>= (λ value. all_covered setting other assigned (so_far ++ mapping_to so_far d value ∷ []) ds i)

tests_alike : (setting other : Setting) (assigned : List Assigned) → covered_tests setting assigned ≡ covered_tests (place_of setting other) assigned
unfolding covered_tests
tests_alike setting other assigned = refl

pub covering_map_keeps_to_ends : CoveringMapKeepsToEnds
unfolding covering_map
covering_map_keeps_to_ends setting other assigned h p q =
    let e : place_of setting other ≡ other = placed_alike setting other h p q in
    (tests_alike setting other assigned ∙ ap (λ (z : Setting). covered_tests z assigned) e, maps_alike ∙ ap (λ (z : Setting). covering_map z assigned) e)
  where
    maps_alike : covering_map setting assigned ≡ covering_map (place_of setting other) assigned
    maps_alike = λ i. tests_alike setting other assigned i >>= (λ done. all_covered setting other assigned [] (included_part setting) i)
