-- What assignments give is what they are read as.
use Rattle.std.proofs.Common.{◌≡◌, List, [], ◌∷◌, is_some, Ok, refl, sym, ap, subst}
use Rattle.name_meaning.specs.Names.{Path}
use Rattle.library_meaning.specs.Faces.{own_part}
use Rattle.library_meaning.specs.Resolution.{own_at}
use Rattle.library_meaning.specs.Words.{Link, RowMeaning, RowMeans, RowFaulty, row_meaning}
use Rattle.text_meaning.specs.Trees.{Written, Assign, IncludeAssign, StructAssign, ConstAssign}
use Rattle.elaborate_meaning.specs.Rules.{Rule}
use Rattle.link_meaning.specs.Refusals.{demand, or_refused}
use Rattle.link_meaning.specs.Assignments.{Setting, Assigned, label_along, word_place, or_word_fault, paths_of, link_of, structure_at, covering_ends, sharing_ends, is_free, read_assign, with_target, read_assigns}
use Rattle.link_meaning.specs.AssignmentsRead.{AssignReads, AssignsRead}
use Rattle.link_laws.specs.LinkLaws.{AssignmentsAreRead}
use Rattle.link_laws.proofs.Covered.{good_same, there_refused}
use Rattle.link_laws.proofs.Valued.{demand_holds, demand_by}
use Rattle.list_laws.proofs.Answers.{came_by, goes_by}

row_means : (words : List Written) (label : Path) (row : RowMeaning) (by : Link) → or_word_fault words label row ≡ Ok by → row ≡ RowMeans by
row_means words label (RowMeans link) by h = ap RowMeans (good_same h)
row_means words label (RowFaulty index fault) by h = absurd (cc)

module _ (setting : Setting) where
  assign_sound : (earlier : List Path) (assign : Assign) (assigned : Assigned) → read_assign setting earlier assign ≡ Ok assigned → AssignReads setting earlier assign assigned
  assign_sound earlier (ConstAssign target value) assigned h =
      let c = came_by (demand (is_some (own_at (own_part setting.environment setting.domain) target.path)) target.span Rule.UnknownTarget (label_along setting target.path)) _ assigned h in
      let f = came_by (demand (is_free earlier target.path) target.span Rule.DoubleAssignment (label_along setting target.path)) _ assigned c.goes in (
        demand_holds (is_some (own_at (own_part setting.environment setting.domain) target.path)) target.span Rule.UnknownTarget (label_along setting target.path) c.item c.came,
        demand_holds (is_free earlier target.path) target.span Rule.DoubleAssignment (label_along setting target.path) f.item f.came,
        sym (good_same f.goes),
      )
  assign_sound earlier (IncludeAssign words) assigned h =
      let l = came_by (link_of setting setting.label words) _ assigned h in
      let e = came_by (demand (covering_ends setting l.item) (word_place words 0) Rule.MorphismEnds setting.label) _ assigned l.goes in (
        l.item,
        row_means words setting.label (row_meaning setting.environment setting.here (paths_of words)) l.item l.came,
        demand_holds (covering_ends setting l.item) (word_place words 0) Rule.MorphismEnds setting.label e.item e.came,
        sym (good_same e.goes),
      )
  assign_sound earlier (StructAssign target words) assigned h =
      let s = came_by (or_refused (structure_at setting target.path) target.span Rule.UnknownTarget (label_along setting target.path)) _ assigned h in
      let f = came_by (demand (is_free earlier target.path) target.span Rule.DoubleAssignment (label_along setting target.path)) _ assigned s.goes in
      let l = came_by (link_of setting (label_along setting target.path) words) _ assigned f.goes in
      let e = came_by (demand (sharing_ends setting s.item l.item) (word_place words 0) Rule.MorphismEnds (label_along setting target.path)) _ assigned l.goes in (
        s.item,
        l.item,
        there_refused (structure_at setting target.path) target.span Rule.UnknownTarget (label_along setting target.path) s.item s.came,
        demand_holds (is_free earlier target.path) target.span Rule.DoubleAssignment (label_along setting target.path) f.item f.came,
        row_means words (label_along setting target.path) (row_meaning setting.environment setting.here (paths_of words)) l.item l.came,
        demand_holds (sharing_ends setting s.item l.item) (word_place words 0) Rule.MorphismEnds (label_along setting target.path) e.item e.came,
        sym (good_same e.goes),
      )

  assign_complete : (earlier : List Path) (assign : Assign) (assigned : Assigned) → AssignReads setting earlier assign assigned → read_assign setting earlier assign ≡ Ok assigned
  assign_complete earlier (ConstAssign target value) assigned r =
      goes_by (demand (is_some (own_at (own_part setting.environment setting.domain) target.path)) target.span Rule.UnknownTarget (label_along setting target.path)) _ tt assigned
      (demand_by (is_some (own_at (own_part setting.environment setting.domain) target.path)) target.span Rule.UnknownTarget (label_along setting target.path) r.0)
      (goes_by (demand (is_free earlier target.path) target.span Rule.DoubleAssignment (label_along setting target.path)) _ tt assigned
      (demand_by (is_free earlier target.path) target.span Rule.DoubleAssignment (label_along setting target.path) r.1) (ap Ok (sym r.2)))
  assign_complete earlier (IncludeAssign words) assigned r =
      goes_by (link_of setting setting.label words) _ r.0 assigned (ap (or_word_fault words setting.label) r.1)
      (goes_by (demand (covering_ends setting r.0) (word_place words 0) Rule.MorphismEnds setting.label) _ tt assigned
      (demand_by (covering_ends setting r.0) (word_place words 0) Rule.MorphismEnds setting.label r.2) (ap Ok (sym r.3)))
  assign_complete earlier (StructAssign target words) assigned r =
      goes_by (or_refused (structure_at setting target.path) target.span Rule.UnknownTarget (label_along setting target.path)) _ r.0 assigned
      (ap (λ o. or_refused o target.span Rule.UnknownTarget (label_along setting target.path)) r.2)
      (goes_by (demand (is_free earlier target.path) target.span Rule.DoubleAssignment (label_along setting target.path)) _ tt assigned
      (demand_by (is_free earlier target.path) target.span Rule.DoubleAssignment (label_along setting target.path) r.3)
      (goes_by (link_of setting (label_along setting target.path) words) _ r.1 assigned (ap (or_word_fault words (label_along setting target.path)) r.4)
      (goes_by (demand (sharing_ends setting r.0 r.1) (word_place words 0) Rule.MorphismEnds (label_along setting target.path)) _ tt assigned
      (demand_by (sharing_ends setting r.0 r.1) (word_place words 0) Rule.MorphismEnds (label_along setting target.path) r.5) (ap Ok (sym r.6)))))

  pub assigns_sound : (earlier : List Path) (assigns : List Assign) (assigned : List Assigned) → read_assigns setting earlier assigns ≡ Ok assigned → AssignsRead setting earlier assigns assigned
  unfolding read_assigns
  assigns_sound earlier [] [] h = tt
  assigns_sound earlier [] (first ∷ rest) h = let e = good_same h in absurd (cc)
  assigns_sound earlier (assign ∷ assigns) assigned h =
      let c = came_by (read_assign setting earlier assign) _ assigned h in
      let r = came_by (read_assigns setting (with_target earlier assign) assigns) _ assigned c.goes in
      subst (AssignsRead setting earlier (assign ∷ assigns)) (good_same r.goes) (assign_sound earlier assign c.item c.came, assigns_sound (with_target earlier assign) assigns r.item r.came)

  pub assigns_complete : (earlier : List Path) (assigns : List Assign) (assigned : List Assigned) → AssignsRead setting earlier assigns assigned → read_assigns setting earlier assigns ≡ Ok assigned
  unfolding read_assigns
  assigns_complete earlier [] [] r = refl
  assigns_complete earlier [] (first ∷ rest) r = absurd r
  assigns_complete earlier (assign ∷ assigns) [] r = absurd r
  assigns_complete earlier (assign ∷ assigns) (first ∷ rest) r =
      goes_by (read_assign setting earlier assign) _ first (first ∷ rest) (assign_complete earlier assign first r.0)
      (goes_by (read_assigns setting (with_target earlier assign) assigns) _ rest (first ∷ rest) (assigns_complete (with_target earlier assign) assigns rest r.1) refl)

pub assignments_are_read : AssignmentsAreRead
assignments_are_read setting assigns assigned = (assigns_sound setting [] assigns assigned, assigns_complete setting [] assigns assigned)
