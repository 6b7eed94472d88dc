-- The refusals of links stand at their names and assignments, and break the rules of links.
use Rattle.std.proofs.Common.{◌≡◌, ℕ, zero, suc, Bool, true, false, List, [], ◌∷◌, ◌++◌, find, is_some, Option, Some, None, option_map, Ok, inl, inr, refl, sym, subst}
use Rattle.std.specs.Prelude.{⊤}
use Rattle.std.specs.List.{list_all}
use Rattle.std.proofs.lemmas.Option.{same_Some}
use Rattle.name_meaning.specs.Names.{Name, Path}
use Rattle.lf_meaning.specs.Signatures.{Class, Value, Declaration, Signature}
use Rattle.lf_meaning.specs.HeadMaps.{HeadMap}
use Rattle.translation_meaning.specs.Translation.{translate_class, translate_value}
use Rattle.translation_meaning.specs.Differ.{value_in}
use Rattle.list_laws.proofs.Members.{Member, find_found, in_filter_map}
use Rattle.list_laws.proofs.Answers.{came_by, ok_same}
use Rattle.library_meaning.specs.Faces.{theory_of, includes_of, own_part, own_parts, flat_of}
use Rattle.library_meaning.specs.Resolution.{own_at}
use Rattle.library_meaning.specs.Words.{Link, UnknownModule, RefusedModule, WrongKind, UnknownStructure, EndsApart, RowMeaning, RowMeans, RowFaulty, row_meaning}
use Rattle.text_meaning.specs.Tokens.{Span}
use Rattle.text_meaning.specs.Trees.{Expr, Written, Assign, IncludeAssign, StructAssign, ConstAssign}
use Rattle.elaborate_meaning.specs.Rules.{Rule}
use Rattle.elaborate_meaning.specs.Expansion.{span_of}
use Rattle.elaborate_meaning.specs.Values.{expand_value}
use Rattle.link_meaning.specs.Refusals.{Outcome, labelled, demand, or_refused, each}
use Rattle.link_meaning.specs.Assignments.{Setting, is_or_includes, included_theories, Assigned, Covering, Sharing, Giving, label_along, word_place, or_word_fault, paths_of, link_of, structure_at, covering_ends, sharing_ends, is_free, read_assign, with_target, read_assigns}
use Rattle.link_meaning.specs.Coverings.{Cover, cover_if, cover_by, covers_of, first_covering, disagrees, none_disagrees, covered_test, covered_tests, covered_value}
use Rattle.link_meaning.specs.Passes.{rest_behind, Reached, ByNone, ByValue, ByStructure, by_rest, by_equal, equal_paths, reached_by, is_definition, copied_value, unassigned_value, constant_in, own_image, is_own, image_by, image_value, mapping_to, map_all, shares, shared_test, assigned_map, link_map}
use Rattle.span_meaning.specs.Spans.{ExprStands, WordsStand, AssignStands, AssignsStand}
use Rattle.fault_laws.specs.RulesBroken.{expression_rules, pass_rules, link_rules, Refuses}
use Rattle.fault_laws.proofs.Telling.{refuses_then, refuses_test, refuses_there, refuses_each, refuses_labelled}
use Rattle.fault_laws.proofs.ExpressionFaults.{span_stands, value_faults}

module _ (P : Span → Type 0) (nowhere : P (record { from = 0; to = 0 })) where
  word_stands : (words : List Written) (i : ℕ) → WordsStand P words → P (word_place words i)
  word_stands [] i h = nowhere
  word_stands (w ∷ words) zero h = h.0
  word_stands (w ∷ words) (suc i) h = word_stands words i h.1

  -- ---- what assignments give

  abbrev pub AssignedStands : Assigned → Type 0
  AssignedStands (Covering first by) = P first
  AssignedStands (Sharing target structure first by) = P first
  AssignedStands (Giving target value) = ExprStands P value

  abbrev pub AllStand : List Assigned → Type 0
  AllStand [] = ⊤
  AllStand (a ∷ assigned) = AssignedStands a × AllStand assigned

  stands_at : (assigned : List Assigned) (a : Assigned) → AllStand assigned → Member a assigned → AssignedStands a
  stands_at [] a h m = absurd m
  stands_at (x ∷ assigned) a h (inl e) = subst AssignedStands (sym e) h.0
  stands_at (x ∷ assigned) a h (inr m) = stands_at assigned a h.1 m

  abbrev pub ReachedStands : Reached → Type 0
  ReachedStands ByNone = ⊤
  ReachedStands (ByValue target value) = ExprStands P value
  ReachedStands (ByStructure target rest structure first by) = P first

  rest_stands : (target : Path) (structure : Link) (first : Span) (by : Link) (o : Option Path) (otherwise : Reached) → P first → ReachedStands otherwise → ReachedStands (by_rest target structure first by o otherwise)
  rest_stands target structure first by None otherwise p h = h
  rest_stands target structure first by (Some rest) otherwise p h = p

  equal_stands : (b : Bool) (target : Path) (value : Expr) (otherwise : Reached) → ExprStands P value → ReachedStands otherwise → ReachedStands (by_equal b target value otherwise)
  equal_stands true target value otherwise p h = p
  equal_stands false target value otherwise p h = h

  reached_stands : (assigned : List Assigned) (path : Path) → AllStand assigned → ReachedStands (reached_by assigned path)
  unfolding reached_by
  reached_stands [] path h = tt
  reached_stands (Covering first by ∷ assigned) path h = reached_stands assigned path h.1
  reached_stands (Sharing target structure first by ∷ assigned) path h = rest_stands target structure first by (rest_behind target path) (reached_by assigned path) h.0 (reached_stands assigned path h.1)
  reached_stands (Giving target value ∷ assigned) path h = equal_stands (equal_paths target path) target value (reached_by assigned path) h.0 (reached_stands assigned path h.1)

  module _ (setting : Setting) (named : P setting.span) where
    abbrev rules : List Rule
    rules = link_rules setting.structure

    abbrev Tested : {A : Type 0} → Outcome A → Type 0
    Tested outcome = Refuses P rules outcome

    -- ---- the first pass

    row_refuses : (words : List Written) (label : Path) (row : RowMeaning) → WordsStand P words → Tested (or_word_fault words label row)
    row_refuses words label (RowMeans link) h = tt
    row_refuses words label (RowFaulty i UnknownModule) h = (word_stands words i h, refl)
    row_refuses words label (RowFaulty i RefusedModule) h = (word_stands words i h, refl)
    row_refuses words label (RowFaulty i WrongKind) h = (word_stands words i h, refl)
    row_refuses words label (RowFaulty i UnknownStructure) h = (word_stands words i h, refl)
    row_refuses words label (RowFaulty i EndsApart) h = (word_stands words i h, refl)

    link_refuses : (label : Path) (words : List Written) → WordsStand P words → Tested (link_of setting label words)
    link_refuses label words h = row_refuses words label (row_meaning setting.environment setting.here (paths_of words)) h

    assign_refuses : (earlier : List Path) (assign : Assign) → AssignStands P assign → Tested (read_assign setting earlier assign)
    assign_refuses earlier (ConstAssign target value) h =
        refuses_then P rules (demand (is_some (own_at (own_part setting.environment setting.domain) target.path)) target.span Rule.UnknownTarget (label_along setting target.path)) _
        (refuses_test P rules (is_some (own_at (own_part setting.environment setting.domain) target.path)) target.span Rule.UnknownTarget (label_along setting target.path) h.0 refl)
        (λ done e. refuses_then P rules (demand (is_free earlier target.path) target.span Rule.DoubleAssignment (label_along setting target.path)) _
        (refuses_test P rules (is_free earlier target.path) target.span Rule.DoubleAssignment (label_along setting target.path) h.0 refl) (λ also g. tt))
    assign_refuses earlier (IncludeAssign words) h =
        refuses_then P rules (link_of setting setting.label words) _ (link_refuses setting.label words h)
        (λ by e. refuses_then P rules (demand (covering_ends setting by) (word_place words 0) Rule.MorphismEnds setting.label) _
        (refuses_test P rules (covering_ends setting by) (word_place words 0) Rule.MorphismEnds setting.label (word_stands words 0 h) refl) (λ done g. tt))
    assign_refuses earlier (StructAssign target words) h =
        refuses_then P rules (or_refused (structure_at setting target.path) target.span Rule.UnknownTarget (label_along setting target.path)) _
        (refuses_there P rules (structure_at setting target.path) target.span Rule.UnknownTarget (label_along setting target.path) h.0 refl)
        (λ structure e. refuses_then P rules (demand (is_free earlier target.path) target.span Rule.DoubleAssignment (label_along setting target.path)) _
        (refuses_test P rules (is_free earlier target.path) target.span Rule.DoubleAssignment (label_along setting target.path) h.0 refl)
        (λ done g. refuses_then P rules (link_of setting (label_along setting target.path) words) _ (link_refuses (label_along setting target.path) words h.1)
        (λ by k. refuses_then P rules (demand (sharing_ends setting structure by) (word_place words 0) Rule.MorphismEnds (label_along setting target.path)) _
        (refuses_test P rules (sharing_ends setting structure by) (word_place words 0) Rule.MorphismEnds (label_along setting target.path) (word_stands words 0 h.1) refl) (λ also l. tt))))

    assign_gives : (earlier : List Path) (assign : Assign) (a : Assigned) → AssignStands P assign → read_assign setting earlier assign ≡ Ok a → AssignedStands a
    assign_gives earlier (ConstAssign target value) a h e =
        let c = came_by (demand (is_some (own_at (own_part setting.environment setting.domain) target.path)) target.span Rule.UnknownTarget (label_along setting target.path)) _ a e in
        let f = came_by (demand (is_free earlier target.path) target.span Rule.DoubleAssignment (label_along setting target.path)) _ a c.goes in
        subst AssignedStands (ok_same f.goes) h.1
    assign_gives earlier (IncludeAssign words) a h e =
        let l = came_by (link_of setting setting.label words) _ a e in
        let d = came_by (demand (covering_ends setting l.item) (word_place words 0) Rule.MorphismEnds setting.label) _ a l.goes in
        subst AssignedStands (ok_same d.goes) (word_stands words 0 h)
    assign_gives earlier (StructAssign target words) a h e =
        let s = came_by (or_refused (structure_at setting target.path) target.span Rule.UnknownTarget (label_along setting target.path)) _ a e in
        let f = came_by (demand (is_free earlier target.path) target.span Rule.DoubleAssignment (label_along setting target.path)) _ a s.goes in
        let l = came_by (link_of setting (label_along setting target.path) words) _ a f.goes in
        let d = came_by (demand (sharing_ends setting s.item l.item) (word_place words 0) Rule.MorphismEnds (label_along setting target.path)) _ a l.goes in
        subst AssignedStands (ok_same d.goes) (word_stands words 0 h.1)

    assigns_refuse : (earlier : List Path) (assigns : List Assign) → AssignsStand P assigns → Tested (read_assigns setting earlier assigns)
    unfolding read_assigns
    assigns_refuse earlier [] h = tt
    assigns_refuse earlier (assign ∷ assigns) h =
        refuses_then P rules (read_assign setting earlier assign) _ (assign_refuses earlier assign h.0)
        (λ first e. refuses_then P rules (read_assigns setting (with_target earlier assign) assigns) _ (assigns_refuse (with_target earlier assign) assigns h.1) (λ rest g. tt))

    assigns_give : (earlier : List Path) (assigns : List Assign) (assigned : List Assigned) → AssignsStand P assigns → read_assigns setting earlier assigns ≡ Ok assigned → AllStand assigned
    unfolding read_assigns
    assigns_give earlier [] assigned h e = subst AllStand (ok_same e) tt
    assigns_give earlier (assign ∷ assigns) assigned h e =
        let c = came_by (read_assign setting earlier assign) _ assigned e in
        let r = came_by (read_assigns setting (with_target earlier assign) assigns) _ assigned c.goes in
        subst AllStand (ok_same r.goes) (assign_gives earlier assign c.item h.0 c.came, assigns_give (with_target earlier assign) assigns r.item h.1 r.came)

    -- ---- the later passes

    module _ (assigned : List Assigned) (stand : AllStand assigned) where
      cover_place : (b : Bool) (first : Span) (along : HeadMap) (cover : Cover) → cover_if b first along ≡ Some cover → P first → P cover.first
      cover_place true first along cover h p = subst (λ (z : Cover). P z.first) (same_Some _ _ h) p
      cover_place false first along cover h p = absurd (cc)

      cover_stands : (theory : Name) (a : Assigned) (cover : Cover) → cover_by setting.environment theory a ≡ Some cover → AssignedStands a → P cover.first
      cover_stands theory (Covering first by) cover h p = cover_place (is_or_includes setting.environment by.domain theory) first by.map cover h p
      cover_stands theory (Sharing target structure first by) cover h p = absurd (cc)
      cover_stands theory (Giving target value) cover h p = absurd (cc)

      found_stands : (theory : Name) (along : HeadMap) (o : Option Cover) → find (disagrees setting theory along) (covers_of setting assigned theory) ≡ o → Tested (none_disagrees setting o)
      found_stands theory along None e = tt
      found_stands theory along (Some cover) e =
          let m = (find_found (disagrees setting theory along) (covers_of setting assigned theory) cover e).0 in
          let q = in_filter_map (cover_by setting.environment theory) assigned cover m in
          (cover_stands theory q.0 cover q.2 (stands_at assigned q.0 stand q.1), refl)

      covering_refuses : (theory : Name) → Tested (covered_test setting assigned theory)
      covering_refuses theory =
          refuses_then P rules (or_refused (first_covering setting assigned theory) setting.span Rule.IncludeNotCovered (theory ∷ [])) _
          (refuses_there P rules (first_covering setting assigned theory) setting.span Rule.IncludeNotCovered (theory ∷ []) named refl)
          (λ along e. found_stands theory along (find (disagrees setting theory along) (covers_of setting assigned theory)) refl)

      coverings_refuse : Tested (covered_tests setting assigned)
      unfolding covered_tests
      coverings_refuse = refuses_each P rules (covered_test setting assigned) (included_theories setting) (λ theory m. covering_refuses theory)

      copied_refuses : (o : Option Name) (d : Declaration) → Refuses P (link_rules o) (copied_value setting o d)
      copied_refuses None d = (named, refl)
      copied_refuses (Some structure) d = tt

      unassigned_refuses : (definition : Option Value) (d : Declaration) → Tested (unassigned_value setting definition d)
      unassigned_refuses None d = copied_refuses setting.structure d
      unassigned_refuses (Some value) d = tt

      own_refuses : (reached : Reached) (class : Class) (definition : Option Value) (d : Declaration) → ReachedStands reached → Tested (own_image setting reached class definition d)
      own_refuses ByNone class definition d h = unassigned_refuses definition d
      own_refuses (ByValue target expression) class definition d h =
          refuses_then P rules (labelled (label_along setting target) (expand_value setting.scope expression class)) _
          (refuses_labelled P expression_rules (pass_rules setting.structure) (label_along setting target) (expand_value setting.scope expression class) (value_faults P setting.scope expression class h))
          (λ value e. refuses_then P rules (demand (is_definition definition value) (span_of expression) Rule.DefinitionClash (label_along setting target)) _
          (refuses_test P rules (is_definition definition value) (span_of expression) Rule.DefinitionClash (label_along setting target) (span_stands P expression h) refl) (λ done g. tt))
      own_refuses (ByStructure target rest structure first by) class definition d h =
          refuses_then P rules (or_refused (value_in by.map (constant_in structure rest)) first Rule.MorphismsDisagree (label_along setting target)) _
          (refuses_there P rules (value_in by.map (constant_in structure rest)) first Rule.MorphismsDisagree (label_along setting target) h refl)
          (λ value e. refuses_then P rules (demand (is_definition definition value) first Rule.MorphismsDisagree (label_along setting target)) _
          (refuses_test P rules (is_definition definition value) first Rule.MorphismsDisagree (label_along setting target) h refl) (λ done g. tt))

      image_refuses : (b : Bool) (class : Class) (definition : Option Value) (d : Declaration) → Tested (image_by setting assigned b class definition d)
      image_refuses true class definition d = own_refuses (reached_by assigned d.name.path) class definition d (reached_stands assigned d.name.path stand)
      image_refuses false class definition d = refuses_there P rules (covered_value setting assigned d) setting.span Rule.IncludeNotCovered (d.name.theory ∷ []) named refl

      walk_refuses : (ds : Signature) (so_far : HeadMap) → Tested (map_all setting assigned so_far ds)
      unfolding map_all
      walk_refuses [] so_far = tt
      walk_refuses (d ∷ ds) so_far =
          refuses_then P rules (image_value setting assigned so_far d) _ (image_refuses (is_own setting d) (translate_class so_far d.class) (option_map (translate_value so_far) d.value) d)
          (λ value e. walk_refuses ds (so_far ++ mapping_to so_far d value ∷ []))

      shared_refuses : (along : HeadMap) (a : Assigned) → AssignedStands a → Tested (shared_test setting along a)
      shared_refuses along (Covering first by) h = tt
      shared_refuses along (Sharing target structure first by) h =
          refuses_test P rules (list_all (shares along structure by) (own_parts setting.environment (includes_of (theory_of setting.environment structure.domain)))) first Rule.MorphismsDisagree (label_along setting target) h refl
      shared_refuses along (Giving target value) h = tt

      assigned_refuses : Tested (assigned_map setting assigned)
      unfolding assigned_map
      assigned_refuses =
          refuses_then P rules (covered_tests setting assigned) _ coverings_refuse
          (λ done e. refuses_then P rules (map_all setting assigned [] (flat_of setting.environment setting.domain)) _ (walk_refuses (flat_of setting.environment setting.domain) [])
          (λ along g. refuses_then P rules (each (shared_test setting along) assigned) _ (refuses_each P rules (shared_test setting along) assigned (λ a m. shared_refuses along a (stands_at assigned a stand m))) (λ also k. tt)))

    pub map_refuses : (assigns : List Assign) → AssignsStand P assigns → Refuses P (link_rules setting.structure) (link_map setting assigns)
    unfolding link_map
    map_refuses assigns h =
        refuses_then P rules (read_assigns setting [] assigns) _ (assigns_refuse [] assigns h) (λ assigned e. assigned_refuses assigned (assigns_give [] assigns assigned h e))
