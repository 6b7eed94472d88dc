-- The second pass by itself answers what the coverings give, and the later passes go on from it.
use Rattle.std.proofs.Common.{◌≡◌, ◌⊎◌, inl, inr, Bool, true, false, cond, List, [], ◌∷◌, ◌++◌, length, take, slice_get, ℕ, find, Option, Some, None, option_map, Ok, Err, refl, sym, ap, ◌∙◌, subst, true≢false, arith}
use Rattle.std.specs.Prelude.{⊤}
use Rattle.name_meaning.specs.Names.{Name}
use Rattle.lf_meaning.specs.Signatures.{Value, Declaration, Signature, same_constant}
use Rattle.lf_meaning.specs.HeadMaps.{Image, Mapping, HeadMap, image_of}
use Rattle.lf_term_laws.proofs.Equality.{same_constant_itself}
use Rattle.translation_meaning.specs.Translation.{translate_class, translate_value}
use Rattle.translation_meaning.specs.Differ.{value_in}
use Rattle.list_laws.proofs.Members.{Member, append_left, in_flat_map, flat_map_in, member_place, place_member}
use Rattle.list_laws.proofs.Places.{place_within, get_front, take_front, take_length}
use Rattle.list_laws.proofs.Answers.{came_by, goes_by, bind_assoc}
use Rattle.name_laws.proofs.Order.{among_member, member_among}
use Rattle.library_meaning.specs.Faces.{own_part}
use Rattle.library_meaning.specs.Closure.{sees}
use Rattle.library_meaning.specs.Holding.{ClassHolds, OptionalValueHolds}
use Rattle.library_meaning.specs.Coherence.{DeclarationsHold}
use Rattle.library_meaning.specs.Words.{identity_mapping, identity_map}
use Rattle.elaborate_meaning.specs.Rules.{Rule}
use Rattle.answer_meaning.specs.Answers.{◌>>=◌}
use Rattle.link_meaning.specs.Refusals.{Refusal, Outcome, or_refused, each}
use Rattle.link_meaning.specs.Assignments.{Setting, included_theories, Assigned}
use Rattle.link_meaning.specs.Coverings.{Cover, covers_of, is_identity_covering, covering_by, first_covering, disagrees, none_disagrees, covered_test, covered_tests, value_by, covered_value, covering_value}
use Rattle.link_meaning.specs.Passes.{is_own, image_by, image_value, mapping_to, map_all, shared_test, assigned_map}
use Rattle.link_meaning.specs.Equations.{IsCovered, CoveringsGive}
use Rattle.link_meaning.specs.CoveringMaps.{included_part, cover_all, covering_map, MeetsCoverings}
use Rattle.link_meaning.specs.LinkMaps.{IsSettled}
use Rattle.link_laws.specs.CoveringLaws.{CoveringMapMeetsCoverings, OneMapMeetsCoverings, CoveringsRefuseByTests, CoveringRules, later_passes, LinksBeginWithCoverings, LinkMapsBeginWithCoverings}
use Rattle.link_laws.proofs.Listing.{each_passes, mapping_there, same_length}
use Rattle.link_laws.proofs.Following.{Meets, walk_follows, follows_walk, follows_meets, meets_follows}
use Rattle.link_laws.proofs.Covered.{good_same, there_refused, agree_sound, first_map_is, first_is_covering, Tested, coverings_give, given_covered}
use Rattle.link_laws.proofs.Linked.{own_named, declarations_hold, includes_other, own_by, included_in, tests_of, tested_by}

-- ---- fronts of signatures

declarations_front : (xs ys : Signature) → DeclarationsHold (xs ++ ys) → DeclarationsHold xs
declarations_front xs ys hold i d p =
    let l = place_within xs i d p in
    let h = hold i d (get_front xs ys i l ∙ p) in
    let e : take i (xs ++ ys) ≡ take i xs = take_front xs ys i (omega (arith, l)) in
    (subst (λ z. ClassHolds z d.class) e h.0, subst (λ z. OptionalValueHolds z d.class d.value) e h.1)

-- ---- the identity has the constants of its signature

identity_by : (b : Bool) (image : Image) (o : Option Image) → (b ≡ true) ⊎ ((value : Value) × (option_map (λ (z : Image). z.value) o ≡ Some value)) → (value : Value) × (option_map (λ (z : Image). z.value) (cond b (Some image) o) ≡ Some value)
identity_by true image o h = (image.value, refl)
identity_by false image o (inl e) = absurd (true≢false (sym e))
identity_by false image o (inr v) = v

identity_there : (xs : Signature) (d : Declaration) → Member d xs → (value : Value) × (value_in (identity_map xs) d.name ≡ Some value)
unfolding image_of
identity_there [] d m = absurd m
identity_there (x ∷ xs) d (inl e) =
    identity_by (same_constant x.name d.name) (identity_mapping x).image (image_of (identity_map xs) d.name) (inl (ap (λ (z : Declaration). same_constant x.name z.name) e ∙ same_constant_itself x.name))
identity_there (x ∷ xs) d (inr m) = identity_by (same_constant x.name d.name) (identity_mapping x).image (image_of (identity_map xs) d.name) (inr (identity_there xs d m))

-- ---- refused tests

abbrev RefusedAs : (A : Type 0) → Refusal → Refusal → Type 0
RefusedAs A x y = same_outcome (Err x) (Err y)
  where
    same_outcome : Outcome A → Outcome A → Type 0
    same_outcome o p = o ≡ p

refusal_same : {A : Type 0} {x y : Refusal} → RefusedAs A x y → x ≡ y
refusal_same h = cc

each_by : {A : Type 0} (test : A → Outcome ⊤) (x : A) (o : Outcome ⊤) (later : Outcome ⊤) (refusal : Refusal) → test x ≡ o → (later ≡ Err refusal → (y : A) × (test y ≡ Err refusal)) → o >>= (λ done. later) ≡ Err refusal → (y : A) × (test y ≡ Err refusal)
each_by test x (Err fault) later refusal e f g = (x, e ∙ g)
each_by test x (Ok done) later refusal e f g = f g

each_refused : {A : Type 0} (test : A → Outcome ⊤) (xs : List A) (refusal : Refusal) → each test xs ≡ Err refusal → (x : A) × (test x ≡ Err refusal)
each_refused test [] refusal h = absurd (cc)
each_refused test (x ∷ xs) refusal h = each_by test x (test x) (each test xs) refusal refl (each_refused test xs refusal) h

module _ (setting : Setting) (assigned : List Assigned) where
  disagreed : (o : Option Cover) (refusal : Refusal) → none_disagrees setting o ≡ Err refusal → refusal.rule ≡ Rule.MorphismsDisagree
  disagreed None refusal h = absurd (cc)
  disagreed (Some cover) refusal h = sym (ap (λ (z : Refusal). z.rule) (refusal_same h))

  rule_by : (theory : Name) (o : Option HeadMap) (refusal : Refusal)
      → or_refused o setting.span Rule.IncludeNotCovered (theory ∷ []) >>= (λ along. none_disagrees setting (find (disagrees setting theory along) (covers_of setting assigned theory))) ≡ Err refusal
      → (refusal.rule ≡ Rule.IncludeNotCovered) ⊎ (refusal.rule ≡ Rule.MorphismsDisagree)
  rule_by theory None refusal h = inl (sym (ap (λ (z : Refusal). z.rule) (refusal_same h)))
  rule_by theory (Some along) refusal h = inr (disagreed (find (disagrees setting theory along) (covers_of setting assigned theory)) refusal h)

pub covering_rules : CoveringRules
unfolding covered_tests
covering_rules setting assigned refusal h =
    let r = each_refused (covered_test setting assigned) (included_theories setting) refusal h in
    rule_by setting assigned r.0 (first_covering setting assigned r.0) refusal r.1

-- ---- the walk over what is included

map_append : (setting : Setting) (assigned : List Assigned) (so_far : HeadMap) (xs ys : Signature) → map_all setting assigned so_far (xs ++ ys) ≡ map_all setting assigned so_far xs >>= (λ front. map_all setting assigned front ys)
unfolding map_all
map_append setting assigned so_far [] ys = refl
map_append setting assigned so_far (d ∷ xs) ys =
    (λ i. image_value setting assigned so_far d >>= (λ value. map_append setting assigned (so_far ++ mapping_to so_far d value ∷ []) xs ys i))
    ∙ sym (bind_assoc (image_value setting assigned so_far d) (λ value. map_all setting assigned (so_far ++ mapping_to so_far d value ∷ []) xs) (λ front. map_all setting assigned front ys))

module _ (setting : Setting) (assigned : List Assigned) (settled : IsSettled setting) where
  abbrev part : Signature
  part = included_part setting

  abbrev own : Signature
  own = own_part setting.environment setting.domain

  not_own : (d : Declaration) → Member d part → is_own setting d ≡ false
  not_own d m =
      let q = in_flat_map (own_part setting.environment) (included_theories setting) d m in
      own_by setting assigned settled d q.0 (own_named setting.environment settled.coherent q.0 d q.2) (includes_other setting.environment settled.coherent setting.domain q.0 (member_among (included_theories setting) q.0 q.1))

  image_is : (so_far : HeadMap) (d : Declaration) → is_own setting d ≡ false → covering_value setting assigned d ≡ image_value setting assigned so_far d
  image_is so_far d e = ap (λ b. image_by setting assigned b (translate_class so_far d.class) (option_map (translate_value so_far) d.value) d) (sym e)

  walks_alike : (ds : Signature) (so_far : HeadMap) → ((d : Declaration) → Member d ds → is_own setting d ≡ false) → cover_all setting assigned so_far ds ≡ map_all setting assigned so_far ds
  unfolding cover_all map_all
  walks_alike [] so_far f = refl
  walks_alike (d ∷ ds) so_far f = λ i. image_is so_far d (f d (inl refl)) i >>= (λ value. walks_alike ds (so_far ++ mapping_to so_far d value ∷ []) (λ c m. f c (inr m)) i)

  part_walk : cover_all setting assigned [] part ≡ map_all setting assigned [] part
  part_walk = walks_alike part [] not_own

  part_holds : DeclarationsHold part
  part_holds = declarations_front part own (declarations_hold setting.environment settled.coherent setting.domain settled.theory)

  -- ---- what the map gives

  map_sound : (along : HeadMap) → covering_map setting assigned ≡ Ok along → MeetsCoverings setting assigned along
  unfolding covering_map
  map_sound along h =
      let c = came_by (covered_tests setting assigned) _ along h in
      let f = walk_follows setting assigned part [] along (sym part_walk ∙ c.goes) in
      let n : Meets setting assigned along part along = subst (λ z. Meets setting assigned z part z) (sym f.1) (follows_meets setting assigned part [] [] f.0 part_holds refl f.2) in
      record {
        names = n.names;
        classes = n.classes;
        values = λ i x d p q. given (tests_of setting assigned settled c.came) along d x.image.value (place_member part i d q) (n.values i x d p q);
        covered = λ theory s. covered (tests_of setting assigned settled c.came) theory s;
      }
    where
      given : ((theory : Name) → Member theory (included_theories setting) → Tested setting assigned theory) → (along : HeadMap) (d : Declaration) (value : Value) → Member d part → image_value setting assigned along d ≡ Ok value → CoveringsGive setting assigned d value
      given tested along d value m h =
          let i = included_in setting assigned settled d (append_left part own d m) (not_own d m) in
          coverings_give setting assigned d value (tested d.name.theory i.0) i.1
          (there_refused (covered_value setting assigned d) setting.span Rule.IncludeNotCovered (d.name.theory ∷ []) value (image_is along d (not_own d m) ∙ h))

      covered : ((theory : Name) → Member theory (included_theories setting) → Tested setting assigned theory) → (theory : Name) → sees (included_theories setting) theory ≡ true → IsCovered setting assigned theory
      covered tested theory s = let t = tested theory (among_member (included_theories setting) theory s) in (t.first, first_is_covering setting assigned theory t.first t.is)

  map_complete : (along : HeadMap) → MeetsCoverings setting assigned along → covering_map setting assigned ≡ Ok along
  unfolding covering_map covered_tests
  map_complete along m =
      goes_by (covered_tests setting assigned) _ tt along (each_passes (covered_test setting assigned) (included_theories setting) (tested_by setting assigned settled m.covered given))
      (part_walk
      ∙ follows_walk setting assigned part [] along (meets_follows setting assigned part [] [] along part_holds refl (record { names = m.names; classes = m.classes; values = valued })))
    where
      given : (theory : Name) → Member theory (included_theories setting) → (d : Declaration) → Member d (own_part setting.environment theory) → (value : Value) × CoveringsGive setting assigned d value
      given theory t d o =
          let p = member_place part d (flat_map_in (own_part setting.environment) (included_theories setting) theory d t o) in
          let x = mapping_there along part m.names p.0 d p.1 in
          (x.0.image.value, m.values p.0 x.0 d x.1 p.1)

      valued : (i : ℕ) (x : Mapping) (d : Declaration) → slice_get along i ≡ Some x → slice_get part i ≡ Some d → image_value setting assigned along d ≡ Ok x.image.value
      valued i x d p q =
          sym (image_is along d (not_own d (place_member part i d q)))
          ∙ ap (λ o. or_refused o setting.span Rule.IncludeNotCovered (d.name.theory ∷ [])) (given_covered setting assigned d x.image.value (m.values i x d p q))

  -- ---- where the tests pass, all images are there

  value_there : (theory : Name) → Tested setting assigned theory → (d : Declaration) → Member d (own_part setting.environment theory) → (value : Value) × (value_by (first_covering setting assigned theory) d.name ≡ Some value)
  value_there theory t d m = by (is_identity_covering setting assigned theory) refl
    where
      by : (b : Bool) → is_identity_covering setting assigned theory ≡ b → (value : Value) × (value_by (first_covering setting assigned theory) d.name ≡ Some value)
      by true e =
          let v = identity_there (own_part setting.environment theory) d m in
          (v.0, ap (λ b. value_by (covering_by setting assigned theory b) d.name) e ∙ v.1)
      by false e =
          let f = first_map_is setting assigned theory (covers_of setting assigned theory) t.first (ap (covering_by setting assigned theory) (sym e) ∙ t.is) in
          let a = agree_sound (value_in t.first d.name) (value_in (f.0).map d.name) (t.agree f.0 f.1 d m) in
          (a.value, ap (λ o. value_by o d.name) t.is ∙ a.one)

  covers_there : (ds : Signature) (so_far : HeadMap) → ((d : Declaration) → Member d ds → (value : Value) × (covered_value setting assigned d ≡ Some value)) → (along : HeadMap) × (cover_all setting assigned so_far ds ≡ Ok along)
  unfolding cover_all
  covers_there [] so_far f = (so_far, refl)
  covers_there (d ∷ ds) so_far f =
      let v = f d (inl refl) in
      let r = covers_there ds (so_far ++ mapping_to so_far d v.0 ∷ []) (λ c m. f c (inr m)) in
      (r.0, goes_by (covering_value setting assigned d) _ v.0 r.0 (ap (λ o. or_refused o setting.span Rule.IncludeNotCovered (d.name.theory ∷ [])) v.1) r.1)

  map_there : covered_tests setting assigned ≡ Ok tt → (along : HeadMap) × (covering_map setting assigned ≡ Ok along)
  unfolding covering_map
  map_there h =
      let c = covers_there part [] (λ d m. there d (included_in setting assigned settled d (append_left part own d m) (not_own d m))) in
      (c.0, goes_by (covered_tests setting assigned) _ tt c.0 h c.1)
    where
      there : (d : Declaration) → Member d.name.theory (included_theories setting) × Member d (own_part setting.environment d.name.theory) → (value : Value) × (covered_value setting assigned d ≡ Some value)
      there d i = value_there d.name.theory (tests_of setting assigned settled h d.name.theory i.0) d i.1

  refused_by : (o : Outcome ⊤) (refusal : Refusal) → covered_tests setting assigned ≡ o → covering_map setting assigned ≡ Err refusal → o ≡ Err refusal
  unfolding covering_map
  refused_by (Err fault) refusal e h = ap Err (refusal_same (sym (ap (λ z. z >>= (λ done. cover_all setting assigned [] part)) e) ∙ h))
  refused_by (Ok done) refusal e h = let t = map_there e in absurd (let q = sym h ∙ t.1 in cc)

  refused_so : (refusal : Refusal) → covered_tests setting assigned ≡ Err refusal → covering_map setting assigned ≡ Err refusal
  unfolding covering_map
  refused_so refusal h = ap (λ z. z >>= (λ done. cover_all setting assigned [] part)) h

  -- ---- the later passes

  goes_on : assigned_map setting assigned ≡ covering_map setting assigned >>= later_passes setting assigned
  unfolding assigned_map covering_map
  goes_on =
      (λ i. covered_tests setting assigned >>= (λ done. inner i))
      ∙ sym (bind_assoc (covered_tests setting assigned) (λ done. cover_all setting assigned [] part) (later_passes setting assigned))
    where
      inner : map_all setting assigned [] (part ++ own) >>= (λ along. each (shared_test setting along) assigned >>= (λ done. Ok along)) ≡ cover_all setting assigned [] part >>= later_passes setting assigned
      inner =
          ap (λ z. z >>= (λ along. each (shared_test setting along) assigned >>= (λ done. Ok along))) (map_append setting assigned [] part own)
          ∙ bind_assoc (map_all setting assigned [] part) (λ front. map_all setting assigned front own) (λ along. each (shared_test setting along) assigned >>= (λ done. Ok along))
          ∙ ap (λ z. z >>= later_passes setting assigned) (sym part_walk)

  begins : (along : HeadMap) → assigned_map setting assigned ≡ Ok along → covering_map setting assigned ≡ Ok (take (length part) along)
  begins along h =
      let c = came_by (covering_map setting assigned) (later_passes setting assigned) along (sym goes_on ∙ h) in
      let w = came_by (map_all setting assigned c.item own) _ along c.goes in
      let s = came_by (each (shared_test setting w.item) assigned) _ along w.goes in
      let f = walk_follows setting assigned own c.item w.item w.came in
      let e : along ≡ c.item ++ f.0 = sym (good_same s.goes) ∙ f.1 in
      let l : length c.item ≡ length part = same_length c.item part (map_sound c.item c.came).names in
      c.came
      ∙ ap Ok (sym (ap (take (length part)) e ∙ ap (λ n. take n (c.item ++ f.0)) (sym l) ∙ take_front c.item f.0 (length c.item) (omega arith) ∙ take_length c.item))

pub covering_map_meets_coverings : CoveringMapMeetsCoverings
covering_map_meets_coverings setting assigned along settled = (map_sound setting assigned settled along, map_complete setting assigned settled along)

pub one_map_meets_coverings : OneMapMeetsCoverings
one_map_meets_coverings setting assigned along other settled m n = good_same (sym (map_complete setting assigned settled along m) ∙ map_complete setting assigned settled other n)

pub coverings_refuse_by_tests : CoveringsRefuseByTests
coverings_refuse_by_tests setting assigned refusal settled = ((λ h. refused_by setting assigned settled (covered_tests setting assigned) refusal refl h), refused_so setting assigned settled refusal)

pub links_begin_with_coverings : LinksBeginWithCoverings
links_begin_with_coverings setting assigned settled = goes_on setting assigned settled

pub link_maps_begin_with_coverings : LinkMapsBeginWithCoverings
link_maps_begin_with_coverings setting assigned along settled h = begins setting assigned settled along h
