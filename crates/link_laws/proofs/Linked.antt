-- The passes answer a map exactly where it meets the equations.
use Rattle.std.proofs.Common.{◌≡◌, ◌≢◌, Bool, true, false, List, [], ◌∷◌, ◌++◌, Option, Some, None, is_some, option_map, Ok, ⊎_elim, refl, sym, ap, ◌∙◌, subst, true≢false}
use Rattle.std.specs.List.{list_all}
use Rattle.name_meaning.specs.Names.{Name, Path, same_name}
use Rattle.lf_meaning.specs.Signatures.{Class, Value, Declaration, Signature}
use Rattle.list_laws.proofs.Members.{Member, all_at, all_of, in_append, append_left, in_flat_map, flat_map_in, member_place, place_member}
use Rattle.name_laws.proofs.Order.{among_member, member_among, same_sound, same_itself}
use Rattle.lf_meaning.specs.HeadMaps.{HeadMap}
use Rattle.translation_meaning.specs.Translation.{translate_class, translate_value}
use Rattle.translation_meaning.specs.Differ.{value_in, agree}
use Rattle.library_meaning.specs.Faces.{TheoryFace, Known, IsAbsent, IsRefused, IsTheory, IsView, theory_face, Environment, theory_of, includes_of, own_of, own_part, own_parts, flat_of}
use Rattle.library_meaning.specs.Closure.{sees}
use Rattle.library_meaning.specs.Coherence.{IsCoherent, DeclarationsHold}
use Rattle.library_meaning.specs.Words.{Link}
use Rattle.text_meaning.specs.Tokens.{Span}
use Rattle.elaborate_meaning.specs.Rules.{Rule}
use Rattle.link_meaning.specs.Refusals.{or_refused, each}
use Rattle.link_meaning.specs.Assignments.{Setting, included_theories, Assigned, Covering, Sharing, Giving, label_along, read_assigns}
use Rattle.link_meaning.specs.Coverings.{Cover, covers_of, first_covering, covered_test, covered_tests, covered_value}
use Rattle.link_meaning.specs.Passes.{reached_by, is_own, image_by, map_all, shares, shared_test, assigned_map, link_map}
use Rattle.link_meaning.specs.Equations.{IsCovering, IsCovered, CoveringsGive, HasValueBy, IsShared, MeetsEquations}
use Rattle.link_meaning.specs.LinkMaps.{IsSettled}
use Rattle.link_laws.specs.LinkLaws.{PassesMeetEquations, OneMapMeetsEquations, LinkMapMeetsEquations, OneMapOfLink}
use Rattle.link_laws.proofs.Reading.{assigns_sound, assigns_complete}
use Rattle.link_laws.proofs.Listing.{each_passed, each_passes, mapping_there}
use Rattle.link_laws.proofs.Following.{Meets, walk_follows, follows_walk, follows_meets, meets_follows}
use Rattle.link_laws.proofs.Covered.{good_same, there_refused, agree_sound, agree_by, cover_is_covering, first_is_covering, some_first, Tested, test_gives, test_by, coverings_give, given_covered}
use Rattle.link_laws.proofs.Valued.{demand_holds, demand_by, own_sound, own_complete}
use Rattle.std.proofs.lemmas.Option.{same_Some}
use Rattle.list_laws.proofs.Answers.{came_by, goes_by}
use Rattle.list_laws.proofs.Options.{some_of}

-- ---- what coherence says of a domain

pub known_theory : (known : Known) (face : TheoryFace) → theory_face known ≡ Some face → known ≡ IsTheory face
known_theory IsAbsent face h = absurd (cc)
known_theory IsRefused face h = absurd (cc)
known_theory (IsTheory found) face h = ap IsTheory (same_Some _ _ h)
known_theory (IsView found) face h = absurd (cc)

module _ (environment : Environment) (coherent : IsCoherent environment) where
  named_by : (theory : Name) (o : Option TheoryFace) → theory_of environment theory ≡ o → (d : Declaration) → Member d (own_of o) → d.name.theory ≡ theory
  named_by theory None e d m = absurd m
  named_by theory (Some face) e d m =
      let c = coherent.theories theory face (known_theory (environment theory) face e) in
      let p = member_place face.own d m in
      c.own_named p.0 d p.1

  -- an own constant has the theory's name
  pub own_named : (theory : Name) (d : Declaration) → Member d (own_part environment theory) → d.name.theory ≡ theory
  own_named theory d m = named_by theory (theory_of environment theory) refl d m

  pub declarations_hold : (theory : Name) → is_some (theory_of environment theory) ≡ true → DeclarationsHold (flat_of environment theory)
  declarations_hold theory h =
      let f = some_of (theory_of environment theory) h in
      subst DeclarationsHold (ap (λ o. own_parts environment (includes_of o) ++ own_of o) (sym f.1)) (coherent.theories theory f.0 (known_theory (environment theory) f.0 f.1)).holds

  pub includes_other : (theory other : Name) → sees (includes_of (theory_of environment theory)) other ≡ true → other ≢ theory
  includes_other theory other h = by (theory_of environment theory) refl h
    where
      by : (o : Option TheoryFace) → theory_of environment theory ≡ o → sees (includes_of o) other ≡ true → other ≢ theory
      by None e s = λ w. absurd (among_member [] other s)
      by (Some face) e s = (coherent.theories theory face (known_theory (environment theory) face e)).includes_others other s

module _ (setting : Setting) (assigned : List Assigned) (settled : IsSettled setting) where
  abbrev flat : Signature
  flat = flat_of setting.environment setting.domain

  pub own_by : (d : Declaration) (theory : Name) → d.name.theory ≡ theory → theory ≢ setting.domain → is_own setting d ≡ false
  own_by d theory e n = by (is_own setting d) refl
    where
      by : (b : Bool) → is_own setting d ≡ b → b ≡ false
      by true h = absurd (n (sym e ∙ same_sound d.name.theory setting.domain h))
      by false h = refl

  -- a constant that is not the domain's own is one of an included theory
  pub included_in : (d : Declaration) → Member d flat → is_own setting d ≡ false → Member d.name.theory (included_theories setting) × Member d (own_part setting.environment d.name.theory)
  included_in d m o = ⊎_elim from_included from_own (in_append (own_parts setting.environment (included_theories setting)) (own_part setting.environment setting.domain) d m)
    where
      from_included : Member d (own_parts setting.environment (included_theories setting)) → Member d.name.theory (included_theories setting) × Member d (own_part setting.environment d.name.theory)
      from_included n =
          let q = in_flat_map (own_part setting.environment) (included_theories setting) d n in
          let e : d.name.theory ≡ q.0 = own_named setting.environment settled.coherent q.0 d q.2 in
          (subst (λ t. Member t (included_theories setting)) (sym e) q.1, subst (λ t. Member d (own_part setting.environment t)) (sym e) q.2)

      from_own : Member d (own_part setting.environment setting.domain) → Member d.name.theory (included_theories setting) × Member d (own_part setting.environment d.name.theory)
      from_own n =
          let e : d.name.theory ≡ setting.domain = own_named setting.environment settled.coherent setting.domain d n in
          absurd (true≢false (sym (ap (λ t. same_name t setting.domain) e ∙ same_itself setting.domain) ∙ o))

  -- ---- values

  value_sound : (tested : (theory : Name) → Member theory (included_theories setting) → Tested setting assigned theory) (b : Bool) (class : Class) (definition : Option Value) (d : Declaration) (value : Value)
      → is_own setting d ≡ b → Member d flat → image_by setting assigned b class definition d ≡ Ok value → HasValueBy setting assigned b class definition d value
  value_sound tested true class definition d value e m h = own_sound setting (reached_by assigned d.name.path) class definition d value h
  value_sound tested false class definition d value e m h =
      let i = included_in d m e in
      coverings_give setting assigned d value (tested d.name.theory i.0) i.1 (there_refused (covered_value setting assigned d) setting.span Rule.IncludeNotCovered (d.name.theory ∷ []) value h)

  value_complete : (b : Bool) (class : Class) (definition : Option Value) (d : Declaration) (value : Value) → HasValueBy setting assigned b class definition d value → image_by setting assigned b class definition d ≡ Ok value
  value_complete true class definition d value h = own_complete setting (reached_by assigned d.name.path) class definition d value h
  value_complete false class definition d value h = ap (λ o. or_refused o setting.span Rule.IncludeNotCovered (d.name.theory ∷ [])) (given_covered setting assigned d value h)

  -- ---- what is shared

  mapped_value : (f : Value → Value) (o : Option Value) (w : Value) → option_map f o ≡ Some w → (v : Value) × (o ≡ Some v) × (w ≡ f v)
  mapped_value f None w h = absurd (cc)
  mapped_value f (Some v) w h = (v, refl, sym (same_Some _ _ h))

  shares_sound : (along : HeadMap) (structure by : Link) (d : Declaration) → shares along structure by d ≡ true → IsShared along structure by d
  shares_sound along structure by d h =
      let a = agree_sound (option_map (translate_value along) (value_in structure.map d.name)) (value_in by.map d.name) h in
      let v = mapped_value (translate_value along) (value_in structure.map d.name) a.value a.one in
      record { value = v.0; image = v.1; same = a.other ∙ ap Some v.2 }

  shares_complete : (along : HeadMap) (structure by : Link) (d : Declaration) → IsShared along structure by d → shares along structure by d ≡ true
  shares_complete along structure by d s =
      agree_by (option_map (translate_value along) (value_in structure.map d.name)) (value_in by.map d.name) (translate_value along s.value) (ap (option_map (translate_value along)) s.image) s.same

  abbrev shared_part : Link → Signature
  shared_part structure = own_parts setting.environment (includes_of (theory_of setting.environment structure.domain))

  shared_by : (along : HeadMap) (a : Assigned)
      → ((target : Path) (structure : Link) (first : Span) (by : Link) → a ≡ Sharing target structure first by → (d : Declaration) → Member d (shared_part structure) → IsShared along structure by d)
      → shared_test setting along a ≡ Ok tt
  shared_by along (Covering first by) h = refl
  shared_by along (Sharing target structure first by) h =
      demand_by (list_all (shares along structure by) (shared_part structure)) first Rule.MorphismsDisagree (label_along setting target)
      (all_of (shares along structure by) (shared_part structure) (λ d m. shares_complete along structure by d (h target structure first by refl d m)))
  shared_by along (Giving target value) h = refl

  -- ---- from the passes to the equations

  pub tests_of : covered_tests setting assigned ≡ Ok tt → (theory : Name) → Member theory (included_theories setting) → Tested setting assigned theory
  unfolding covered_tests
  tests_of h theory m = test_gives setting assigned theory tt (each_passed (covered_test setting assigned) (included_theories setting) tt h theory m)

  pub passes_sound : (along : HeadMap) → assigned_map setting assigned ≡ Ok along → MeetsEquations setting assigned along
  unfolding assigned_map
  passes_sound along h =
      let c = came_by (covered_tests setting assigned) _ along h in
      let w = came_by (map_all setting assigned [] flat) _ along c.goes in
      let s = came_by (each (shared_test setting w.item) assigned) _ along w.goes in
      let e : w.item ≡ along = good_same s.goes in
      let f = walk_follows setting assigned flat [] w.item w.came in
      let m : Meets setting assigned f.0 flat f.0 = follows_meets setting assigned flat [] [] f.0 (declarations_hold setting.environment settled.coherent setting.domain settled.theory) refl f.2 in
      let n : Meets setting assigned along flat along = subst (λ z. Meets setting assigned z flat z) (sym f.1 ∙ e) m in
      record {
        names = n.names;
        classes = n.classes;
        values = λ i x d p q. value_sound (tests_of c.came) (is_own setting d) (translate_class along d.class) (option_map (translate_value along) d.value) d x.image.value refl (place_member flat i d q) (n.values i x d p q);
        covered = λ theory p.
            let t = tests_of c.came theory (among_member (included_theories setting) theory p) in
            (t.first, first_is_covering setting assigned theory t.first t.is);
        shared = λ i target structure first by p j d q. shares_sound along structure by d
            (all_at (shares along structure by) (shared_part structure) d
            (demand_holds (list_all (shares along structure by) (shared_part structure)) first Rule.MorphismsDisagree (label_along setting target) tt
            (each_passed (shared_test setting along) assigned tt (subst (λ z. each (shared_test setting z) assigned ≡ Ok tt) e s.came) (Sharing target structure first by) (place_member assigned i (Sharing target structure first by) p)))
            (place_member (shared_part structure) j d q));
      }

  -- ---- and back

  -- the coverings of a theory pass their tests, where they give each of its constants one value
  pub tested_by : ((theory : Name) → sees (included_theories setting) theory ≡ true → IsCovered setting assigned theory)
      → ((theory : Name) → Member theory (included_theories setting) → (d : Declaration) → Member d (own_part setting.environment theory) → (value : Value) × CoveringsGive setting assigned d value)
      → (theory : Name) → Member theory (included_theories setting) → covered_test setting assigned theory ≡ Ok tt
  tested_by covered given theory t =
      let c = covered theory (member_among (included_theories setting) theory t) in
      let f = some_first setting assigned theory c.0 c.1 in
      test_by setting assigned theory (record { first = f.0; is = f.1; agree = agreed f.0 f.1 })
    where
      agreed : (first : HeadMap) → first_covering setting assigned theory ≡ Some first → (cover : Cover) → Member cover (covers_of setting assigned theory) → (d : Declaration) → Member d (own_part setting.environment theory)
          → agree (value_in first d.name) (value_in cover.map d.name) ≡ true
      agreed first e cover n d o =
          let named : d.name.theory ≡ theory = own_named setting.environment settled.coherent theory d o in
          let g = given theory t d o in
          agree_by (value_in first d.name) (value_in cover.map d.name) g.0
          ((g.1).give first (subst (λ z. IsCovering setting assigned z first) (sym named) (first_is_covering setting assigned theory first e)))
          ((g.1).give cover.map (subst (λ z. IsCovering setting assigned z cover.map) (sym named) (cover_is_covering setting assigned theory cover n)))

  given_by : (along : HeadMap) → MeetsEquations setting assigned along → (theory : Name) → Member theory (included_theories setting) → (d : Declaration) → Member d (own_part setting.environment theory) → (value : Value) × CoveringsGive setting assigned d value
  given_by along m theory t d o =
      let named : d.name.theory ≡ theory = own_named setting.environment settled.coherent theory d o in
      let p = member_place flat d (append_left (own_parts setting.environment (included_theories setting)) (own_part setting.environment setting.domain) d (flat_map_in (own_part setting.environment) (included_theories setting) theory d t o)) in
      let x = mapping_there along flat m.names p.0 d p.1 in (
        x.0.image.value,
        subst (λ b. HasValueBy setting assigned b (translate_class along d.class) (option_map (translate_value along) d.value) d x.0.image.value)
            (own_by d theory named (includes_other setting.environment settled.coherent setting.domain theory (member_among (included_theories setting) theory t))) (m.values p.0 x.0 d x.1 p.1),
      )

  pub passes_complete : (along : HeadMap) → MeetsEquations setting assigned along → assigned_map setting assigned ≡ Ok along
  unfolding assigned_map covered_tests
  passes_complete along m =
      goes_by (covered_tests setting assigned) _ tt along (each_passes (covered_test setting assigned) (included_theories setting) (tested_by m.covered (given_by along m)))
      (goes_by (map_all setting assigned [] flat) _ along along
      (follows_walk setting assigned flat [] along
      (meets_follows setting assigned flat [] [] along (declarations_hold setting.environment settled.coherent setting.domain settled.theory) refl
      (record { names = m.names; classes = m.classes; values = λ i x d p q. value_complete (is_own setting d) (translate_class along d.class) (option_map (translate_value along) d.value) d x.image.value (m.values i x d p q) })))
      (goes_by (each (shared_test setting along) assigned) _ tt along
      (each_passes (shared_test setting along) assigned
      (λ a n. shared_by along a (λ target structure first by e d k.
      let p = member_place assigned a n in
      let q = member_place (shared_part structure) d k in
      m.shared p.0 target structure first by (p.1 ∙ ap Some e) q.0 d q.1)))
      refl))

pub passes_meet_equations : PassesMeetEquations
passes_meet_equations setting assigned along settled = (passes_sound setting assigned settled along, passes_complete setting assigned settled along)

pub one_map_meets_equations : OneMapMeetsEquations
one_map_meets_equations setting assigned along other settled m n = good_same (sym (passes_complete setting assigned settled along m) ∙ passes_complete setting assigned settled other n)

pub link_map_meets_equations : LinkMapMeetsEquations
unfolding link_map
link_map_meets_equations setting assigns along settled = (
  (λ h. let c = came_by (read_assigns setting [] assigns) _ along h in (c.item, assigns_sound setting [] assigns c.item c.came, passes_sound setting c.item settled along c.goes)),
  (λ q. goes_by (read_assigns setting [] assigns) _ q.0 along (assigns_complete setting [] assigns q.0 q.1) (passes_complete setting q.0 settled along q.2)),
)

pub one_map_of_link : OneMapOfLink
one_map_of_link setting assigns along other settled m n =
    good_same (sym ((link_map_meets_equations setting assigns along settled).1 m) ∙ (link_map_meets_equations setting assigns other settled).1 n)
