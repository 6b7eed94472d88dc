-- Coverings: what the tests of the second pass say of them.
use Rattle.std.proofs.Common.{◌≡◌, ℕ, suc, Bool, true, false, cond, List, [], ◌∷◌, find, slice_get, Option, Some, None, is_some, Ok, inl, inr, refl, sym, ap, ◌∙◌, subst, true≢false}
use Rattle.std.specs.Prelude.{⊤}
use Rattle.name_meaning.specs.Names.{Name}
use Rattle.lf_meaning.specs.Signatures.{Value, Declaration, Signature}
use Rattle.lf_term_laws.proofs.Equality.{same_value_sound, same_value_itself}
use Rattle.list_laws.proofs.Members.{Member, find_none, in_filter_map, filter_map_in, member_place, place_member}
use Rattle.lf_meaning.specs.HeadMaps.{HeadMap}
use Rattle.translation_meaning.specs.Differ.{value_in, agree, agree_on, differ_from, differ}
use Rattle.library_meaning.specs.Faces.{own_part}
use Rattle.library_meaning.specs.Words.{Link}
use Rattle.text_meaning.specs.Tokens.{Span}
use Rattle.elaborate_meaning.specs.Rules.{Rule}
use Rattle.link_meaning.specs.Refusals.{Outcome, or_refused}
use Rattle.link_meaning.specs.Assignments.{Setting, is_or_includes, Assigned, Covering, Sharing, Giving}
use Rattle.link_meaning.specs.Coverings.{Cover, cover_if, cover_by, covers_of, is_identity_covering, identity_on, first_map, covering_by, first_covering, disagrees, none_disagrees, covered_test, value_by, covered_value}
use Rattle.link_meaning.specs.Equations.{IsCovering, ByIdentity, ByAssignment, CoveringsGive}
use Rattle.std.proofs.lemmas.Option.{same_Some}
use Rattle.list_laws.proofs.Answers.{came_by, goes_by}

-- ---- outcomes

abbrev pub Good : {A : Type 0} → A → Outcome A → Type 0
Good item outcome = Ok item ≡ outcome

pub good_same : {A : Type 0} {x y : A} → Good x (Ok y) → x ≡ y
good_same h = cc

pub there_refused : {A : Type 0} (o : Option A) (span : Span) (rule : Rule) (label : List Name) (item : A) → or_refused o span rule label ≡ Ok item → o ≡ Some item
there_refused None span rule label item h = absurd (cc)
there_refused (Some x) span rule label item h = ap Some (good_same h)

-- ---- values that agree

pub record Agreed (first second : Option Value) : Type 0 where
  pub value : Value
  pub one : first ≡ Some value
  pub other : second ≡ Some value

pub agree_sound : (first second : Option Value) → agree first second ≡ true → Agreed first second
agree_sound None second h = absurd (cc)
agree_sound (Some v) None h = absurd (cc)
agree_sound (Some v) (Some w) h = record { value = w; one = ap Some (same_value_sound v w h); other = refl }

pub agree_by : (first second : Option Value) (value : Value) → first ≡ Some value → second ≡ Some value → agree first second ≡ true
agree_by first second value e f = ap (λ o. agree o second) e ∙ ap (agree (Some value)) f ∙ same_value_itself value

differ_by : (b : Bool) (place : ℕ) (later : Option ℕ) → cond b later (Some place) ≡ None → (b ≡ true) × (later ≡ None)
differ_by true place later h = (refl, h)
differ_by false place later h = absurd (cc)

pub none_differs : (place : ℕ) (a b : HeadMap) (ds : Signature) → differ_from place a b ds ≡ None → (d : Declaration) → Member d ds → agree_on a b d ≡ true
unfolding differ_from
none_differs place a b [] h d m = absurd m
none_differs place a b (c ∷ ds) h d (inl e) = ap (agree_on a b) e ∙ (differ_by (agree_on a b c) place (differ_from (suc place) a b ds) h).0
none_differs place a b (c ∷ ds) h d (inr m) = none_differs (suc place) a b ds (differ_by (agree_on a b c) place (differ_from (suc place) a b ds) h).1 d m

pub all_agree : (place : ℕ) (a b : HeadMap) (ds : Signature) → ((d : Declaration) → Member d ds → agree_on a b d ≡ true) → differ_from place a b ds ≡ None
unfolding differ_from
all_agree place a b [] h = refl
all_agree place a b (c ∷ ds) h = ap (λ t. cond t (differ_from (suc place) a b ds) (Some place)) (h c (inl refl)) ∙ all_agree (suc place) a b ds (λ d m. h d (inr m))

module _ (setting : Setting) (assigned : List Assigned) (theory : Name) where
  cover_if_is : (b : Bool) (first : Span) (along : HeadMap) (cover : Cover) → cover_if b first along ≡ Some cover → (b ≡ true) × (cover.map ≡ along)
  cover_if_is true first along cover h = (refl, ap (λ z. z.map) (sym (same_Some _ _ h)))
  cover_if_is false first along cover h = absurd (cc)

  by_assigned : (a : Assigned) (place : ℕ) (cover : Cover) → slice_get assigned place ≡ Some a → cover_by setting.environment theory a ≡ Some cover → IsCovering setting assigned theory cover.map
  by_assigned (Covering first by) place cover s h =
      let c = cover_if_is (is_or_includes setting.environment by.domain theory) first by.map cover h in
      ByAssignment place first by s c.0 c.1
  by_assigned (Sharing target structure first by) place cover s h = absurd (cc)
  by_assigned (Giving target value) place cover s h = absurd (cc)

  pub cover_is_covering : (cover : Cover) → Member cover (covers_of setting assigned theory) → IsCovering setting assigned theory cover.map
  cover_is_covering cover m =
      let q = in_filter_map (cover_by setting.environment theory) assigned cover m in
      let p = member_place assigned q.0 q.1 in
      by_assigned q.0 p.0 cover p.1 q.2

  covering_member : (place : ℕ) (first : Span) (by : Link) → slice_get assigned place ≡ Some (Covering first by) → is_or_includes setting.environment by.domain theory ≡ true
      → Member (record { first = first; map = by.map }) (covers_of setting assigned theory)
  covering_member place first by s t =
      filter_map_in (cover_by setting.environment theory) assigned (Covering first by) (record { first = first; map = by.map }) (place_member assigned place (Covering first by) s) (ap (λ b. cover_if b first by.map) t)

  pub first_map_is : (covers : List Cover) (along : HeadMap) → first_map covers ≡ Some along → (cover : Cover) × Member cover covers × (cover.map ≡ along)
  first_map_is [] along h = absurd (cc)
  first_map_is (cover ∷ covers) along h = (cover, inl refl, same_Some _ _ h)

  first_map_some : (covers : List Cover) (cover : Cover) → Member cover covers → (along : HeadMap) × (first_map covers ≡ Some along)
  first_map_some [] cover m = absurd m
  first_map_some (x ∷ covers) cover m = (x.map, refl)

  first_by : (b : Bool) (along : HeadMap) → is_identity_covering setting assigned theory ≡ b → covering_by setting assigned theory b ≡ Some along → IsCovering setting assigned theory along
  first_by true along e h = ByIdentity e (sym (same_Some _ _ h))
  first_by false along e h =
      let f = first_map_is (covers_of setting assigned theory) along h in
      subst (IsCovering setting assigned theory) f.2 (cover_is_covering f.0 f.1)

  pub first_is_covering : (along : HeadMap) → first_covering setting assigned theory ≡ Some along → IsCovering setting assigned theory along
  first_is_covering along h = first_by (is_identity_covering setting assigned theory) along refl h

  some_by : (b : Bool) (along : HeadMap) → is_identity_covering setting assigned theory ≡ b → IsCovering setting assigned theory along → (first : HeadMap) × (covering_by setting assigned theory b ≡ Some first)
  some_by true along e c = (identity_on setting theory, refl)
  some_by false along e (ByIdentity i q) = absurd (true≢false (sym i ∙ e))
  some_by false along e (ByAssignment place first by s t q) =
      first_map_some (covers_of setting assigned theory) (record { first = first; map = by.map }) (covering_member place first by s t)

  pub some_first : (along : HeadMap) → IsCovering setting assigned theory along → (first : HeadMap) × (first_covering setting assigned theory ≡ Some first)
  some_first along c = some_by (is_identity_covering setting assigned theory) along refl c

  none_found : (o : Option Cover) (done : ⊤) → none_disagrees setting o ≡ Ok done → o ≡ None
  none_found None done h = refl
  none_found (Some cover) done h = absurd (cc)

  nothing_is : {A : Type 0} (o : Option A) → is_some o ≡ false → o ≡ None
  nothing_is None h = refl
  nothing_is (Some x) h = absurd (cc)

  pub record Tested : Type 0 where
    pub first : HeadMap
    pub is : first_covering setting assigned theory ≡ Some first
    pub agree : (cover : Cover) → Member cover (covers_of setting assigned theory) → (d : Declaration) → Member d (own_part setting.environment theory) → agree_on first cover.map d ≡ true

  pub test_gives : (done : ⊤) → covered_test setting assigned theory ≡ Ok done → Tested
  test_gives done h =
      let c = came_by (or_refused (first_covering setting assigned theory) setting.span Rule.IncludeNotCovered (theory ∷ [])) _ done h in
      let f : find (disagrees setting theory c.item) (covers_of setting assigned theory) ≡ None = none_found (find (disagrees setting theory c.item) (covers_of setting assigned theory)) done c.goes in
      record {
        first = c.item;
        is = there_refused (first_covering setting assigned theory) setting.span Rule.IncludeNotCovered (theory ∷ []) c.item c.came;
        agree = λ cover m. none_differs 0 c.item cover.map (own_part setting.environment theory)
            (nothing_is (differ c.item cover.map (own_part setting.environment theory)) (find_none (disagrees setting theory c.item) (covers_of setting assigned theory) f cover m));
      }

  find_nothing : {A : Type 0} (p : A → Bool) (xs : List A) → ((x : A) → Member x xs → p x ≡ false) → find p xs ≡ None
  find_nothing p [] h = refl
  find_nothing p (x ∷ xs) h = ap (λ b. cond b (Some x) (find p xs)) (h x (inl refl)) ∙ find_nothing p xs (λ y m. h y (inr m))

  pub test_by : Tested → covered_test setting assigned theory ≡ Ok tt
  test_by t =
      goes_by (or_refused (first_covering setting assigned theory) setting.span Rule.IncludeNotCovered (theory ∷ [])) _ t.first tt (ap (λ o. or_refused o setting.span Rule.IncludeNotCovered (theory ∷ [])) t.is)
      (ap (none_disagrees setting) (find_nothing (disagrees setting theory t.first) (covers_of setting assigned theory)
      (λ cover m. ap is_some (all_agree 0 t.first cover.map (own_part setting.environment theory) (t.agree cover m)))))

  -- of tested coverings each gives what the first one gives
  pub every_gives : Tested → (d : Declaration) → Member d (own_part setting.environment theory) → (value : Value) → value_by (first_covering setting assigned theory) d.name ≡ Some value
      → (along : HeadMap) → IsCovering setting assigned theory along → value_in along d.name ≡ Some value
  every_gives t d m value h along (ByIdentity i q) =
      let e : first_covering setting assigned theory ≡ Some (identity_on setting theory) = ap (covering_by setting assigned theory) i in
      ap (λ z. value_in z d.name) q ∙ sym (ap (λ o. value_by o d.name) e) ∙ h
  every_gives t d m value h along (ByAssignment place first by s p q) =
      let a = agree_sound (value_in t.first d.name) (value_in by.map d.name) (t.agree (record { first = first; map = by.map }) (covering_member place first by s p) d m) in
      let e : value_in t.first d.name ≡ Some value = sym (ap (λ o. value_by o d.name) t.is) ∙ h in
      ap (λ z. value_in z d.name) q ∙ a.other ∙ sym a.one ∙ e

pub coverings_give : (setting : Setting) (assigned : List Assigned) (d : Declaration) (value : Value) → Tested setting assigned d.name.theory → Member d (own_part setting.environment d.name.theory) → covered_value setting assigned d ≡ Some value
    → CoveringsGive setting assigned d value
coverings_give setting assigned d value t m h =
    record { covered = (t.first, first_is_covering setting assigned d.name.theory t.first t.is); give = every_gives setting assigned d.name.theory t d m value h }

pub given_covered : (setting : Setting) (assigned : List Assigned) (d : Declaration) (value : Value) → CoveringsGive setting assigned d value → covered_value setting assigned d ≡ Some value
given_covered setting assigned d value c =
    let a = c.covered in
    let s = some_first setting assigned d.name.theory a.0 a.1 in
    ap (λ o. value_by o d.name) s.1 ∙ c.give s.0 (first_is_covering setting assigned d.name.theory s.0 s.1)
