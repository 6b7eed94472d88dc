-- The map of a link is coherent, and so are the constants that a structure induces.
use Rattle.std.proofs.Common.{◌≡◌, ℕ, ◌<◌, Bool, true, false, cond, List, [], ◌∷◌, ◌++◌, length, take, slice_get, Option, Some, None, option_map, Ok, ◌⊎◌, inl, inr, ⊎_elim, refl, sym, ap, ap₂, ◌∙◌, subst, true≢false, append_assoc, append-nil, arith}
use Rattle.name_meaning.specs.Names.{Name, Path}
use Rattle.lf_meaning.specs.Terms.{Constant}
use Rattle.lf_meaning.specs.Signatures.{Class, FamilyClass, KindClass, Value, SameAs, TermValue, FamilyValue, Declaration, Signature, same_constant, undefined_class, declared_class, class_of}
use Rattle.lf_term_laws.proofs.Equality.{same_constant_itself}
use Rattle.list_laws.proofs.Members.{Member, in_append, append_left, append_right, in_flat_map, place_member, member_place}
use Rattle.name_laws.proofs.Order.{member_among, same_sound}
use Rattle.list_laws.proofs.Places.{place_within, take_front, take_length, get_more}
use Rattle.lf_meaning.specs.HeadMaps.{Mapping, HeadMap}
use Rattle.translation_meaning.specs.Translation.{translate_class, translate_value}
use Rattle.translation_meaning.specs.Differ.{value_in}
use Rattle.library_meaning.specs.Words.{Link}
use Rattle.library_meaning.specs.Faces.{TheoryFace, theory_of, own_of, own_part, own_parts, flat_of}
use Rattle.library_meaning.specs.Holding.{SameLevel, ClassHolds, ValueHolds, OptionalValueHolds, AlikeClasses}
use Rattle.library_meaning.specs.Coherence.{DeclarationsHold, IsCoherentMap}
use Rattle.text_meaning.specs.Tokens.{Span}
use Rattle.elaborate_meaning.specs.Rules.{Rule}
use Rattle.link_meaning.specs.Assignments.{Setting, included_theories, Assigned, Covering}
use Rattle.link_meaning.specs.Coverings.{first_covering, value_by, covered_value}
use Rattle.link_meaning.specs.Passes.{reached_by, induced_constant, is_own, image_by, mapping_to, map_all}
use Rattle.link_meaning.specs.Induced.{defined_by, induced_with}
use Rattle.link_meaning.specs.LinkMaps.{IsSettled}
use Rattle.link_laws.proofs.Listing.{same_length, names_last}
use Rattle.link_laws.proofs.Covered.{there_refused, first_is_covering}
use Rattle.link_laws.proofs.Valued.{own_sound}
use Rattle.link_laws.proofs.Following.{Follows, walk_follows}
use Rattle.link_laws.proofs.Linked.{own_named, declarations_hold, includes_other, included_in}
use Rattle.constant_laws.specs.HoldingLaws.{Grows}
use Rattle.constant_laws.specs.TranslationHolds.{MapsInto}
use Rattle.constant_laws.specs.ExpansionHolds.{scope_signature}
use Rattle.constant_laws.proofs.Growing.{class_grows, value_grows, optional_grows}
use Rattle.constant_laws.proofs.Declared.{front_grows, class_in, class_at, value_at}
use Rattle.constant_laws.proofs.Expanding.{DeclaredHolds}
use Rattle.constant_laws.proofs.Translating.{coherent_maps_into, class_translated, value_translated, translated_alike, value_at_alike, alike_through, alike_back}
use Rattle.link_laws.proofs.Onces.{Apart, Once, once_append, once_names, once_apart, member_declared, HoldAfter, after_declarations, hold_append}
use Rattle.link_laws.proofs.WordsHold.{map_grows, theory_at, flat_once, includes_theories}
use Rattle.link_laws.proofs.ImagesHold.{SettingHolds, covering_holds, alike_itself}
use Rattle.link_laws.proofs.AssignedHold.{reached_holds, ItemHolds, Due, Held, Copied, alike_due, own_due}
use Rattle.std.proofs.lemmas.Option.{same_Some}

-- ---- one more mapping

map_more : (done : Signature) (to more : Signature) (so_far : HeadMap) (d : Declaration) (m : Mapping) → IsCoherentMap done to so_far → Grows to more → m.name ≡ d.name → ClassHolds more m.image.class → ValueHolds more m.image.class m.image.value → AlikeClasses m.image.class d.class
    → IsCoherentMap (done ++ d ∷ []) more (so_far ++ m ∷ [])
map_more done to more so_far d m k g n c v a =
    let q = map_grows done to more so_far g k in
    record {
      names = names_last so_far m done d k.names n;
      holds = λ i x h. ⊎_elim (λ p. q.holds i x p) (λ p. subst (λ (z : Mapping). ClassHolds more z.image.class × ValueHolds more z.image.class z.image.value) p.1 (c, v)) (get_more so_far m x i h);
      alike = λ i x e h l. by i x e (get_more so_far m x i h) (get_more done d e i l);
    }
  where
    by : (i : ℕ) (x : Mapping) (e : Declaration) → (slice_get so_far i ≡ Some x) ⊎ ((i ≡ length so_far) × (m ≡ x)) → (slice_get done i ≡ Some e) ⊎ ((i ≡ length done) × (d ≡ e)) → AlikeClasses x.image.class e.class
    by i x e (inl p) (inl q) = k.alike i x e p q
    by i x e (inl p) (inr q) = absurd (let l = place_within so_far i x p in let s = same_length so_far done k.names in let t = q.0 in omega (arith, l, s, t))
    by i x e (inr p) (inl q) = absurd (let l = place_within done i e q in let s = same_length so_far done k.names in let t = p.0 in omega (arith, l, s, t))
    by i x e (inr p) (inr q) = subst (λ (z : Mapping). AlikeClasses z.image.class e.class) p.1 (subst (λ (z : Declaration). AlikeClasses m.image.class z.class) q.1 a)

-- ---- induced constants

level_of_class : (signature : Signature) (c : Constant) (class : Class) → class_of signature c ≡ Some class → SameLevel signature c class
level_of_class signature c (FamilyClass a) h = (a, h)
level_of_class signature c (KindClass k) h = (k, h, refl)

defined_holds_by : (signature : Signature) (class : Class) (b : Bool) (other : Constant) → ValueHolds signature class (SameAs other) → OptionalValueHolds signature class (cond b None (Some (SameAs other)))
defined_holds_by signature class true other h = tt
defined_holds_by signature class false other h = h

defined_holds : (signature : Signature) (class : Class) (c : Constant) (value : Value) → ValueHolds signature class value → OptionalValueHolds signature class (defined_by c value)
defined_holds signature class c (SameAs other) h = defined_holds_by signature class (same_constant other c) other h
defined_holds signature class c (TermValue m) h = h
defined_holds signature class c (FamilyValue n body) h = h

pub undefined_itself : (c : Constant) → defined_by c (SameAs c) ≡ None
undefined_itself c = ap (λ b. cond b None (Some (SameAs c))) (same_constant_itself c)

optional_translated : (from to : Signature) (along : HeadMap) → MapsInto from to along → (class : Class) (value : Option Value) → OptionalValueHolds from class value → OptionalValueHolds to (translate_class along class) (option_map (translate_value along) value)
optional_translated from to along into class None h = tt
optional_translated from to along into class (Some value) h = value_translated from to along into class value h

module _ (setting : Setting) where
  abbrev pub added_by : Bool → Option Name → Declaration → Mapping → Signature
  added_by true (Some structure) d m = induced_with (induced_constant setting structure d.name) m.image ∷ []
  added_by true None d m = []
  added_by false structure d m = []

  abbrev pub added : Declaration → Mapping → Signature
  added d m = added_by (is_own setting d) setting.structure d m

  abbrev pub added_all : Signature → HeadMap → Signature
  added_all [] along = []
  added_all (d ∷ ds) [] = []
  added_all (d ∷ ds) (m ∷ ms) = added d m ++ added_all ds ms

  module _ (ok : SettingHolds setting) (assigned : List Assigned) (items : (a : Assigned) → Member a assigned → ItemHolds setting ok a) where
    abbrev flat : Signature
    flat = flat_of setting.environment setting.domain

    abbrev before : Signature
    before = scope_signature setting.scope

    settled : IsSettled setting
    settled = record { coherent = ok.coherent; theory = ok.theory }

    flat_is_once : Once flat
    flat_is_once = flat_once setting.environment ok.coherent setting.domain

    -- an own constant stands in the own part
    own_in : (d : Declaration) → Member d flat → is_own setting d ≡ true → Member d (own_part setting.environment setting.domain)
    own_in d m o =
        ⊎_elim
        (λ n. let q = in_flat_map (own_part setting.environment) (included_theories setting) d n in
        absurd (includes_other setting.environment ok.coherent setting.domain q.0 (member_among (included_theories setting) q.0 q.1)
        (sym (own_named setting.environment ok.coherent q.0 d q.2) ∙ same_sound d.name.theory setting.domain o)))
        (λ n. n) (in_append (own_parts setting.environment (included_theories setting)) (own_part setting.environment setting.domain) d m)

    own_path : (d : Declaration) → Member d (own_part setting.environment setting.domain) → 0 < length d.name.path
    own_path d m = by (theory_of setting.environment setting.domain) refl m
      where
        by : (o : Option TheoryFace) → theory_of setting.environment setting.domain ≡ o → Member d (own_of o) → 0 < length d.name.path
        by None e n = absurd n
        by (Some face) e n = let p = member_place face.own d n in (theory_at setting.environment ok.coherent setting.domain face e).own_paths p.0 d p.1

    -- what the scope declares, over more
    scope_declares : (signature : Signature) → Once (before ++ signature) → (d : Declaration) → Member d before → DeclaredHolds (before ++ signature) d
    scope_declares signature o d m =
        let n = append_left before signature d m in
        let p = member_place (before ++ signature) d n in
        let q = member_place before d m in
        record {
          class = class_in (before ++ signature) (once_names (before ++ signature) o) p.0 d p.1;
          class_holds = class_grows before (before ++ signature) (front_grows before signature) d.class (class_at before (after_declarations before ok.holds) q.0 d q.1);
          value_holds = optional_grows before (before ++ signature) (front_grows before signature) d.class d.value (value_at before (after_declarations before ok.holds) q.0 d q.1);
        }

    -- ---- the value of one constant

    covering_items : (place : ℕ) (first : Span) (by : Link) → slice_get assigned place ≡ Some (Covering first by) → ItemHolds setting ok (Covering first by)
    covering_items place first by s = items (Covering first by) (place_member assigned place (Covering first by) s)

    first_value : (o : Option HeadMap) (c : Constant) (value : Value) → value_by o c ≡ Some value → (along : HeadMap) × (o ≡ Some along) × (value_in along c ≡ Some value)
    first_value None c value h = absurd (cc)
    first_value (Some along) c value h = (along, refl, h)

    value_due : (b : Bool) (ind : Signature) (class : Class) (definition : Option Value) (d : Declaration) (value : Value) → is_own setting d ≡ b → Once (before ++ ind) → Member d flat → ClassHolds (before ++ ind) class → OptionalValueHolds (before ++ ind) class definition → AlikeClasses class d.class
        → image_by setting assigned b class definition d ≡ Ok value → Due setting ok (before ++ ind) class d value
    value_due true ind class definition d value e o m c g k h =
        own_due setting ok assigned items (before ++ ind) (front_grows before ind) (scope_declares ind o) (reached_by assigned d.name.path) class definition d value (reached_holds assigned d.name.path) c g k (own_in d m e)
        (own_sound setting (reached_by assigned d.name.path) class definition d value h)
    value_due false ind class definition d value e o m c g k h =
        let i = included_in setting assigned settled d m e in
        let v = there_refused (covered_value setting assigned d) setting.span Rule.IncludeNotCovered (d.name.theory ∷ []) value h in
        let f = first_value (first_covering setting assigned d.name.theory) d.name value v in
        alike_due setting ok assigned items (before ++ ind) (front_grows before ind) (scope_declares ind o) class d d value k (alike_itself d.class)
        (covering_holds setting ok assigned d.name.theory f.0 d value covering_items
        (includes_theories setting.environment ok.coherent setting.domain d.name.theory (member_among (included_theories setting) d.name.theory i.0))
        (first_is_covering setting assigned d.name.theory f.0 f.1) i.1 f.2)

    -- ---- the walk

    -- each induced constant is induced from an own one that was met
    abbrev FromDone : Signature → Signature → Type 0
    FromDone done ind =
        (e : Declaration) → Member e ind → (structure : Name) × (setting.structure ≡ Some structure) × ((d : Declaration) × Member d done × (is_own setting d ≡ true) × (e.name ≡ induced_constant setting structure d.name))

    record State (done : Signature) (so_far : HeadMap) (ind : Signature) : Type 0 where
      map_is : IsCoherentMap done (before ++ ind) so_far
      once : Once (before ++ ind)
      holds : HoldAfter before ind
      from : FromDone done ind

    state_more : (done : Signature) (so_far : HeadMap) (ind : Signature) (d : Declaration) (m : Mapping) → State done so_far ind → m.name ≡ d.name → ClassHolds (before ++ ind) m.image.class → ValueHolds (before ++ ind) m.image.class m.image.value → AlikeClasses m.image.class d.class → State (done ++ d ∷ []) (so_far ++ m ∷ []) ind
    state_more done so_far ind d m s n c v a =
        record {
          map_is = map_more done (before ++ ind) (before ++ ind) so_far d m s.map_is (λ c class h. h) n c v a;
          once = s.once;
          holds = s.holds;
          from = λ e q. let r = s.from e q in let t = r.2 in (r.0, r.1, (t.0, append_left done (d ∷ []) t.0 t.1, t.2, t.3));
        }

    paths_same : {x y : Name} {xs ys : Path} → x ∷ xs ≡ y ∷ ys → xs ≡ ys
    paths_same h = cc

    state_added : (structure : Name) (done : Signature) (so_far : HeadMap) (ind : Signature) (d : Declaration) (m : Mapping) → setting.structure ≡ Some structure → is_own setting d ≡ true → Member d flat → ((e : Declaration) → Member e done → Member e flat × (e.name ≡ d.name → ⊥)) → State done so_far ind → m.name ≡ d.name
        → ClassHolds (before ++ ind) m.image.class → Due setting ok (before ++ ind) m.image.class d m.image.value → AlikeClasses m.image.class d.class
        → State (done ++ d ∷ []) (so_far ++ m ∷ []) (ind ++ induced_with (induced_constant setting structure d.name) m.image ∷ [])
    state_added structure done so_far ind d m e o mem others s n c due a =
        record {
          map_is = map_more done (before ++ ind) (before ++ (ind ++ new ∷ [])) so_far d m s.map_is grown n (class_grows (before ++ ind) (before ++ (ind ++ new ∷ [])) grown m.image.class c) (value_of due) a;
          once = once;
          holds = hold_append before ind (new ∷ []) s.holds (c, optional_of due, tt);
          from = λ x q. ⊎_elim (λ p. let r = s.from x p in let t = r.2 in (r.0, r.1, (t.0, append_left done (d ∷ []) t.0 t.1, t.2, t.3)))
              (λ p. ⊎_elim (λ w. (structure, e, (d, append_right done (d ∷ []) d (inl refl), o, ap (λ z. z.name) w))) (λ w. absurd w) p) (in_append ind (new ∷ []) x q);
        }
      where
        new : Declaration
        new = induced_with (induced_constant setting structure d.name) m.image

        one_structure : (other : Name) → setting.structure ≡ Some other → other ≡ structure
        one_structure other g = same_Some _ _ (sym g ∙ e)

        apart : Apart (before ++ ind) (new ∷ [])
        apart x y p (inr w) q = absurd w
        apart x y p (inl w) q =
            ⊎_elim
            (λ k. let named : x.name ≡ induced_constant setting structure d.name = q ∙ ap (λ z. z.name) w in
            let own = ok.own_named x k (ap (λ z. z.theory) named) in
            ok.fresh structure e x own d.name.path (ap (λ z. z.path) named) (own_path d (own_in d mem o)))
            (λ k. let r = s.from x k in
            let t = r.2 in
            let named : induced_constant setting r.0 (t.0).name ≡ induced_constant setting structure d.name = sym t.3 ∙ q ∙ ap (λ z. z.name) w in
            let theories : (t.0).name.theory ≡ d.name.theory = same_sound (t.0).name.theory setting.domain t.2 ∙ sym (same_sound d.name.theory setting.domain o) in
            let paths : (t.0).name.path ≡ d.name.path = paths_same (ap (λ z. z.path) named) in
            (others t.0 t.1).1 (ap₂ (λ x y. made x y) theories paths))
            (in_append before ind x p)
          where
            made : Name → Path → Constant
            made theory path = record { theory = theory; path = path }

        once : Once (before ++ (ind ++ new ∷ []))
        once = subst Once (append_assoc before ind (new ∷ [])) (once_append (before ++ ind) (new ∷ []) s.once ((λ x p. absurd p), tt) apart)

        grown : Grows (before ++ ind) (before ++ (ind ++ new ∷ []))
        grown = subst (Grows (before ++ ind)) (append_assoc before ind (new ∷ [])) (front_grows (before ++ ind) (new ∷ []))

        copied_class : (structure' : Name) → setting.structure ≡ Some structure' → m.image.value ≡ SameAs (induced_constant setting structure' d.name) → m.image.value ≡ SameAs (induced_constant setting structure d.name)
        copied_class other g h = h ∙ ap (λ z. SameAs (induced_constant setting z d.name)) (one_structure other g)

        value_of : Due setting ok (before ++ ind) m.image.class d m.image.value → ValueHolds (before ++ (ind ++ new ∷ [])) m.image.class m.image.value
        value_of (Held v) = value_grows (before ++ ind) (before ++ (ind ++ new ∷ [])) grown m.image.class m.image.value v
        value_of (Copied other g h) =
            let q = copied_class other g h in
            let w : new.value ≡ None = ap (defined_by new.name) q ∙ undefined_itself new.name in
            let found = member_declared (before ++ (ind ++ new ∷ [])) once new (append_right before (ind ++ new ∷ []) new (append_right ind (new ∷ []) new (inl refl))) in
            subst (ValueHolds (before ++ (ind ++ new ∷ [])) m.image.class) (sym q)
            (level_of_class (before ++ (ind ++ new ∷ [])) new.name m.image.class (ap declared_class found ∙ ap (λ v. undefined_class v m.image.class) w))

        optional_of : Due setting ok (before ++ ind) m.image.class d m.image.value → OptionalValueHolds (before ++ ind) m.image.class new.value
        optional_of (Held v) = defined_holds (before ++ ind) m.image.class new.name m.image.value v
        optional_of (Copied other g h) = subst (OptionalValueHolds (before ++ ind) m.image.class) (sym (ap (defined_by new.name) (copied_class other g h) ∙ undefined_itself new.name)) tt

    held_of : (signature : Signature) (class : Class) (d : Declaration) (value : Value) → setting.structure ≡ None → Due setting ok signature class d value → ValueHolds signature class value
    held_of signature class d value e (Held v) = v
    held_of signature class d value e (Copied structure g h) = absurd (let q = sym e ∙ g in cc)

    step : (b : Bool) (structure : Option Name) (done : Signature) (so_far : HeadMap) (ind : Signature) (d : Declaration) (m : Mapping) → is_own setting d ≡ b → setting.structure ≡ structure → Member d flat → ((e : Declaration) → Member e done → Member e flat × (e.name ≡ d.name → ⊥)) → State done so_far ind → m.name ≡ d.name
        → ClassHolds (before ++ ind) m.image.class → Due setting ok (before ++ ind) m.image.class d m.image.value → (b ≡ false → ValueHolds (before ++ ind) m.image.class m.image.value) → AlikeClasses m.image.class d.class
        → State (done ++ d ∷ []) (so_far ++ m ∷ []) (ind ++ added_by b structure d m)
    step true (Some structure) done so_far ind d m e g mem others s n c due held a = state_added structure done so_far ind d m g e mem others s n c due a
    step true None done so_far ind d m e g mem others s n c due held a =
        subst (State (done ++ d ∷ []) (so_far ++ m ∷ [])) (sym (append-nil ind)) (state_more done so_far ind d m s n c (held_of (before ++ ind) m.image.class d m.image.value g due) a)
    step false structure done so_far ind d m e g mem others s n c due held a =
        subst (State (done ++ d ∷ []) (so_far ++ m ∷ [])) (sym (append-nil ind)) (state_more done so_far ind d m s n c (held refl) a)

    included_held : (ind : Signature) (class : Class) (d : Declaration) (value : Value) → Member d flat → Once (before ++ ind) → AlikeClasses class d.class → covered_value setting assigned d ≡ Some value → is_own setting d ≡ false → ValueHolds (before ++ ind) class value
    included_held ind class d value m o k v e =
        let i = included_in setting assigned settled d m e in
        let f = first_value (first_covering setting assigned d.name.theory) d.name value v in
        let h = covering_holds setting ok assigned d.name.theory f.0 d value covering_items
        (includes_theories setting.environment ok.coherent setting.domain d.name.theory (member_among (included_theories setting) d.name.theory i.0))
        (first_is_covering setting assigned d.name.theory f.0 f.1) i.1 f.2 in
        value_at_alike (before ++ ind) h.class class value
        (alike_through h.class d.class class h.alike (alike_back class d.class k))
        (value_grows before (before ++ ind) (front_grows before ind) h.class value h.holds)

    held_by : (b : Bool) (ind : Signature) (class : Class) (definition : Option Value) (d : Declaration) (value : Value) → is_own setting d ≡ b → Member d flat → Once (before ++ ind) → AlikeClasses class d.class → image_by setting assigned b class definition d ≡ Ok value → b ≡ false → ValueHolds (before ++ ind) class value
    held_by true ind class definition d value e m o k h g = absurd (true≢false g)
    held_by false ind class definition d value e m o k h g =
        included_held ind class d value m o k (there_refused (covered_value setting assigned d) setting.span Rule.IncludeNotCovered (d.name.theory ∷ []) value h) e

    walk : (ds later done : Signature) (so_far rest : HeadMap) (ind : Signature) → flat ≡ done ++ (ds ++ later) → Follows setting assigned ds so_far rest → State done so_far ind → State (done ++ ds) (so_far ++ rest) (ind ++ added_all ds rest)
    walk [] later done so_far rest ind e f s =
        subst (λ z. State z (so_far ++ rest) (ind ++ [])) (sym (append-nil done))
        (subst (λ z. State done z (ind ++ [])) (sym (ap (λ z. so_far ++ z) f ∙ append-nil so_far)) (subst (State done so_far) (sym (append-nil ind)) s))
    walk (d ∷ ds) later done so_far rest ind e f s =
        let m : Mapping = mapping_to so_far d f.value in
        let into : MapsInto done (before ++ ind) so_far = coherent_maps_into done (before ++ ind) so_far s.map_is in
        let hold = declared done e in
        let class = class_translated done (before ++ ind) so_far into d.class hold.0 in
        let definition = optional_translated done (before ++ ind) so_far into d.class d.value hold.1 in
        let due = value_due (is_own setting d) ind (translate_class so_far d.class) (option_map (translate_value so_far) d.value) d f.value refl s.once (there e) class definition (translated_alike so_far d.class) f.is in
        let held = held_by (is_own setting d) ind (translate_class so_far d.class) (option_map (translate_value so_far) d.value) d f.value refl (there e) s.once (translated_alike so_far d.class) f.is in
        let next = step (is_own setting d) setting.structure done so_far ind d m refl refl (there e) (others e) s refl class due held (translated_alike so_far d.class) in
        let end = walk ds later (done ++ d ∷ []) (so_far ++ m ∷ []) f.more (ind ++ added d m) (e ∙ sym (append_assoc done (d ∷ []) (ds ++ later))) f.follow next in
        subst (λ z. State (done ++ d ∷ ds) (so_far ++ z) (ind ++ added_all (d ∷ ds) z)) (sym f.parts)
        (subst (λ z. State (done ++ d ∷ ds) z (ind ++ (added d m ++ added_all ds f.more))) (append_assoc so_far (m ∷ []) f.more)
        (subst (State (done ++ d ∷ ds) ((so_far ++ m ∷ []) ++ f.more)) (append_assoc ind (added d m) (added_all ds f.more))
        (subst (λ z. State z ((so_far ++ m ∷ []) ++ f.more) ((ind ++ added d m) ++ added_all ds f.more)) (append_assoc done (d ∷ []) ds) end)))
      where
        there : flat ≡ done ++ d ∷ (ds ++ later) → Member d flat
        there e = subst (Member d) (sym e) (append_right done (d ∷ (ds ++ later)) d (inl refl))

        others : flat ≡ done ++ d ∷ (ds ++ later) → (x : Declaration) → Member x done → Member x flat × (x.name ≡ d.name → ⊥)
        others e x p = (subst (Member x) (sym e) (append_left done (d ∷ (ds ++ later)) x p), once_apart done (d ∷ (ds ++ later)) (subst Once e flat_is_once) x d p (inl refl))

        at : (ys : Signature) → slice_get (ys ++ d ∷ (ds ++ later)) (length ys) ≡ Some d
        at [] = refl
        at (y ∷ ys) = at ys

        declared : (xs : Signature) → flat ≡ xs ++ d ∷ (ds ++ later) → ClassHolds xs d.class × OptionalValueHolds xs d.class d.value
        declared xs e =
            let h = subst DeclarationsHold e (declarations_hold setting.environment ok.coherent setting.domain ok.theory) (length xs) d (at xs) in
            let front : take (length xs) (xs ++ d ∷ (ds ++ later)) ≡ xs = take_front xs (d ∷ (ds ++ later)) (length xs) (omega arith) ∙ take_length xs in
            (subst (λ z. ClassHolds z d.class) front h.0, subst (λ z. OptionalValueHolds z d.class d.value) front h.1)

    -- ---- the map of a front, and the whole map

    pub record MapHolds (front : Signature) (along : HeadMap) : Type 0 where
      pub map_is : IsCoherentMap front (before ++ added_all front along) along
      pub once : Once (before ++ added_all front along)
      pub holds : HoldAfter before (added_all front along)

    pub front_holds : (front back : Signature) (along : HeadMap) → flat ≡ front ++ back → map_all setting assigned [] front ≡ Ok along → MapHolds front along
    front_holds front back along e h =
        let w = walk_follows setting assigned front [] along h in
        let s = walk front back [] [] w.0 [] e w.2 start in
        subst (MapHolds front) (sym w.1) (record { map_is = s.map_is; once = s.once; holds = s.holds })
      where
        start : State [] [] []
        start =
            record {
              map_is = record { names = refl; holds = λ i m h. absurd (cc); alike = λ i m d h g. absurd (cc) };
              once = subst Once (sym (append-nil before)) ok.once;
              holds = tt;
              from = λ e q. absurd q;
            }

    pub map_holds : (along : HeadMap) → map_all setting assigned [] flat ≡ Ok along → MapHolds flat along
    map_holds along h = front_holds flat [] along (sym (append-nil flat)) h
