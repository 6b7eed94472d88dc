-- The values that coverings give to included constants fit their translated classes.
use Rattle.std.proofs.Common.{◌≡◌, ℕ, Bool, true, false, List, [], ◌∷◌, ◌++◌, take, slice_get, Option, Some, None, is_some, option_map, ◌||◌, ⊎_elim, refl, sym, ap, ◌∙◌, subst, subst₂}
use Rattle.std.proofs.lemmas.Bool.{or_cases}
use Rattle.name_meaning.specs.Names.{Name, same_name}
use Rattle.lf_meaning.specs.Terms.{Constant}
use Rattle.lf_meaning.specs.Signatures.{Class, Value, Declaration, Signature, declaration_of, class_of}
use Rattle.lf_meaning.specs.Judgements.{Fits, ValueFits, IsDeclaration, IsSignature}
use Rattle.lf_typing.proofs.Declared.{declared_as}
use Rattle.lf_typing.proofs.Growing.{signature_shrinks}
use Rattle.list_laws.proofs.Members.{Member, in_append, append_left, append_right, in_flat_map, place_member, member_place}
use Rattle.name_laws.proofs.Order.{among_member, member_among, same_sound, same_itself}
use Rattle.lf_meaning.specs.HeadMaps.{Image, HeadMap, image_of}
use Rattle.translation_meaning.specs.Translation.{translate_class, translate_value}
use Rattle.translation_meaning.specs.Differ.{value_in}
use Rattle.translation_meaning.specs.ProperValues.{IsProperValue, ValuesAreProper}
use Rattle.translation_meaning.specs.TypedMaps.{KeepsValue, IsTypedAt, IsTypedMap}
use Rattle.translation_typing.proofs.DeclaredTyped.{declared_typed}
use Rattle.library_meaning.specs.Faces.{Environment, theory_of, includes_of, own_part, own_parts, flat_of}
use Rattle.library_meaning.specs.Closure.{sees}
use Rattle.library_meaning.specs.Holding.{OptionalValueHolds}
use Rattle.library_meaning.specs.Coherence.{IsCoherentMap}
use Rattle.library_meaning.specs.Words.{Link, own_value, identity_mapping, identity_map}
use Rattle.text_meaning.specs.Tokens.{Span}
use Rattle.link_meaning.specs.Assignments.{Setting, is_or_includes, included_theories, Assigned, Covering}
use Rattle.link_meaning.specs.Coverings.{is_identity_covering, identity_on}
use Rattle.link_meaning.specs.Passes.{is_own}
use Rattle.link_meaning.specs.Equations.{IsCovering, ByIdentity, ByAssignment, CoveringsGive, HasValue, HasValueBy, MeetsEquations}
use Rattle.link_laws.proofs.Linked.{own_named, own_by, includes_other, included_in, declarations_hold}
use Rattle.constant_laws.specs.HoldingLaws.{Grows}
use Rattle.constant_laws.specs.ExpansionHolds.{scope_signature}
use Rattle.constant_laws.proofs.Translating.{placed_in}
use Rattle.link_laws.specs.LinkTargets.{target_of}
use Rattle.link_laws.proofs.Onces.{Once, declaration_member, member_declared, own_is_once}
use Rattle.link_laws.proofs.WordsHold.{flat_once, includes_closed, includes_theories, included_members}
use Rattle.link_laws.proofs.ImagesHold.{SettingHolds, identity_grows, valued}
use Rattle.face_typing.proofs.LinkInterface.{SettingTyped}
use Rattle.morphism_words_typing.proofs.Grown.{fits_more}
use Rattle.morphism_words_typing.proofs.WordsTyped.{flat_typed}
use Rattle.morphism_words_typing.proofs.SameValues.{SameAt, classes_same, values_same}
use Rattle.morphism_words_typing.proofs.Identity.{identity_image, identity_typed}
use Rattle.morphism_words_typing.proofs.SharedParts.{spreads}
use Rattle.morphism_words_typing.proofs.ProperImages.{value_proper, images_proper}
use Rattle.face_typing.proofs.Assigning.{ItemTyped}
use Rattle.std.proofs.lemmas.Option.{same_Some}
use Rattle.lf_term_laws.proofs.Declarations.{undefined_is}

-- a constant of a signature, as a declaration of it
pub record KnownAs (sig : Signature) (c : Constant) (class : Class) : Type 0 where
  pub declaration : Declaration
  pub there : Member declaration sig
  pub named : declaration.name ≡ c
  pub classed : declaration.class ≡ class

pub known_as : (sig : Signature) (c : Constant) (class : Class) → class_of sig c ≡ Some class → KnownAs sig c class
known_as sig c class h =
    let d = declared_as sig c class h in
    let m = declaration_member sig c d.declaration d.found in
    record { declaration = d.declaration; there = m.0; named = m.1; classed = undefined_is d.declaration.value d.declaration.class class d.classified }

-- of two declarations of a signature with each name once
pub same_declaration : (sig : Signature) → Once sig → (x y : Declaration) → Member x sig → Member y sig → x.name ≡ y.name → x ≡ y
same_declaration sig o x y m n e = same_Some _ _ (sym (member_declared sig o x m) ∙ ap (declaration_of sig) e ∙ member_declared sig o y n)

module _ (setting : Setting) (ok : SettingHolds setting) (typed : SettingTyped setting) where
  abbrev pub environment : Environment
  environment = setting.environment

  abbrev pub flat : Signature
  flat = flat_of setting.environment setting.domain

  abbrev pub before : Signature
  before = scope_signature setting.scope

  abbrev pub included : Signature
  included = own_parts setting.environment (included_theories setting)

  pub flat_is : IsSignature flat
  flat_is = flat_typed setting.environment ok.coherent typed.environment setting.domain

  pub flat_is_once : Once flat
  flat_is_once = flat_once setting.environment ok.coherent setting.domain

  -- an included constant is not an own one
  pub not_own : (d : Declaration) → Member d included → is_own setting d ≡ false
  not_own d m =
      let q = in_flat_map (own_part setting.environment) (included_theories setting) d m in
      own_by setting [] (record { coherent = ok.coherent; theory = ok.theory }) d q.0 (own_named setting.environment ok.coherent q.0 d q.2) (includes_other setting.environment ok.coherent setting.domain q.0 (member_among (included_theories setting) q.0 q.1))

  -- a theory is, or includes, that of each of its constants
  pub theory_reaches : (theory : Name) (x : Declaration) → Member x (flat_of setting.environment theory) → is_or_includes setting.environment theory x.name.theory ≡ true
  theory_reaches theory x m =
      ⊎_elim
      (λ n. let q = in_flat_map (own_part setting.environment) (includes_of (theory_of setting.environment theory)) x n in
      ap (λ z. same_name theory z || sees (includes_of (theory_of setting.environment theory)) z) (own_named setting.environment ok.coherent q.0 x q.2)
      ∙ or_right (same_name theory q.0) (sees (includes_of (theory_of setting.environment theory)) q.0) (member_among (includes_of (theory_of setting.environment theory)) q.0 q.1))
      (λ n. ap (λ z. same_name theory z || sees (includes_of (theory_of setting.environment theory)) z) (own_named setting.environment ok.coherent theory x n)
      ∙ or_left (same_name theory theory) (sees (includes_of (theory_of setting.environment theory)) theory) (same_itself theory))
      (in_append (own_parts setting.environment (includes_of (theory_of setting.environment theory))) (own_part setting.environment theory) x m)
    where
      or_left : (a b : Bool) → a ≡ true → (a || b) ≡ true
      or_left a b e = ap (λ z. z || b) e

      or_right : (a b : Bool) → b ≡ true → (a || b) ≡ true
      or_right true b e = refl
      or_right false b e = e

  -- what a theory has, a theory that is it or includes it has
  pub reached_member : (theory other : Name) (d : Declaration) → is_or_includes setting.environment theory other ≡ true → Member d (flat_of setting.environment other) → Member d (flat_of setting.environment theory)
  reached_member theory other d t m =
      ⊎_elim (λ e. subst (λ z. Member d (flat_of setting.environment z)) (sym (same_sound theory other e)) m)
      (λ e. append_left (own_parts setting.environment (includes_of (theory_of setting.environment theory))) (own_part setting.environment theory) d
      (included_members setting.environment ok.coherent (includes_of (theory_of setting.environment theory)) (includes_closed setting.environment ok.coherent theory) other (among_member (includes_of (theory_of setting.environment theory)) other e) d m))
      (or_cases (same_name theory other) (sees (includes_of (theory_of setting.environment theory)) other) t)

  module _ (assigned : List Assigned) (along : HeadMap) (meets : MeetsEquations setting assigned along) (to : Signature) (coherent_map : IsCoherentMap (flat_of setting.environment setting.domain) to along) where
    pub proper : ValuesAreProper along
    proper = images_proper flat to along coherent_map

    -- the image of a constant of the domain
    pub record ImageAt (d : Declaration) : Type 0 where
      pub image : Image
      pub mapped : image_of along d.name ≡ Some image
      pub class_is : image.class ≡ translate_class along d.class
      pub value_is : HasValue setting assigned (translate_class along d.class) (option_map (translate_value along) d.value) d image.value

    pub image_at : (d : Declaration) → Member d flat → ImageAt d
    image_at d m =
        let p = placed_in d.name d flat along coherent_map.names (member_declared flat flat_is_once d m) in
        record { image = p.mapping.image; mapped = p.image; class_is = meets.classes p.place p.mapping d p.mapped p.declared; value_is = meets.values p.place p.mapping d p.mapped p.declared }

    pub covered_value : (d : Declaration) → Member d included → (class : Class) (definition : Option Value) (value : Value) → HasValue setting assigned class definition d value → CoveringsGive setting assigned d value
    covered_value d m class definition value h = subst (λ b. HasValueBy setting assigned b class definition d value) (not_own d m) h

    -- what a covering says of a constant, where the constants before it are typed
    pub record CoveredFits (d : Declaration) (value : Value) : Type 0 where
      pub fits : Fits before value (translate_class along d.class)
      pub keeps : (v : Value) → d.value ≡ Some v → value ≡ translate_value along v

    -- ---- identities

    identity_covering : (theory : Name) → Member theory (included_theories setting) → is_identity_covering setting assigned theory ≡ true → (x : Declaration) → Member x (flat_of setting.environment theory) → is_identity_covering setting assigned x.name.theory ≡ true
    identity_covering theory k i x m =
        ⊎_elim (λ e. subst (λ z. is_identity_covering setting assigned z ≡ true) (same_sound theory x.name.theory e) i) (λ e. spreads setting ok.coherent assigned theory x.name.theory k e i)
        (or_cases (same_name theory x.name.theory) (sees (includes_of (theory_of setting.environment theory)) x.name.theory) (theory_reaches theory x m))

    identity_own : (sig : Signature) → Once sig → (x : Declaration) → Member x sig → value_in (identity_map sig) x.name ≡ Some (own_value x x.value)
    identity_own sig o x m = ap (option_map (λ (z : Image). z.value)) (identity_image sig x.name ∙ ap (option_map (λ (z : Declaration). (identity_mapping z).image)) (member_declared sig o x m))

    -- an own constant of its theory
    own_there : (theory : Name) (x : Declaration) → Member x (flat_of setting.environment theory) → Member x (own_part setting.environment x.name.theory)
    own_there theory x m =
        ⊎_elim
        (λ n. let q = in_flat_map (own_part setting.environment) (includes_of (theory_of setting.environment theory)) x n in subst (λ z. Member x (own_part setting.environment z)) (sym (own_named setting.environment ok.coherent q.0 x q.2)) q.2)
        (λ n. subst (λ z. Member x (own_part setting.environment z)) (sym (own_named setting.environment ok.coherent theory x n)) n)
        (in_append (own_parts setting.environment (includes_of (theory_of setting.environment theory))) (own_part setting.environment theory) x m)

    identity_value : (theory : Name) → Member theory (included_theories setting) → is_identity_covering setting assigned theory ≡ true → (x : Declaration) → Member x (flat_of setting.environment theory) → (value : Value) → CoveringsGive setting assigned x value
        → value_in (identity_map (flat_of setting.environment theory)) x.name ≡ Some value
    identity_value theory k i x m value g =
        let given = g.give (identity_on setting x.name.theory) (ByIdentity (identity_covering theory k i x m) refl) in
        identity_own (flat_of setting.environment theory) (flat_once setting.environment ok.coherent theory) x m
        ∙ sym (identity_own (own_part setting.environment x.name.theory) (own_is_once setting.environment ok.coherent x.name.theory) x (own_there theory x m)) ∙ given

    optional_proper : (sig : Signature) (class : Class) (o : Option Value) (v : Value) → OptionalValueHolds sig class o → o ≡ Some v → IsProperValue v
    optional_proper sig class None v h e = absurd (cc)
    optional_proper sig class (Some w) v h e = subst IsProperValue (same_Some _ _ e) (value_proper sig class w h)

    own_proper : (theory : Name) → is_some (theory_of setting.environment theory) ≡ true → (j : ℕ) (x : Declaration) → slice_get (flat_of setting.environment theory) j ≡ Some x → (v : Value) → x.value ≡ Some v → IsProperValue v
    own_proper theory s j x e v q = let h = declarations_hold setting.environment ok.coherent theory s j x e in optional_proper (take j (flat_of setting.environment theory)) x.class x.value v h.1 q

    module _ (done ds : Signature) (d : Declaration) (split : flat ≡ done ++ (d ∷ ds)) where
      pub done_is : IsSignature done
      done_is = signature_shrinks done (d ∷ ds) (subst IsSignature split flat_is)

      pub declared : IsDeclaration done d
      declared = flat_is done d ds split

      pub done_in : (x : Declaration) → Member x done → Member x flat
      done_in x m = subst (Member x) (sym split) (append_left done (d ∷ ds) x m)

      -- by a signature of included constants and a typed map of it
      module _ (from end : Signature) (by : HeadMap) (from_is : IsSignature from) (by_typed : IsTypedMap from end by) (grows : Grows end before) (inside : (x : Declaration) → Member x from → Member x included) (gives : (x : Declaration) → Member x from → (value : Value) → CoveringsGive setting assigned x value → value_in by x.name ≡ Some value) where
        by_at : (x : Declaration) → Member x from → IsTypedAt end by x
        by_at x m = let i = member_place from x m in by_typed i.0 x i.1

        in_flat : (x : Declaration) → Member x from → Member x flat
        in_flat x m = append_left included (own_part setting.environment setting.domain) x (inside x m)

        same_on : (c : Constant) (class found : Class) → class_of done c ≡ Some class → class_of from c ≡ Some found → (class ≡ found) × SameAt along by c class
        same_on c class found h g =
            let x = known_as done c class h in
            let y = known_as from c found g in
            let same : x.declaration ≡ y.declaration = same_declaration flat flat_is_once x.declaration y.declaration (done_in x.declaration x.there) (in_flat y.declaration y.there) (x.named ∙ sym y.named) in
            let i = image_at x.declaration (done_in x.declaration x.there) in
            let t = by_at y.declaration y.there in
            let there : Member x.declaration from = subst (λ z. Member z from) (sym same) y.there in
            let value : value_in by x.declaration.name ≡ Some i.image.value =
            gives x.declaration there i.image.value (covered_value x.declaration (inside x.declaration there) (translate_class along x.declaration.class) (option_map (translate_value along) x.declaration.value) i.image.value i.value_is) in
            let classes : class ≡ y.declaration.class = sym x.classed ∙ ap (λ (z : Declaration). z.class) same in (
              classes ∙ y.classed,
              record {
                one = i.image;
                other = t.image;
                one_is = ap (image_of along) (sym x.named) ∙ i.mapped;
                other_is = ap (image_of by) (sym y.named) ∙ t.mapped;
                one_class = i.class_is ∙ ap (translate_class along) x.classed;
                other_class = t.class ∙ ap (translate_class by) (sym classes);
                value = sym (valued by x.declaration.name t.image i.image.value (ap (image_of by) (x.named ∙ sym y.named) ∙ t.mapped) value);
              },
            )

        from_imaged : (c : Constant) (class : Class) → class_of from c ≡ Some class → (image : Image) × (image_of by c ≡ Some image)
        from_imaged c class h = let y = known_as from c class h in let t = by_at y.declaration y.there in (t.image, ap (image_of by) (sym y.named) ∙ t.mapped)

        pub covered_fits : Member d from → (value : Value) → CoveringsGive setting assigned d value → CoveredFits d value
        covered_fits m value h =
            let t = by_at d m in
            let i = member_place from d m in
            let k = declared_typed from from_is i.0 d i.1 in
            let is : t.image.value ≡ value = valued by d.name t.image value t.mapped (gives d m value h) in
            let class : translate_class along d.class ≡ translate_class by d.class = classes_same from from_is along by done done_is same_on from_imaged d.class declared.class_is k.class in
            record {
              fits = subst₂ (Fits before) is (t.class ∙ sym class) (fits_more end before grows t.image.class t.image.value t.fits);
              keeps = λ v q. (let own : Fits done v d.class = subst (λ z. ValueFits done z d.class) q declared.value_fits in
                  sym is ∙ subst (λ z. KeepsValue by z t.image) q t.value ∙ sym (values_same from from_is along by done done_is same_on from_imaged d.class v own (k.value v q)));
            }

      -- ---- the two kinds of coverings

      by_assignment : (items : (a : Assigned) → Member a assigned → ItemTyped setting ok typed a) → Member d (own_part setting.environment d.name.theory) → (value : Value) → CoveringsGive setting assigned d value
          → (place : ℕ) (first : Span) (by : Link) → slice_get assigned place ≡ Some (Covering first by) → is_or_includes setting.environment by.domain d.name.theory ≡ true → CoveredFits d value
      by_assignment items m value h place first by q t =
          let i = items (Covering first by) (place_member assigned place (Covering first by) q) in
          covered_fits (flat_of setting.environment by.domain) (target_of setting.environment setting.here by.codomain) by.map i.0.translates.source i.0.translates.typed (ok.reaches by.codomain i.1)
          (λ x n. included_members setting.environment ok.coherent (included_theories setting) (includes_closed setting.environment ok.coherent setting.domain) by.domain (among_member (included_theories setting) by.domain i.2) x n)
          (λ x n v g. g.give by.map (ByAssignment place first by q (theory_reaches by.domain x n) refl))
          (reached_member by.domain d.name.theory d t (append_right (own_parts setting.environment (includes_of (theory_of setting.environment d.name.theory))) (own_part setting.environment d.name.theory) d m))
          value h

      by_identity : Member d.name.theory (included_theories setting) → Member d (own_part setting.environment d.name.theory) → (value : Value) → CoveringsGive setting assigned d value → is_identity_covering setting assigned d.name.theory ≡ true → CoveredFits d value
      by_identity k m value h i =
          let theory : Name = d.name.theory in
          let known : is_some (theory_of setting.environment d.name.theory) ≡ true = includes_theories setting.environment ok.coherent setting.domain d.name.theory (member_among (included_theories setting) d.name.theory k) in
          let once : Once (flat_of setting.environment d.name.theory) = flat_once setting.environment ok.coherent d.name.theory in
          covered_fits (flat_of setting.environment d.name.theory) (flat_of setting.environment d.name.theory) (identity_map (flat_of setting.environment d.name.theory))
          (flat_typed setting.environment ok.coherent typed.environment d.name.theory)
          (identity_typed (flat_of setting.environment d.name.theory) (flat_typed setting.environment ok.coherent typed.environment d.name.theory)
          (λ j x e. member_declared (flat_of setting.environment d.name.theory) once x (place_member (flat_of setting.environment d.name.theory) j x e))
          (λ j x e v q. own_proper d.name.theory known j x e v q))
          (identity_grows setting ok assigned d.name.theory known i)
          (λ x n. included_members setting.environment ok.coherent (included_theories setting) (includes_closed setting.environment ok.coherent setting.domain) d.name.theory k x n)
          (λ x n v g. identity_value d.name.theory k i x n v g)
          (append_right (own_parts setting.environment (includes_of (theory_of setting.environment d.name.theory))) (own_part setting.environment d.name.theory) d m)
          value h

      pub included_fits : (items : (a : Assigned) → Member a assigned → ItemTyped setting ok typed a) → Member d included → (value : Value) → CoveringsGive setting assigned d value → CoveredFits d value
      included_fits items m value h =
          let k = included_in setting assigned (record { coherent = ok.coherent; theory = ok.theory }) d (append_left included (own_part setting.environment setting.domain) d m) (not_own d m) in
          by k.0 k.1 (h.covered).0 (h.covered).1
        where
          by : Member d.name.theory (included_theories setting) → Member d (own_part setting.environment d.name.theory) → (by : HeadMap) → IsCovering setting assigned d.name.theory by → CoveredFits d value
          by k n covering (ByIdentity i q) = by_identity k n value h i
          by k n covering (ByAssignment place first link q t e) = by_assignment items n value h place first link q t
