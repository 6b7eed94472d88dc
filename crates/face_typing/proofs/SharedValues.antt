-- The values that sharing links give to the constants of a structure fit their translated classes.
use Rattle.std.proofs.Common.{◌≡◌, ◌<◌, true, List, [], ◌∷◌, ◌++◌, length, Option, Some, None, option_map, inl, ⊎_elim, refl, sym, ap, ap₂, ◌∙◌, subst, subst₂, append_assoc, append-nil}
use Rattle.name_meaning.specs.Names.{Name, Path}
use Rattle.lf_meaning.specs.Terms.{Constant}
use Rattle.lf_meaning.specs.Signatures.{Class, Value, Declaration, Signature, class_of}
use Rattle.lf_meaning.specs.Judgements.{Fits, IsDeclaration, IsSignature}
use Rattle.lf_typing.proofs.Growing.{signature_shrinks}
use Rattle.list_laws.proofs.Members.{Member, in_append, append_left, append_right, filter_map_in, member_place}
use Rattle.lf_meaning.specs.HeadMaps.{Image, HeadMap, image_of}
use Rattle.translation_meaning.specs.Translation.{translate_class, translate_value, translate_image, compose}
use Rattle.translation_meaning.specs.Differ.{value_in}
use Rattle.translation_meaning.specs.ProperValues.{ValuesAreProper}
use Rattle.translation_meaning.specs.TypedMaps.{KeepsValue, IsTypedAt}
use Rattle.translation_laws.proofs.Spines.{composed}
use Rattle.translation_typing.specs.Composition.{AreComposable}
use Rattle.translation_typing.proofs.DeclaredTyped.{declared_typed}
use Rattle.translation_typing.proofs.Composing.{class_composed}
use Rattle.translation_typing.proofs.Composed.{composition_is_typed}
use Rattle.library_meaning.specs.Faces.{theory_face, Environment, theory_of, includes_of, own_part, own_parts, flat_of}
use Rattle.library_meaning.specs.Coherence.{IsCoherentMap}
use Rattle.library_meaning.specs.Words.{Link, structures_of, structures_link}
use Rattle.text_meaning.specs.Tokens.{Span}
use Rattle.link_meaning.specs.Assignments.{Setting, Assigned, Sharing}
use Rattle.link_meaning.specs.Passes.{ByStructure, reached_by, is_own}
use Rattle.link_meaning.specs.Equations.{IsDefinition, OwnHasValue, HasValueBy, MeetsEquations}
use Rattle.link_meaning.specs.Induced.{induced_with}
use Rattle.link_laws.proofs.Linked.{own_named}
use Rattle.constant_laws.specs.HoldingLaws.{Grows}
use Rattle.constant_laws.specs.ExpansionHolds.{scope_signature}
use Rattle.link_laws.specs.LinkTargets.{target_of}
use Rattle.link_laws.proofs.Onces.{Once}
use Rattle.link_laws.proofs.WordsHold.{flat_once, paths_of_theory}
use Rattle.link_laws.proofs.ImagesHold.{SettingHolds, Source, source_of, valued}
use Rattle.face_typing.proofs.LinkInterface.{SettingTyped}
use Rattle.morphism_words_typing.proofs.Grown.{fits_more}
use Rattle.morphism_words_typing.proofs.WordsTyped.{flat_typed}
use Rattle.morphism_words_typing.proofs.SameValues.{SameAt, classes_same}
use Rattle.morphism_words_typing.proofs.Places.{copy_at, copies_at, copies_append, copies_next, Split, split_member, image_through, typed_by_members, parts_of, LinkPlaced}
use Rattle.morphism_words_typing.proofs.PlacedLinks.{found, PlacedAs, link_placed}
use Rattle.face_typing.proofs.Assigning.{ItemTyped, TargetsFree, reached_behind}
use Rattle.face_typing.proofs.CoveredValues.{known_as, same_declaration, flat_is_once, reached_member, proper, image_at, done_is}
use Rattle.std.proofs.lemmas.Option.{same_Some}
use Rattle.name_laws.proofs.Order.{same_itself}
use Rattle.translation_typing.proofs.Proper.{proper_atomic_over}

-- ---- one place of a name in a signature with each name once

heads : {a b : Declaration} {ds cs : Signature} → a ∷ ds ≡ b ∷ cs → a ≡ b
heads h = cc

tails : {a b : Declaration} {ds cs : Signature} → a ∷ ds ≡ b ∷ cs → ds ≡ cs
tails h = cc

pub one_place : (xs ys : Signature) (d e : Declaration) (ds bs : Signature) → Once (xs ++ (d ∷ ds)) → xs ++ (d ∷ ds) ≡ ys ++ (e ∷ bs) → d.name ≡ e.name → xs ≡ ys
one_place [] [] d e ds bs o s n = refl
one_place [] (y ∷ ys) d e ds bs o s n = absurd (o.0 e (subst (Member e) (sym (tails s)) (append_right ys (e ∷ bs) e (inl refl))) n)
one_place (x ∷ xs) [] d e ds bs o s n = absurd (o.0 d (append_right xs (d ∷ ds) d (inl refl)) (ap (λ (z : Declaration). z.name) (heads s) ∙ sym n))
one_place (x ∷ xs) (y ∷ ys) d e ds bs o s n = ap₂ (λ z zs. z ∷ zs) (heads s) (one_place xs ys d e ds bs o.1 (tails s) n)

abbrev constant : Name → Path → Constant
constant t p = record { theory = t; path = p }

-- ---- definitions

pub definition_keeps : (along : HeadMap) (o : Option Value) (value : Value) → IsDefinition (option_map (translate_value along) o) value → (v : Value) → o ≡ Some v → value ≡ translate_value along v
definition_keeps along None value h v e = absurd (cc)
definition_keeps along (Some w) value h v e = h ∙ ap (translate_value along) (same_Some _ _ e)

pub kept_image : (along : HeadMap) (o : Option Value) (image : Image) → IsDefinition (option_map (translate_value along) o) image.value → KeepsValue along o image
kept_image along None image h = tt
kept_image along (Some v) image h = h

module _ (setting : Setting) (ok : SettingHolds setting) (typed : SettingTyped setting) (assigned : List Assigned) (items : (a : Assigned) → Member a assigned → ItemTyped setting ok typed a) (free : TargetsFree [] assigned) (along : HeadMap) (meets : MeetsEquations setting assigned along) (to : Signature) (coherent_map : IsCoherentMap (flat_of setting.environment setting.domain) to along) where
  abbrev environment : Environment
  environment = setting.environment

  abbrev flat : Signature
  flat = flat_of setting.environment setting.domain

  abbrev before : Signature
  before = scope_signature setting.scope

  -- a constant that a sharing assignment reaches
  module _ (done ds : Signature) (d : Declaration) (split : flat ≡ done ++ (d ∷ ds)) (target : Signature) (target_is : IsSignature target) (done_typed : (x : Declaration) → Member x done → IsTypedAt target along x)
      (own : Member d (own_part setting.environment setting.domain)) (path rest : Path) (structure : Link) (first : Span) (by : Link) (m : Member (Sharing path structure first by) assigned) (behind : d.name.path ≡ path ++ rest) (long : 0 < length rest) where
    item : ItemTyped setting ok typed (Sharing path structure first by)
    item = items (Sharing path structure first by) m

    placed_as : PlacedAs setting.environment ok.coherent typed.environment setting.domain path structure
    placed_as =
        let f = found setting.environment ok.coherent typed.environment setting.domain ok.theory in
        link_placed setting.environment ok.coherent typed.environment path setting.domain f.face f.is structure
        (subst (λ o. structures_link setting.environment setting.domain (structures_of o) path ≡ Some structure) (ap theory_face f.is) item.0)

    placed : LinkPlaced setting.environment setting.domain path structure.domain structure.map
    placed = placed_as.placed

    source : Source setting.environment ok.coherent structure.domain rest d
    source = source_of setting.environment ok.coherent path setting.domain structure rest d item.0 own behind long

    abbrev e : Declaration
    e = source.source

    abbrev inner : Signature
    inner = own_part setting.environment structure.domain

    abbrev inner_parts : Signature
    inner_parts = own_parts setting.environment (includes_of (theory_of setting.environment structure.domain))

    at : Split (own_part setting.environment structure.domain) source.source
    at = split_member inner e source.own

    -- the structure's map at a constant of its domain, up to a front of the own ones
    map_at : (x : Declaration) → Member x (inner_parts ++ inner) → IsTypedAt (parts_of setting.environment setting.domain ++ (placed.front ++ copies_at setting.domain path structure.map inner)) structure.map x
    map_at x n = placed.typed inner [] (sym (append-nil inner)) x n

    abbrev copies : Signature → Signature
    copies xs = copies_at setting.domain path structure.map xs

    abbrev copy : (x : Declaration) → Member x inner → Declaration
    copy x n = induced_with (record { theory = setting.domain; path = path ++ x.name.path }) (map_at x (append_right inner_parts inner x n)).image

    copy_there : (x : Declaration) (n : Member x inner) → Member (copy x n) (own_part setting.environment setting.domain)
    copy_there x n =
        let t = map_at x (append_right inner_parts inner x n) in
        let c : Member (copy x n) (copies inner) = filter_map_in (copy_at setting.domain path structure.map) inner x (copy x n) n (ap (option_map (induced_with (record { theory = setting.domain; path = path ++ x.name.path }))) t.mapped) in
        subst (Member (copy x n)) (sym placed.parts) (append_right placed.front (copies inner ++ placed.back) (copy x n) (append_left (copies inner) placed.back (copy x n) c))

    copy_flat : (x : Declaration) (n : Member x inner) → Member (copy x n) flat
    copy_flat x n = append_right (parts_of setting.environment setting.domain) (own_part setting.environment setting.domain) (copy x n) (copy_there x n)

    -- the constant is the copy of its source
    named : d.name ≡ (copy e source.own).name
    named = ap₂ (λ (t : Name) (p : Path). constant t p) (own_named setting.environment ok.coherent setting.domain d own) (behind ∙ ap (λ z. path ++ z) (sym (ap (λ (z : Constant). z.path) source.named)))

    is_copy : d ≡ copy e source.own
    is_copy = same_declaration flat (flat_is_once setting ok typed) d (copy e source.own) (append_right (parts_of setting.environment setting.domain) (own_part setting.environment setting.domain) d own) (copy_flat e source.own) named

    -- what stands before it
    done_parts : done ≡ parts_of setting.environment setting.domain ++ (placed.front ++ copies at.front)
    done_parts =
        let next : copies inner ≡ copies at.front ++ (copy e source.own ∷ copies at.back) =
        ap copies at.parts ∙ copies_append setting.domain path structure.map at.front (e ∷ at.back)
        ∙ ap (λ z. copies at.front ++ z) (copies_next setting.domain path structure.map e at.back (map_at e (append_right inner_parts inner e source.own)).image (map_at e (append_right inner_parts inner e source.own)).mapped) in
        let whole : flat ≡ (parts_of setting.environment setting.domain ++ (placed.front ++ copies at.front)) ++ (copy e source.own ∷ (copies at.back ++ placed.back)) =
        ap (λ z. parts_of setting.environment setting.domain ++ z) (placed.parts ∙ ap (λ z. placed.front ++ (z ++ placed.back)) next ∙ ap (λ z. placed.front ++ z) (append_assoc (copies at.front) (copy e source.own ∷ copies at.back) placed.back) ∙ sym (append_assoc placed.front (copies at.front) (copy e source.own ∷ (copies at.back ++ placed.back))))
        ∙ sym (append_assoc (parts_of setting.environment setting.domain) (placed.front ++ copies at.front) (copy e source.own ∷ (copies at.back ++ placed.back))) in
        one_place done (parts_of setting.environment setting.domain ++ (placed.front ++ copies at.front)) d (copy e source.own) ds (copies at.back ++ placed.back) (subst Once split (flat_is_once setting ok typed)) (sym split ∙ whole) named

    -- ---- the structure's map, and then the link's

    abbrev from : Signature
    from = inner_parts ++ at.front

    inner_split : flat_of setting.environment structure.domain ≡ (inner_parts ++ at.front) ++ (e ∷ at.back)
    inner_split = ap (λ z. inner_parts ++ z) at.parts ∙ sym (append_assoc inner_parts at.front (e ∷ at.back))

    inner_is : IsSignature (flat_of setting.environment structure.domain)
    inner_is = flat_typed setting.environment ok.coherent typed.environment structure.domain

    from_is : IsSignature (inner_parts ++ at.front)
    from_is = signature_shrinks (inner_parts ++ at.front) (e ∷ at.back) (subst IsSignature inner_split inner_is)

    source_declared : IsDeclaration (inner_parts ++ at.front) e
    source_declared = inner_is (inner_parts ++ at.front) e at.back inner_split

    abbrev along_proper : ValuesAreProper along
    along_proper = proper setting ok typed assigned along meets to coherent_map

    composable : AreComposable (inner_parts ++ at.front) done target structure.map along
    composable = record {
      first_is = record {
        source = from_is;
        target = done_is setting ok typed assigned along meets to coherent_map done ds d split;
        typed = typed_by_members (inner_parts ++ at.front) done structure.map (λ x n. subst (λ z. IsTypedAt z structure.map x) (sym done_parts) (placed.typed at.front (e ∷ at.back) at.parts x n));
        atomic = proper_atomic_over (inner_parts ++ at.front) structure.map placed.proper;
      };
      second_is = record {
        source = done_is setting ok typed assigned along meets to coherent_map done ds d split;
        target = target_is;
        typed = typed_by_members done target along done_typed;
        atomic = proper_atomic_over done along along_proper;
      };
      first_proper = placed.proper;
      second_proper = along_proper;
    }

    abbrev both : HeadMap
    both = compose structure.map along

    -- a constant of the structure's domain up to the source
    in_inner : (x : Declaration) → Member x (inner_parts ++ at.front) → Member x (inner_parts ++ inner)
    in_inner x n = subst (Member x) (sym inner_split) (append_left (inner_parts ++ at.front) (e ∷ at.back) x n)

    abbrev image_of_map : (x : Declaration) → Member x (inner_parts ++ at.front) → Image
    image_of_map x n = (map_at x (in_inner x n)).image

    both_image : (x : Declaration) (n : Member x (inner_parts ++ at.front)) → image_of both x.name ≡ Some (translate_image along (image_of_map x n))
    both_image x n = composed structure.map along x.name ∙ ap (option_map (translate_image along)) (map_at x (in_inner x n)).mapped

    -- the sharing link's value is the same
    shared_included : (x : Declaration) (n : Member x (inner_parts ++ at.front)) → Member x inner_parts → value_in by.map x.name ≡ Some (translate_value along (image_of_map x n).value)
    shared_included x n k =
        let a = member_place assigned (Sharing path structure first by) m in
        let j = member_place inner_parts x k in
        let s = meets.shared a.0 path structure first by a.1 j.0 x j.1 in
        s.same ∙ ap (λ z. Some (translate_value along z)) (sym (valued structure.map x.name (image_of_map x n) s.value (map_at x (in_inner x n)).mapped s.image))

    own_reached : (x : Declaration) (k : Member x inner) → reached_by assigned (path ++ x.name.path) ≡ ByStructure path x.name.path structure first by
    own_reached x k = reached_behind assigned [] path x.name.path structure first by free m (paths_of_theory setting.environment ok.coherent structure.domain x k)

    image_irrelevant : (x : Declaration) (n k : Member x (inner_parts ++ inner)) → (map_at x n).image ≡ (map_at x k).image
    image_irrelevant x n k = same_Some _ _ (sym (map_at x n).mapped ∙ (map_at x k).mapped)

    shared_own : (x : Declaration) (n : Member x (inner_parts ++ at.front)) → Member x at.front → value_in by.map x.name ≡ Some (translate_value along (image_of_map x n).value)
    shared_own x n f =
        let k : Member x inner = subst (Member x) (sym at.parts) (append_left at.front (e ∷ at.back) x f) in
        let i = image_at setting ok typed assigned along meets to coherent_map (copy x k) (copy_flat x k) in
        let here : is_own setting (copy x k) ≡ true = same_itself setting.domain in
        let class : Class = translate_class along (copy x k).class in
        let definition : Option Value = option_map (translate_value along) (copy x k).value in
        let own : OwnHasValue setting (reached_by assigned (path ++ x.name.path)) class definition (copy x k) i.image.value = subst (λ b. HasValueBy setting assigned b class definition (copy x k) i.image.value) here i.value_is in
        let given : OwnHasValue setting (ByStructure path x.name.path structure first by) class definition (copy x k) i.image.value = subst (λ z. OwnHasValue setting z class definition (copy x k) i.image.value) (own_reached x k) own in
        let same_image : (map_at x (append_right inner_parts inner x k)).image ≡ image_of_map x n = image_irrelevant x (append_right inner_parts inner x k) (in_inner x n) in
        let value : i.image.value ≡ translate_value along (map_at x (append_right inner_parts inner x k)).image.value =
        image_through along (copy x k).name (map_at x (append_right inner_parts inner x k)).image.value i.image i.mapped (kept_image along (copy x k).value i.image given.1) in
        ap (value_in by.map) (named_as x k) ∙ given.0 ∙ ap Some (value ∙ ap (λ (z : Image). translate_value along z.value) same_image)
      where
        named_as : (x : Declaration) → Member x inner → x.name ≡ record { theory = structure.domain; path = x.name.path }
        named_as x k = ap (λ t. constant t x.name.path) (own_named setting.environment ok.coherent structure.domain x k)

    shared_value : (x : Declaration) (n : Member x (inner_parts ++ at.front)) → value_in by.map x.name ≡ Some (translate_value along (image_of_map x n).value)
    shared_value x n = ⊎_elim (λ k. shared_included x n k) (λ k. shared_own x n k) (in_append inner_parts at.front x n)

    -- ---- the two ways translate the source's class alike

    abbrev over : Signature
    over = flat_of setting.environment by.domain

    over_is : IsSignature (flat_of setting.environment by.domain)
    over_is = item.1.translates.source

    by_at : (x : Declaration) → Member x over → IsTypedAt (target_of setting.environment setting.here by.codomain) by.map x
    by_at x n = let i = member_place over x n in item.1.translates.typed i.0 x i.1

    in_over : (x : Declaration) → Member x (inner_parts ++ inner) → Member x over
    in_over x n = reached_member setting ok typed by.domain structure.domain x item.3 n

    both_at : (x : Declaration) → Member x (inner_parts ++ at.front) → IsTypedAt target both x
    both_at x n =
        let c = composition_is_typed (inner_parts ++ at.front) done target structure.map along composable in
        let i = member_place (inner_parts ++ at.front) x n in
        c.typed i.0 x i.1

    same_on : (c : Constant) (class given : Class) → class_of (inner_parts ++ at.front) c ≡ Some class → class_of over c ≡ Some given → (class ≡ given) × SameAt both by.map c class
    same_on c class given h g =
        let x = known_as (inner_parts ++ at.front) c class h in
        let y = known_as over c given g in
        let same : x.declaration ≡ y.declaration = same_declaration over (flat_once setting.environment ok.coherent by.domain) x.declaration y.declaration (in_over x.declaration (in_inner x.declaration x.there)) y.there (x.named ∙ sym y.named) in
        let t = both_at x.declaration x.there in
        let u = by_at y.declaration y.there in
        let classes : class ≡ y.declaration.class = sym x.classed ∙ ap (λ (z : Declaration). z.class) same in
        let one : t.image ≡ translate_image along (image_of_map x.declaration x.there) = same_Some _ _ (sym t.mapped ∙ both_image x.declaration x.there) in (
          classes ∙ y.classed,
          record {
            one = t.image;
            other = u.image;
            one_is = ap (image_of both) (sym x.named) ∙ t.mapped;
            other_is = ap (image_of by.map) (sym y.named) ∙ u.mapped;
            one_class = t.class ∙ ap (translate_class both) x.classed;
            other_class = u.class ∙ ap (translate_class by.map) (sym classes);
            value = ap (λ (z : Image). z.value) one
                ∙ sym (valued by.map x.declaration.name u.image (translate_value along (image_of_map x.declaration x.there).value) (ap (image_of by.map) (x.named ∙ sym y.named) ∙ u.mapped) (shared_value x.declaration x.there));
          },
        )

    over_imaged : (c : Constant) (class : Class) → class_of over c ≡ Some class → (image : Image) × (image_of by.map c ≡ Some image)
    over_imaged c class h = let y = known_as over c class h in let u = by_at y.declaration y.there in (u.image, ap (image_of by.map) (sym y.named) ∙ u.mapped)

    source_over : Member e over
    source_over = in_over e (append_right inner_parts inner e source.own)

    class_same : translate_class along d.class ≡ translate_class by.map e.class
    class_same =
        let i = member_place over e source_over in
        let k = declared_typed over over_is i.0 e i.1 in
        let t = map_at e (append_right inner_parts inner e source.own) in
        ap (λ (z : Declaration). translate_class along z.class) is_copy ∙ ap (translate_class along) t.class
        ∙ class_composed (inner_parts ++ at.front) done target structure.map along composable e.class source_declared.class_is
        ∙ classes_same over over_is both by.map (inner_parts ++ at.front) from_is same_on over_imaged e.class source_declared.class_is k.class

    pub shared_fits : (grows : Grows (target_of setting.environment setting.here by.codomain) target) (value : Value) → value_in by.map (record { theory = structure.domain; path = rest }) ≡ Some value → Fits target value (translate_class along d.class)
    shared_fits grows value h =
        let t = by_at e source_over in
        let is : t.image.value ≡ value = valued by.map e.name t.image value t.mapped (ap (value_in by.map) source.named ∙ h) in
        subst₂ (Fits target) is (t.class ∙ sym class_same) (fits_more (target_of setting.environment setting.here by.codomain) target grows t.image.class t.image.value t.fits)
