-- The map of a link is typed, and what a structure induces is well typed.
use Rattle.std.proofs.Common.{◌≡◌, suc, ◌+◌, Bool, true, false, cond, List, [], ◌∷◌, ◌++◌, length, length-append, take, drop, slice_get, Option, Some, None, option_map, Ok, inl, ⊎_elim, refl, sym, ap, ap₂, ◌∙◌, subst, subst₂, append_assoc, append-nil, arith}
use Rattle.name_meaning.specs.Names.{Name, same_name}
use Rattle.lf_meaning.specs.Terms.{Constant}
use Rattle.lf_meaning.specs.Signatures.{Class, Value, SameAs, TermValue, FamilyValue, Declaration, Signature, same_constant}
use Rattle.lf_meaning.specs.Judgements.{IsClass, Fits, ValueFits, IsDeclaration, IsSignature}
use Rattle.lf_typing.proofs.Growing.{signature_grows}
use Rattle.list_laws.proofs.Members.{Member, in_append, append_left, append_right, place_member, member_place}
use Rattle.list_laws.proofs.Places.{split_at}
use Rattle.lf_meaning.specs.HeadMaps.{Image, Mapping, HeadMap, image_of}
use Rattle.translation_meaning.specs.Translation.{translate_class, translate_value}
use Rattle.translation_meaning.specs.TypedMaps.{KeepsValue, IsTypedAt}
use Rattle.translation_typing.specs.TypedTranslation.{IsTypedTranslation}
use Rattle.translation_typing.proofs.Laws.{class_carried, value_carried}
use Rattle.library_meaning.specs.Faces.{own_part, own_parts, flat_of}
use Rattle.library_meaning.specs.Coherence.{declared_names, mapped_names, IsCoherentMap}
use Rattle.elaborate_typing.proofs.Expanding.{DeclaredTyped, value_fits}
use Rattle.link_meaning.specs.Refusals.{each}
use Rattle.link_meaning.specs.Assignments.{Setting, included_theories, Assigned, read_assigns}
use Rattle.link_meaning.specs.Coverings.{covered_tests}
use Rattle.link_meaning.specs.Passes.{Reached, ByNone, ByValue, ByStructure, reached_by, induced_constant, is_own, map_all, shared_test, assigned_map, link_map}
use Rattle.link_meaning.specs.Equations.{IsCopied, IsUnassigned, OwnHasValue, HasValueBy, MeetsEquations}
use Rattle.link_meaning.specs.Induced.{defined_by, induced_with}
use Rattle.link_laws.proofs.Covered.{good_same}
use Rattle.link_laws.proofs.Reading.{assigns_sound}
use Rattle.link_laws.proofs.Linked.{own_named, passes_sound}
use Rattle.constant_laws.specs.HoldingLaws.{Grows}
use Rattle.constant_laws.specs.ExpansionHolds.{scope_signature}
use Rattle.constant_laws.proofs.Declared.{front_grows, take_grows, class_in}
use Rattle.constant_laws.proofs.Translating.{placed_in}
use Rattle.link_laws.proofs.Onces.{Once, once_left, once_names, member_declared}
use Rattle.link_laws.proofs.ImagesHold.{SettingHolds}
use Rattle.link_laws.proofs.AssignedHold.{ReachedHolds, reached_holds, rest_splits, items_hold}
use Rattle.link_laws.proofs.LinksHold.{added_by, added, added_all, map_holds, undefined_itself}
use Rattle.morphism_words_typing.specs.TypedFaces.{HaveFittingImages}
use Rattle.face_typing.proofs.LinkInterface.{SettingTyped, LinkTyped, LinksAreTyped}
use Rattle.morphism_words_typing.proofs.Grown.{fits_more, declaration_more}
use Rattle.morphism_words_typing.proofs.Places.{class_declared, typed_more, typed_by_members}
use Rattle.face_typing.proofs.Assigning.{ItemTyped, TargetsFree, items_typed, targets_free}
use Rattle.face_typing.proofs.CoveredValues.{flat_is_once, not_own, proper, ImageAt, image_at, covered_value, included_fits, done_is, declared}
use Rattle.face_typing.proofs.SharedValues.{definition_keeps, shared_fits}
use Rattle.std.proofs.lemmas.Option.{same_Some}
use Rattle.name_laws.proofs.Order.{same_itself}
use Rattle.list_laws.proofs.Answers.{came_by}
use Rattle.translation_typing.proofs.Proper.{proper_atomic_over}

kept : (along : HeadMap) (o : Option Value) (image : Image) → ((v : Value) → o ≡ Some v → image.value ≡ translate_value along v) → KeepsValue along o image
kept along None image h = tt
kept along (Some v) image h = h v refl

defined_fits : (sig : Signature) (c : Constant) (class : Class) (value : Value) → Fits sig value class → ValueFits sig (defined_by c value) class
defined_fits sig c class (SameAs other) h = by (same_constant other c)
  where
    by : (b : Bool) → ValueFits sig (cond b None (Some (SameAs other))) class
    by true = tt
    by false = h
defined_fits sig c class (TermValue m) h = h
defined_fits sig c class (FamilyValue n body) h = h

module _ (setting : Setting) (ok : SettingHolds setting) (typed : SettingTyped setting) (assigned : List Assigned) (items : (a : Assigned) → Member a assigned → ItemTyped setting ok typed a) (free : TargetsFree [] assigned) (along : HeadMap) (meets : MeetsEquations setting assigned along) where
  abbrev flat : Signature
  flat = flat_of setting.environment setting.domain

  abbrev before : Signature
  before = scope_signature setting.scope

  abbrev all_added : Signature
  all_added = added_all setting flat along

  module _ (coherent_map : IsCoherentMap flat (before ++ all_added) along) (whole_once : Once (before ++ all_added)) where
    abbrev whole : Signature
    whole = before ++ all_added

    -- what is due to an own constant fits, or is the copy
    data OwnTyped (to : Signature) (d : Declaration) (value : Value) : Type 0 where
      Fitting : Fits to value (translate_class along d.class) → OwnTyped to d value
      Copied : (structure : Name) → setting.structure ≡ Some structure → value ≡ SameAs (induced_constant setting structure d.name) → OwnTyped to d value

    abbrev Keeps : Declaration → Value → Type 0
    Keeps d value = (v : Value) → d.value ≡ Some v → value ≡ translate_value along v

    module _ (done ds : Signature) (d : Declaration) (split : flat ≡ done ++ (d ∷ ds)) (ind : Signature) (target_is : IsSignature (before ++ ind)) (once : Once (before ++ ind)) (done_typed : (x : Declaration) → Member x done → IsTypedAt (before ++ ind) along x) where
      abbrev to : Signature
      to = before ++ ind

      translation : IsTypedTranslation done (before ++ ind) along
      translation = record {
        source = done_is setting ok typed assigned along meets whole coherent_map done ds d split;
        target = target_is;
        typed = typed_by_members done (before ++ ind) along done_typed;
        atomic = proper_atomic_over done along (proper setting ok typed assigned along meets whole coherent_map);
      }

      declared_here : IsDeclaration done d
      declared_here = declared setting ok typed assigned along meets whole coherent_map done ds d split

      pub class_here : IsClass (before ++ ind) (translate_class along d.class)
      class_here = class_carried done (before ++ ind) along translation d.class declared_here.class_is

      -- what the scope declares, over more
      scope_knows : (x : Declaration) → Member x before → DeclaredTyped (before ++ ind) x
      scope_knows x m =
          let i = member_place before x m in
          let j = member_place (before ++ ind) x (append_left before ind x m) in
          let is : IsDeclaration (take i.0 before) x = typed.scope (take i.0 before) x (drop (suc i.0) before) (split_at before i.0 x i.1) in
          record {
            class = class_in (before ++ ind) (once_names (before ++ ind) once) j.0 x j.1;
            is = declaration_more (take i.0 before) (before ++ ind) (λ c k h. front_grows before ind c k (take_grows before i.0 c k h)) x is;
          }

      unassigned : (o : Option Value) (value : Value) → d.value ≡ o → IsUnassigned setting (option_map (translate_value along) o) d value → OwnTyped (before ++ ind) d value × Keeps d value
      unassigned None value e h = (copied setting.structure refl h, λ v q. absurd (let w = sym e ∙ q in cc))
        where
          copied : (o : Option Name) → setting.structure ≡ o → IsCopied setting o d value → OwnTyped (before ++ ind) d value
          copied None q g = absurd g
          copied (Some structure) q g = Copied structure q g
      unassigned (Some v) value e h =
          let own : Fits done v d.class = subst (λ z. ValueFits done z d.class) e declared_here.value_fits in (
            Fitting (subst (λ z. Fits (before ++ ind) z (translate_class along d.class)) (sym h) (value_carried done (before ++ ind) along translation d.class v declared_here.class_is own)),
            λ w q. h ∙ ap (translate_value along) (same_Some _ _ (sym e ∙ q)),
          )

      own_typed : Member d (own_part setting.environment setting.domain) → (reached : Reached) → ReachedHolds assigned d.name.path reached → (value : Value) → OwnHasValue setting reached (translate_class along d.class) (option_map (translate_value along) d.value) d value → OwnTyped (before ++ ind) d value × Keeps d value
      own_typed m ByNone r value h = unassigned d.value value refl h
      own_typed m (ByValue target expression) r value h =
          (Fitting (value_fits setting.scope (before ++ ind) target_is scope_knows expression (translate_class along d.class) value class_here h.0), definition_keeps along d.value value h.1)
      own_typed m (ByStructure target rest structure first by) r value h =
          let p = rest_splits target d.name.path rest r.1 in
          let i = items _ r.0 in (
            Fitting (shared_fits setting ok typed assigned items free along meets whole coherent_map done ds d split (before ++ ind) target_is done_typed m target rest structure first by r.0 p.0 p.1
                (λ c k g. front_grows before ind c k (ok.reaches by.codomain i.2 c k g)) value h.0),
            definition_keeps along d.value value h.1,
          )

    -- ---- the walk

    record State (done ind : Signature) : Type 0 where
      typed_at : (x : Declaration) → Member x done → IsTypedAt (before ++ ind) along x
      target_is : IsSignature (before ++ ind)

    grown : (ind more : Signature) → Grows (before ++ ind) (before ++ (ind ++ more))
    grown ind more = subst (Grows (before ++ ind)) (append_assoc before ind more) (front_grows (before ++ ind) more)

    -- one more constant, over more
    state_with : (done : Signature) (d : Declaration) (ind more : Signature) → State done ind → IsSignature (before ++ (ind ++ more)) → IsTypedAt (before ++ (ind ++ more)) along d → State (done ++ (d ∷ [])) (ind ++ more)
    state_with done d ind more s target t =
        record {
          typed_at = λ x n. ⊎_elim (λ k. typed_more (before ++ ind) (before ++ (ind ++ more)) along x (grown ind more) (s.typed_at x k)) (λ k. ⊎_elim (λ e. subst (IsTypedAt (before ++ (ind ++ more)) along) (sym e) t) (λ e. absurd e) k) (in_append done (d ∷ []) x n);
          target_is = target;
        }

    at_image : (to : Signature) (d : Declaration) (i : ImageAt setting ok typed assigned along meets whole coherent_map d) → Fits to i.image.value (translate_class along d.class) → Keeps d i.image.value → IsTypedAt to along d
    at_image to d i f k = record { image = i.image; mapped = i.mapped; class = i.class_is; fits = subst (Fits to i.image.value) (sym i.class_is) f; value = kept along d.value i.image k }

    module _ (done ds : Signature) (d : Declaration) (split : flat ≡ done ++ (d ∷ ds)) (ind : Signature) (m : Mapping) (rest : Signature) (whole_is : all_added ≡ ind ++ (added setting d m ++ rest)) (s : State done ind)
        (i : ImageAt setting ok typed assigned along meets whole coherent_map d) (image_is : i.image ≡ m.image) where
      once_here : Once (before ++ ind)
      once_here = once_left (before ++ ind) (added setting d m ++ rest) (subst Once (ap (λ z. before ++ z) whole_is ∙ sym (append_assoc before ind (added setting d m ++ rest))) whole_once)

      in_flat : Member d flat
      in_flat = subst (Member d) (sym split) (append_right done (d ∷ ds) d (inl refl))

      class_there : IsClass (before ++ ind) (translate_class along d.class)
      class_there = class_here done ds d split ind s.target_is once_here s.typed_at

      -- an included constant
      step_included : Member d (own_parts setting.environment (included_theories setting)) → State (done ++ (d ∷ [])) (ind ++ [])
      step_included n =
          let c = included_fits setting ok typed assigned along meets whole coherent_map done ds d split items n i.image.value (covered_value setting ok typed assigned along meets whole coherent_map d n (translate_class along d.class) (option_map (translate_value along) d.value) i.image.value i.value_is) in
          let more : Grows before (before ++ (ind ++ [])) = front_grows before (ind ++ []) in
          state_with done d ind [] s (subst (λ z. IsSignature (before ++ z)) (sym (append-nil ind)) s.target_is)
          (at_image (before ++ (ind ++ [])) d i (fits_more before (before ++ (ind ++ [])) more (translate_class along d.class) i.image.value c.fits) c.keeps)

      -- an own one
      own_result : Member d (own_part setting.environment setting.domain) → is_own setting d ≡ true → OwnTyped (before ++ ind) d i.image.value × Keeps d i.image.value
      own_result n o = own_typed done ds d split ind s.target_is once_here s.typed_at n (reached_by assigned d.name.path) (reached_holds assigned d.name.path) i.image.value (subst (λ b. HasValueBy setting assigned b (translate_class along d.class) (option_map (translate_value along) d.value) d i.image.value) o i.value_is)

      step_view : setting.structure ≡ None → OwnTyped (before ++ ind) d i.image.value → Keeps d i.image.value → State (done ++ (d ∷ [])) (ind ++ [])
      step_view e (Copied structure q h) k = absurd (let w = sym e ∙ q in cc)
      step_view e (Fitting f) k =
          state_with done d ind [] s (subst (λ z. IsSignature (before ++ z)) (sym (append-nil ind)) s.target_is)
          (at_image (before ++ (ind ++ [])) d i (fits_more (before ++ ind) (before ++ (ind ++ [])) (grown ind []) (translate_class along d.class) i.image.value f) k)

      step_structure : (structure : Name) → setting.structure ≡ Some structure → added setting d m ≡ induced_with (induced_constant setting structure d.name) m.image ∷ [] → OwnTyped (before ++ ind) d i.image.value → Keeps d i.image.value
          → State (done ++ (d ∷ [])) (ind ++ (induced_with (induced_constant setting structure d.name) m.image ∷ []))
      step_structure structure e a o k =
          let new : Declaration = induced_with (induced_constant setting structure d.name) m.image in
          let class : m.image.class ≡ translate_class along d.class = ap (λ (z : Image). z.class) (sym image_is) ∙ i.class_is in
          let value : i.image.value ≡ m.image.value = ap (λ (z : Image). z.value) image_is in
          let over : Once (before ++ (ind ++ (new ∷ []))) =
          once_left (before ++ (ind ++ (new ∷ []))) rest
          (subst Once (ap (λ z. before ++ z) (whole_is ∙ ap (λ z. ind ++ (z ++ rest)) a ∙ sym (append_assoc ind (new ∷ []) rest)) ∙ sym (append_assoc before (ind ++ (new ∷ [])) rest)) whole_once) in
          let there : Member new (before ++ (ind ++ (new ∷ []))) = append_right before (ind ++ (new ∷ [])) new (append_right ind (new ∷ []) new (inl refl)) in
          let is : IsDeclaration (before ++ ind) new = record { class_is = subst (IsClass (before ++ ind)) (sym class) class_there; value_fits = by_value o class value } in
          let target : IsSignature (before ++ (ind ++ (new ∷ []))) = subst IsSignature (append_assoc before ind (new ∷ [])) (signature_grows (before ++ ind) new s.target_is is) in
          state_with done d ind (new ∷ []) s target (at_image (before ++ (ind ++ (new ∷ []))) d i (fits_by o class value over there) k)
        where
          copy_is : (other : Name) → setting.structure ≡ Some other → i.image.value ≡ SameAs (induced_constant setting other d.name) → i.image.value ≡ SameAs (induced_constant setting structure d.name)
          copy_is other q h = h ∙ ap (λ z. SameAs (induced_constant setting z d.name)) (same_Some _ _ (sym q ∙ e))

          by_value : OwnTyped (before ++ ind) d i.image.value → m.image.class ≡ translate_class along d.class → i.image.value ≡ m.image.value → ValueFits (before ++ ind) (defined_by (induced_constant setting structure d.name) m.image.value) m.image.class
          by_value (Fitting f) class value = defined_fits (before ++ ind) (induced_constant setting structure d.name) m.image.class m.image.value (subst₂ (Fits (before ++ ind)) value (sym class) f)
          by_value (Copied other q h) class value =
              subst (λ z. ValueFits (before ++ ind) z m.image.class) (sym (ap (defined_by (induced_constant setting structure d.name)) (sym value ∙ copy_is other q h) ∙ undefined_itself (induced_constant setting structure d.name))) tt

          fits_by : OwnTyped (before ++ ind) d i.image.value → m.image.class ≡ translate_class along d.class → i.image.value ≡ m.image.value → Once (before ++ (ind ++ (induced_with (induced_constant setting structure d.name) m.image ∷ [])))
              → Member (induced_with (induced_constant setting structure d.name) m.image) (before ++ (ind ++ (induced_with (induced_constant setting structure d.name) m.image ∷ [])))
              → Fits (before ++ (ind ++ (induced_with (induced_constant setting structure d.name) m.image ∷ []))) i.image.value (translate_class along d.class)
          fits_by (Fitting f) class value over there =
              fits_more (before ++ ind) (before ++ (ind ++ (induced_with (induced_constant setting structure d.name) m.image ∷ []))) (grown ind (induced_with (induced_constant setting structure d.name) m.image ∷ [])) (translate_class along d.class) i.image.value f
          fits_by (Copied other q h) class value over there =
              subst (λ z. Fits (before ++ (ind ++ (induced_with (induced_constant setting structure d.name) m.image ∷ []))) z (translate_class along d.class)) (sym (copy_is other q h))
              (class_declared (before ++ (ind ++ (induced_with (induced_constant setting structure d.name) m.image ∷ []))) over (induced_with (induced_constant setting structure d.name) m.image) there
              (ap (defined_by (induced_constant setting structure d.name)) (sym value ∙ copy_is other q h) ∙ undefined_itself (induced_constant setting structure d.name)) ∙ ap Some class)

      next : State (done ++ (d ∷ [])) (ind ++ added setting d m)
      next = ⊎_elim from_included from_own (in_append (own_parts setting.environment (included_theories setting)) (own_part setting.environment setting.domain) d in_flat)
        where
          from_included : Member d (own_parts setting.environment (included_theories setting)) → State (done ++ (d ∷ [])) (ind ++ added setting d m)
          from_included n = subst (λ z. State (done ++ (d ∷ [])) (ind ++ z)) (sym (ap (λ b. added_by setting b setting.structure d m) (not_own setting ok typed d n))) (step_included n)

          own_by_name : Member d (own_part setting.environment setting.domain) → is_own setting d ≡ true
          own_by_name n = ap (λ z. same_name z setting.domain) (own_named setting.environment ok.coherent setting.domain d n) ∙ same_itself setting.domain

          by_structure : (o : Option Name) → setting.structure ≡ o → Member d (own_part setting.environment setting.domain) → is_own setting d ≡ true → State (done ++ (d ∷ [])) (ind ++ added setting d m)
          by_structure None e n q =
              let r = own_result n q in
              subst (λ z. State (done ++ (d ∷ [])) (ind ++ z)) (sym (ap₂ (λ b o. added_by setting b o d m) q e)) (step_view e r.0 r.1)
          by_structure (Some structure) e n q =
              let r = own_result n q in
              let a : added setting d m ≡ induced_with (induced_constant setting structure d.name) m.image ∷ [] = ap₂ (λ b o. added_by setting b o d m) q e in
              subst (λ z. State (done ++ (d ∷ [])) (ind ++ z)) (sym a) (step_structure structure e a r.0 r.1)

          from_own : Member d (own_part setting.environment setting.domain) → State (done ++ (d ∷ [])) (ind ++ added setting d m)
          from_own n = by_structure setting.structure refl n (own_by_name n)

    get_front : {A : Type 0} (xs : List A) (x : A) (ys : List A) → slice_get (xs ++ (x ∷ ys)) (length xs) ≡ Some x
    get_front [] x ys = refl
    get_front (y ∷ xs) x ys = get_front xs x ys

    -- the mapping that stands beside a declaration is its image
    beside : (done ds : Signature) (d : Declaration) (so_far ms : HeadMap) (m : Mapping) → flat ≡ done ++ (d ∷ ds) → along ≡ so_far ++ (m ∷ ms) → length so_far ≡ length done → image_of along d.name ≡ Some m.image
    beside done ds d so_far ms m e f l =
        let at_d : slice_get flat (length done) ≡ Some d = ap (λ z. slice_get z (length done)) e ∙ get_front done d ds in
        let at_m : slice_get along (length done) ≡ Some m = ap₂ slice_get f (sym l) ∙ get_front so_far m ms in
        let there : Member d flat = place_member flat (length done) d at_d in
        let p = placed_in d.name d flat along coherent_map.names (member_declared flat (flat_is_once setting ok typed) d there) in
        let place : p.place ≡ length done = once_names flat (flat_is_once setting ok typed) p.place (length done) d d p.declared at_d refl in
        p.image ∙ ap (λ (z : Mapping). Some z.image) (same_Some _ _ (sym p.mapped ∙ ap (slice_get along) place ∙ at_m))

    same_length : (xs : HeadMap) (ys : Signature) → mapped_names xs ≡ declared_names ys → length xs ≡ length ys
    same_length [] [] e = refl
    same_length [] (d ∷ ys) e = absurd (cc)
    same_length (m ∷ xs) [] e = absurd (cc)
    same_length (m ∷ xs) (d ∷ ys) e = ap suc (same_length xs ys (rest e))
      where
        rest : {A : Type 0} {x y : A} {xs ys : List A} → x ∷ xs ≡ y ∷ ys → xs ≡ ys
        rest h = cc

    walk : (ds done : Signature) (ms so_far : HeadMap) (ind : Signature) → flat ≡ done ++ ds → along ≡ so_far ++ ms → length so_far ≡ length done → all_added ≡ ind ++ added_all setting ds ms → State done ind → State flat all_added
    walk [] done ms so_far ind e f l w s = subst₂ State (sym (e ∙ append-nil done)) (sym (w ∙ append-nil ind)) s
    walk (d ∷ ds) done [] so_far ind e f l w s =
        let k = same_length along flat coherent_map.names in
        let a = ap length e ∙ length-append done (d ∷ ds) in
        let b = ap length f ∙ length-append so_far [] in
        absurd (omega (arith, k, a, b, l))
    walk (d ∷ ds) done (m ∷ ms) so_far ind e f l w s =
        let there : Member d flat = subst (Member d) (sym e) (append_right done (d ∷ ds) d (inl refl)) in
        let i = image_at setting ok typed assigned along meets whole coherent_map d there in
        let image : i.image ≡ m.image = same_Some _ _ (sym i.mapped ∙ beside done ds d so_far ms m e f l) in
        let count : length (so_far ++ (m ∷ [])) ≡ length (done ++ (d ∷ [])) = length-append so_far (m ∷ []) ∙ ap (λ n. n + 1) l ∙ sym (length-append done (d ∷ [])) in
        walk ds (done ++ (d ∷ [])) ms (so_far ++ (m ∷ [])) (ind ++ added setting d m)
        (e ∙ sym (append_assoc done (d ∷ []) ds)) (f ∙ sym (append_assoc so_far (m ∷ []) ms)) count (w ∙ sym (append_assoc ind (added setting d m) (added_all setting ds ms)))
        (next done ds d e ind m (added_all setting ds ms) w s i image)

    walked : State flat all_added
    walked = walk flat [] along [] [] refl refl refl refl (record { typed_at = λ x n. absurd n; target_is = subst IsSignature (sym (append-nil before)) typed.scope })

    included_images : HaveFittingImages before along (own_parts setting.environment (included_theories setting))
    included_images j d e =
        let n : Member d (own_parts setting.environment (included_theories setting)) = place_member (own_parts setting.environment (included_theories setting)) j d e in
        let there : Member d flat = append_left (own_parts setting.environment (included_theories setting)) (own_part setting.environment setting.domain) d n in
        let i = image_at setting ok typed assigned along meets whole coherent_map d there in
        let p = member_place flat d there in
        let c = included_fits setting ok typed assigned along meets whole coherent_map (take p.0 flat) (drop (suc p.0) flat) d (split_at flat p.0 d p.1) items n i.image.value
        (covered_value setting ok typed assigned along meets whole coherent_map d n (translate_class along d.class) (option_map (translate_value along) d.value) i.image.value i.value_is) in
        record { image = i.image; mapped = i.mapped; fits = subst (Fits before i.image.value) (sym i.class_is) c.fits }

    pub link_typed : LinkTyped setting along
    link_typed = record { target = walked.target_is; map_is = typed_by_members flat (before ++ all_added) along walked.typed_at; included = included_images }

pub links_are_typed : LinksAreTyped
unfolding link_map assigned_map
links_are_typed setting ok typed assigns along h =
    let r = came_by (read_assigns setting [] assigns) _ along h in
    let read = assigns_sound setting [] assigns r.item r.came in
    let t = came_by (covered_tests setting r.item) _ along r.goes in
    let w = came_by (map_all setting r.item [] (flat_of setting.environment setting.domain)) _ along t.goes in
    let s = came_by (each (shared_test setting w.item) r.item) _ along w.goes in
    let m = map_holds setting ok r.item (items_hold setting ok [] assigns r.item read) along (w.came ∙ ap Ok (good_same s.goes)) in
    link_typed setting ok typed r.item (items_typed setting ok typed [] assigns r.item read) (targets_free setting ok typed [] assigns r.item read) along
    (passes_sound setting r.item (record { coherent = ok.coherent; theory = ok.theory }) along r.goes) m.map_is m.once
