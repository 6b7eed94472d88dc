-- What a structure induces stands in the order of its domain, and up to each of these constants the structure's map is typed.
use Rattle.std.proofs.Common.{◌≡◌, ℕ, Bool, true, false, cond, List, [], ◌∷◌, ◌++◌, filter_map, slice_get, Option, Some, None, option_map, inl, inr, ⊎_elim, refl, sym, ap, ap₂, ◌∙◌, subst, subst₂, append_assoc, append-nil}
use Rattle.std.specs.List.{cons_option}
use Rattle.name_meaning.specs.Names.{Name, Path}
use Rattle.lf_meaning.specs.Terms.{Constant}
use Rattle.lf_meaning.specs.Signatures.{Class, Value, SameAs, TermValue, FamilyValue, Declaration, Signature, same_constant, undefined_class, declared_class, class_of}
use Rattle.lf_meaning.specs.Judgements.{Fits, ValueFits, IsDeclaration, IsSignature}
use Rattle.lf_term_laws.proofs.Equality.{same_constant_sound}
use Rattle.list_laws.proofs.Members.{Member, in_append, append_left, append_right, place_member, member_place}
use Rattle.lf_meaning.specs.HeadMaps.{Image, HeadMap, image_of}
use Rattle.translation_meaning.specs.Translation.{translate_value, translate_image, same_image, compose}
use Rattle.translation_meaning.specs.ProperValues.{ValuesAreProper}
use Rattle.translation_laws.proofs.Spines.{composed}
use Rattle.translation_typing.specs.Composition.{AreComposable}
use Rattle.translation_typing.proofs.Composed.{composition_is_typed, composition_is_proper}
use Rattle.lf_typing.proofs.Growing.{signature_shrinks}
use Rattle.translation_meaning.specs.TypedMaps.{KeepsValue, IsTypedAt, IsTypedMap}
use Rattle.library_meaning.specs.Faces.{StructureFace, TheoryFace, IsTheory, Environment, theory_face, theory_of, includes_of, own_of, own_part, own_parts, flat_signature, flat_of}
use Rattle.library_meaning.specs.Coherence.{IsCoherent}
use Rattle.link_meaning.specs.Induced.{defined_by, induced_with}
use Rattle.link_laws.specs.Below.HoldingLaws.{Grows}
use Rattle.link_laws.proofs.Below.Declared.{front_grows}
use Rattle.link_laws.proofs.Onces.{Once, once_left, member_declared}
use Rattle.link_laws.proofs.WordsHold.{flat_once}
use Rattle.morphism_words_typing.specs.TypedFaces.{IsPlaced, IsTypedTheory, IsTypedEnvironment}
use Rattle.morphism_words_typing.proofs.ProperImages.{images_proper}
use Rattle.morphism_words_typing.proofs.Grown.{fits_more}
use Rattle.std.proofs.lemmas.Option.{same_Some}
use Rattle.std.proofs.lemmas.List.Elements.{filter_map-append}
use Rattle.link_laws.proofs.LinksHold.{undefined_itself}
use Rattle.translation_typing.proofs.Proper.{proper_atomic_over}

-- ---- copies

pub copied : Name → Path → Constant → Constant
copied theory path c = record { theory = theory; path = path ++ c.path }

abbrev pub copy_at : Name → Path → HeadMap → Declaration → Option Declaration
copy_at theory path along d = option_map (induced_with (record { theory = theory; path = path ++ d.name.path })) (image_of along d.name)

abbrev pub copies_at : Name → Path → HeadMap → Signature → Signature
copies_at theory path along ds = filter_map (copy_at theory path along) ds

pub copies_append : (theory : Name) (path : Path) (along : HeadMap) (xs ys : Signature) → copies_at theory path along (xs ++ ys) ≡ copies_at theory path along xs ++ copies_at theory path along ys
copies_append theory path along xs ys = filter_map-append (copy_at theory path along) xs ys

pub copies_next : (theory : Name) (path : Path) (along : HeadMap) (d : Declaration) (ds : Signature) (image : Image) → image_of along d.name ≡ Some image
    → copies_at theory path along (d ∷ ds) ≡ induced_with (record { theory = theory; path = path ++ d.name.path }) image ∷ copies_at theory path along ds
copies_next theory path along d ds image e = ap (λ o. cons_option (option_map (induced_with (record { theory = theory; path = path ++ d.name.path })) o) (copies_at theory path along ds)) e

abbrev made : Class → Value → Image
made k v = record { class = k; value = v }

-- a member with what stands before and behind it
pub record Split {A : Type 0} (xs : List A) (x : A) : Type 0 where
  pub front : List A
  pub back : List A
  pub parts : xs ≡ front ++ (x ∷ back)

pub split_member : {A : Type 0} (xs : List A) (x : A) → Member x xs → Split xs x
split_member [] x m = absurd m
split_member (y ∷ ys) x (inl e) = record { front = []; back = ys; parts = ap (λ z. z ∷ ys) (sym e) }
split_member (y ∷ ys) x (inr m) = let s = split_member ys x m in record { front = y ∷ s.front; back = s.back; parts = ap (λ z. y ∷ z) s.parts }

-- ---- the value of a copied image

defined_fits_by : (before sig : Signature) (c other : Constant) (class : Class) (b : Bool) → same_constant other c ≡ b → Grows before sig → ValueFits before (cond b None (Some (SameAs other))) class → (SameAs other ≡ SameAs c → class_of sig c ≡ Some class) → Fits sig (SameAs other) class
defined_fits_by before sig c other class true e g h f = let same : other ≡ c = same_constant_sound other c e in subst (λ z. class_of sig z ≡ Some class) (sym same) (f (ap SameAs same))
defined_fits_by before sig c other class false e g h f = g other class h

pub copied_fits : (before sig : Signature) (c : Constant) (class : Class) (value : Value) → Grows before sig → ValueFits before (defined_by c value) class → (value ≡ SameAs c → class_of sig c ≡ Some class) → Fits sig value class
copied_fits before sig c class (SameAs other) g h f = defined_fits_by before sig c other class (same_constant other c) refl g h f
copied_fits before sig c class (TermValue m) g h f = fits_more before sig g class (TermValue m) h
copied_fits before sig c class (FamilyValue n body) g h f = fits_more before sig g class (FamilyValue n body) h

-- a declaration without a value is found with its class
pub class_declared : (sig : Signature) → Once sig → (d : Declaration) → Member d sig → d.value ≡ None → class_of sig d.name ≡ Some d.class
class_declared sig o d m e = ap declared_class (member_declared sig o d m) ∙ ap (λ v. undefined_class v d.class) e

pub typed_more : (to more : Signature) (along : HeadMap) (d : Declaration) → Grows to more → IsTypedAt to along d → IsTypedAt more along d
typed_more to more along d g t = record { image = t.image; mapped = t.mapped; class = t.class; fits = fits_more to more g t.image.class t.image.value t.fits; value = t.value }

-- ---- typed maps by members

pub typed_by_members : (from to : Signature) (along : HeadMap) → ((d : Declaration) → Member d from → IsTypedAt to along d) → IsTypedMap from to along
typed_by_members from to along f i d e = f d (place_member from i d e)

-- an image's value is the translated one, also where the constant is only copied
image_through_by : (along : HeadMap) (new other : Constant) (j : Image) (b : Bool) → same_constant other new ≡ b → image_of along new ≡ Some j → KeepsValue along (cond b None (Some (SameAs other))) j → j.value ≡ translate_value along (SameAs other)
unfolding translate_value
image_through_by along new other j true e h k = sym (ap (λ z. same_image z (image_of along z)) (same_constant_sound other new e) ∙ ap (same_image new) h)
image_through_by along new other j false e h k = k

pub image_through : (along : HeadMap) (new : Constant) (value : Value) (j : Image) → image_of along new ≡ Some j → KeepsValue along (defined_by new value) j → j.value ≡ translate_value along value
image_through along new (SameAs other) j h k = image_through_by along new other j (same_constant other new) refl h k
image_through along new (TermValue m) j h k = k
image_through along new (FamilyValue n body) j h k = k

module _ (environment : Environment) where
  abbrev pub parts_of : Name → Signature
  parts_of theory = own_parts environment (includes_of (theory_of environment theory))

  -- a link from a domain along a path of structures of a theory
  pub record LinkPlaced (theory : Name) (path : Path) (domain : Name) (along : HeadMap) : Type 0 where
    pub front : Signature
    pub back : Signature
    pub parts : own_part environment theory ≡ front ++ (copies_at theory path along (own_part environment domain) ++ back)
    pub proper : ValuesAreProper along
    pub typed : (pre post : Signature) → own_part environment domain ≡ pre ++ post → (d : Declaration) → Member d (parts_of domain ++ pre)
        → IsTypedAt (parts_of theory ++ (front ++ copies_at theory path along pre)) along d

  module _ (coherent : IsCoherent environment) (typed : IsTypedEnvironment environment) where
    -- ---- one structure

    module _ (theory : Name) (face : TheoryFace) (is : environment theory ≡ IsTheory face) (structure : StructureFace) (m : Member structure face.structures) where
      known : theory_of environment theory ≡ Some face
      known = ap theory_face is

      faced : IsTypedTheory environment face
      faced = typed.theories theory face is

      at : (i : ℕ) × (slice_get face.structures i ≡ Some structure)
      at = member_place face.structures structure m

      placed : IsPlaced environment face structure
      placed = faced.placed at.0 structure at.1

      same_name : face.name ≡ theory
      same_name = (coherent.theories theory face is).named

      abbrev copies : Signature → Signature
      copies ds = copies_at theory (structure.name ∷ []) structure.map ds

      flat_is : flat_of environment theory ≡ flat_signature environment face
      flat_is = ap (λ o. own_parts environment (includes_of o) ++ own_of o) known

      signature : IsSignature (flat_of environment theory)
      signature = subst IsSignature (sym flat_is) faced.signature

      once : Once (flat_of environment theory)
      once = flat_once environment coherent theory

      included_is : own_parts environment face.includes ≡ parts_of theory
      included_is = ap (λ o. own_parts environment (includes_of o)) (sym known)

      own_is : own_part environment theory ≡ placed.front ++ (copies (own_part environment structure.domain) ++ placed.back)
      own_is = ap own_of known ∙ placed.parts ∙ ap (λ n. placed.front ++ (copies_at n (structure.name ∷ []) structure.map (own_part environment structure.domain) ++ placed.back)) same_name

      -- the map at a constant of the domain
      map_at : (d : Declaration) → Member d (flat_of environment structure.domain) → IsTypedAt (flat_signature environment face) structure.map d
      map_at d n = let i = member_place (flat_of environment structure.domain) d n in faced.maps at.0 structure at.1 i.0 d i.1

      image_same : (d : Declaration) (i j : Image) → image_of structure.map d.name ≡ Some i → image_of structure.map d.name ≡ Some j → i ≡ j
      image_same d i j e f = same_Some _ _ (sym e ∙ f)

      target : Signature → Signature
      target pre = parts_of theory ++ (placed.front ++ copies pre)

      front_of : (pre : Signature) → parts_of theory ++ (placed.front ++ copies pre) ≡ (parts_of theory ++ placed.front) ++ copies pre
      front_of pre = sym (append_assoc (parts_of theory) placed.front (copies pre))

      whole_is : (pre post : Signature) → own_part environment structure.domain ≡ pre ++ post → flat_of environment theory ≡ ((parts_of theory ++ placed.front) ++ copies pre) ++ (copies post ++ placed.back)
      whole_is pre post e =
          ap (λ z. parts_of theory ++ z) (own_is ∙ ap (λ z. placed.front ++ (z ++ placed.back)) (ap copies e ∙ copies_append theory (structure.name ∷ []) structure.map pre post))
          ∙ ap (λ z. parts_of theory ++ (placed.front ++ z)) (append_assoc (copies pre) (copies post) placed.back)
          ∙ sym (append_assoc (parts_of theory) placed.front (copies pre ++ (copies post ++ placed.back)))
          ∙ sym (append_assoc (parts_of theory ++ placed.front) (copies pre) (copies post ++ placed.back))

      included_at : (pre : Signature) (d : Declaration) → Member d (parts_of structure.domain) → IsTypedAt (parts_of theory ++ (placed.front ++ copies pre)) structure.map d
      included_at pre d n =
          let t = map_at d (append_left (parts_of structure.domain) (own_part environment structure.domain) d n) in
          let i = member_place (parts_of structure.domain) d n in
          let f = placed.included i.0 d i.1 in
          let grown : Grows (own_parts environment face.includes ++ placed.front) (parts_of theory ++ (placed.front ++ copies pre)) =
          subst₂ Grows (ap (λ z. z ++ placed.front) (sym included_is)) (sym (front_of pre)) (front_grows (parts_of theory ++ placed.front) (copies pre)) in
          let fits : Fits (parts_of theory ++ (placed.front ++ copies pre)) f.image.value f.image.class = fits_more (own_parts environment face.includes ++ placed.front) (parts_of theory ++ (placed.front ++ copies pre)) grown f.image.class f.image.value f.fits in
          record {
            image = t.image;
            mapped = t.mapped;
            class = t.class;
            fits = subst (λ (z : Image). Fits (parts_of theory ++ (placed.front ++ copies pre)) z.value z.class) (image_same d f.image t.image f.mapped t.mapped) fits;
            value = t.value;
          }

      own_at : (pre post : Signature) → own_part environment structure.domain ≡ pre ++ post → (d : Declaration) → Member d pre → IsTypedAt (parts_of theory ++ (placed.front ++ copies pre)) structure.map d
      own_at pre post e d n =
          let t = map_at d (append_right (parts_of structure.domain) (own_part environment structure.domain) d (subst (Member d) (sym e) (append_left pre post d n))) in
          let s = split_member pre d n in
          let before : Signature = (parts_of theory ++ placed.front) ++ copies s.front in
          let new : Declaration = induced_with (record { theory = theory; path = structure.name ∷ d.name.path }) t.image in
          let next : copies pre ≡ copies s.front ++ (new ∷ copies s.back) =
          ap copies s.parts ∙ copies_append theory (structure.name ∷ []) structure.map s.front (d ∷ s.back) ∙ ap (λ z. copies s.front ++ z) (copies_next theory (structure.name ∷ []) structure.map d s.back t.image t.mapped) in
          let here : (parts_of theory ++ placed.front) ++ copies pre ≡ ((parts_of theory ++ placed.front) ++ copies s.front) ++ (new ∷ copies s.back) =
          ap (λ z. (parts_of theory ++ placed.front) ++ z) next ∙ sym (append_assoc (parts_of theory ++ placed.front) (copies s.front) (new ∷ copies s.back)) in
          let split : flat_of environment theory ≡ ((parts_of theory ++ placed.front) ++ copies s.front) ++ (new ∷ (copies s.back ++ (copies post ++ placed.back))) =
          whole_is pre post e ∙ ap (λ z. z ++ (copies post ++ placed.back)) here ∙ append_assoc ((parts_of theory ++ placed.front) ++ copies s.front) (new ∷ copies s.back) (copies post ++ placed.back) in
          let declared : IsDeclaration ((parts_of theory ++ placed.front) ++ copies s.front) new = signature ((parts_of theory ++ placed.front) ++ copies s.front) new (copies s.back ++ (copies post ++ placed.back)) split in
          let to : (parts_of theory ++ (placed.front ++ copies pre)) ≡ ((parts_of theory ++ placed.front) ++ copies s.front) ++ (new ∷ copies s.back) = front_of pre ∙ here in
          let grown : Grows ((parts_of theory ++ placed.front) ++ copies s.front) (parts_of theory ++ (placed.front ++ copies pre)) = subst (Grows ((parts_of theory ++ placed.front) ++ copies s.front)) (sym to) (front_grows ((parts_of theory ++ placed.front) ++ copies s.front) (new ∷ copies s.back)) in
          let alone : Once (parts_of theory ++ (placed.front ++ copies pre)) =
          once_left (parts_of theory ++ (placed.front ++ copies pre)) (copies post ++ placed.back) (subst Once (whole_is pre post e ∙ ap (λ z. z ++ (copies post ++ placed.back)) (sym (front_of pre))) once) in
          let there : Member new (parts_of theory ++ (placed.front ++ copies pre)) = subst (Member new) (sym to) (append_right ((parts_of theory ++ placed.front) ++ copies s.front) (new ∷ copies s.back) new (inl refl)) in
          record {
            image = t.image;
            mapped = t.mapped;
            class = t.class;
            fits = copied_fits ((parts_of theory ++ placed.front) ++ copies s.front) (parts_of theory ++ (placed.front ++ copies pre)) new.name t.image.class t.image.value grown declared.value_fits
                (λ q. class_declared (parts_of theory ++ (placed.front ++ copies pre)) alone new there (ap (defined_by new.name) q ∙ undefined_itself new.name));
            value = t.value;
          }

      pub structure_placed : LinkPlaced theory (structure.name ∷ []) structure.domain structure.map
      structure_placed = record {
        front = placed.front;
        back = placed.back;
        parts = own_is;
        proper = images_proper (flat_of environment structure.domain) (flat_signature environment face) structure.map ((coherent.theories theory face is).maps at.0 structure at.1);
        typed = λ pre post e d n. ⊎_elim (λ k. included_at pre d k) (λ k. own_at pre post e d k) (in_append (parts_of structure.domain) pre d n);
      }

      -- ---- a structure of the structure's domain, through it

      module _ (path : Path) (domain : Name) (along : HeadMap) (inner : LinkPlaced structure.domain path domain along) (domain_is : IsSignature (flat_of environment domain)) (middle_is : IsSignature (flat_of environment structure.domain)) where
        abbrev outer : LinkPlaced theory (structure.name ∷ []) structure.domain structure.map
        outer = structure_placed

        abbrev both : HeadMap
        both = compose along structure.map

        abbrev inner_copies : Signature → Signature
        inner_copies ds = copies_at structure.domain path along ds

        abbrev both_copies : Signature → Signature
        both_copies ds = copies_at theory (structure.name ∷ path) both ds

        inner_at : (d : Declaration) → Member d (own_part environment domain) → IsTypedAt (parts_of structure.domain ++ (inner.front ++ inner_copies (own_part environment domain))) along d
        inner_at d n = inner.typed (own_part environment domain) [] (sym (append-nil (own_part environment domain))) d (append_right (parts_of domain) (own_part environment domain) d n)

        -- what is copied twice is copied along the composition
        copied_twice : (ds : Signature) → ((d : Declaration) → Member d ds → Member d (own_part environment domain)) → ((d : Declaration) → Member d (inner_copies ds) → Member d (own_part environment structure.domain)) → copies (inner_copies ds) ≡ both_copies ds
        copied_twice [] f g = refl
        copied_twice (d ∷ ds) f g =
            let t = inner_at d (f d (inl refl)) in
            let new : Declaration = induced_with (record { theory = structure.domain; path = path ++ d.name.path }) t.image in
            let next : inner_copies (d ∷ ds) ≡ new ∷ inner_copies ds = copies_next structure.domain path along d ds t.image t.mapped in
            let j = map_at new (append_right (parts_of structure.domain) (own_part environment structure.domain) new (g new (subst (Member new) (sym next) (inl refl)))) in
            let value : j.image.value ≡ translate_value structure.map t.image.value = image_through structure.map new.name t.image.value j.image j.mapped j.value in
            let same : j.image ≡ translate_image structure.map t.image = ap₂ (λ (k : Class) (v : Value). made k v) j.class value in
            let whole : image_of both d.name ≡ Some (translate_image structure.map t.image) = composed along structure.map d.name ∙ ap (option_map (translate_image structure.map)) t.mapped in
            ap copies next ∙ copies_next theory (structure.name ∷ []) structure.map new (inner_copies ds) j.image j.mapped
            ∙ ap₂ (λ (x : Image) (xs : Signature). induced_with (record { theory = theory; path = structure.name ∷ (path ++ d.name.path) }) x ∷ xs) same (copied_twice ds (λ x n. f x (inr n)) (λ x n. g x (subst (Member x) (sym next) (inr n))))
            ∙ sym (copies_next theory (structure.name ∷ path) both d ds (translate_image structure.map t.image) whole)

        own_middle : own_part environment structure.domain ≡ inner.front ++ (inner_copies (own_part environment domain) ++ inner.back)
        own_middle = inner.parts

        front : Signature
        front = outer.front ++ copies inner.front

        back : Signature
        back = copies inner.back ++ outer.back

        in_middle : (new : Declaration) → Member new (inner_copies (own_part environment domain)) → Member new (own_part environment structure.domain)
        in_middle new n = subst (Member new) (sym own_middle) (append_right inner.front (inner_copies (own_part environment domain) ++ inner.back) new (append_left (inner_copies (own_part environment domain)) inner.back new n))

        -- of a front of the domain
        front_twice : (pre post : Signature) → own_part environment domain ≡ pre ++ post → copies (inner_copies pre) ≡ both_copies pre
        front_twice pre post e =
            copied_twice pre (λ d n. subst (Member d) (sym e) (append_left pre post d n))
            (λ new n. in_middle new (subst (Member new) (sym (ap inner_copies e ∙ copies_append structure.domain path along pre post)) (append_left (inner_copies pre) (inner_copies post) new n)))

        parts_through : own_part environment theory ≡ (outer.front ++ copies inner.front) ++ (both_copies (own_part environment domain) ++ (copies inner.back ++ outer.back))
        parts_through =
            outer.parts
            ∙ ap (λ z. outer.front ++ (z ++ outer.back)) (ap copies own_middle ∙ copies_append theory (structure.name ∷ []) structure.map inner.front (inner_copies (own_part environment domain) ++ inner.back)
            ∙ ap (λ z. copies inner.front ++ z) (copies_append theory (structure.name ∷ []) structure.map (inner_copies (own_part environment domain)) inner.back
            ∙ ap (λ z. z ++ copies inner.back) (front_twice (own_part environment domain) [] (sym (append-nil (own_part environment domain))))))
            ∙ ap (λ z. outer.front ++ z) (append_assoc (copies inner.front) (both_copies (own_part environment domain) ++ copies inner.back) outer.back ∙ ap (λ z. copies inner.front ++ z) (append_assoc (both_copies (own_part environment domain)) (copies inner.back) outer.back))
            ∙ sym (append_assoc outer.front (copies inner.front) (both_copies (own_part environment domain) ++ (copies inner.back ++ outer.back)))

        -- the three signatures up to a front of the domain
        module _ (pre post : Signature) (e : own_part environment domain ≡ pre ++ post) where
          source : Signature
          source = parts_of domain ++ pre

          middle : Signature
          middle = parts_of structure.domain ++ (inner.front ++ inner_copies pre)

          last : Signature
          last = parts_of theory ++ (outer.front ++ copies (inner.front ++ inner_copies pre))

          middle_parts : own_part environment structure.domain ≡ (inner.front ++ inner_copies pre) ++ (inner_copies post ++ inner.back)
          middle_parts =
              own_middle ∙ ap (λ z. inner.front ++ (z ++ inner.back)) (ap inner_copies e ∙ copies_append structure.domain path along pre post)
              ∙ ap (λ z. inner.front ++ z) (append_assoc (inner_copies pre) (inner_copies post) inner.back) ∙ sym (append_assoc inner.front (inner_copies pre) (inner_copies post ++ inner.back))

          last_parts : own_part environment theory ≡ (outer.front ++ copies (inner.front ++ inner_copies pre)) ++ (copies (inner_copies post ++ inner.back) ++ outer.back)
          last_parts =
              outer.parts ∙ ap (λ z. outer.front ++ (z ++ outer.back)) (ap copies middle_parts ∙ copies_append theory (structure.name ∷ []) structure.map (inner.front ++ inner_copies pre) (inner_copies post ++ inner.back))
              ∙ ap (λ z. outer.front ++ z) (append_assoc (copies (inner.front ++ inner_copies pre)) (copies (inner_copies post ++ inner.back)) outer.back)
              ∙ sym (append_assoc outer.front (copies (inner.front ++ inner_copies pre)) (copies (inner_copies post ++ inner.back) ++ outer.back))

          front_is : (includes own front back : Signature) → own ≡ front ++ back → IsSignature (includes ++ own) → IsSignature (includes ++ front)
          front_is includes own front back q h = signature_shrinks (includes ++ front) back (subst IsSignature (ap (λ z. includes ++ z) q ∙ sym (append_assoc includes front back)) h)

          composable : AreComposable (parts_of domain ++ pre) (parts_of structure.domain ++ (inner.front ++ inner_copies pre)) (parts_of theory ++ (outer.front ++ copies (inner.front ++ inner_copies pre))) along structure.map
          composable = record {
            first_is = record {
              source = front_is (parts_of domain) (own_part environment domain) pre post e domain_is;
              target = front_is (parts_of structure.domain) (own_part environment structure.domain) (inner.front ++ inner_copies pre) (inner_copies post ++ inner.back) middle_parts middle_is;
              typed = typed_by_members (parts_of domain ++ pre) (parts_of structure.domain ++ (inner.front ++ inner_copies pre)) along (λ d n. inner.typed pre post e d n);
              atomic = proper_atomic_over (parts_of domain ++ pre) along inner.proper;
            };
            second_is = record {
              source = front_is (parts_of structure.domain) (own_part environment structure.domain) (inner.front ++ inner_copies pre) (inner_copies post ++ inner.back) middle_parts middle_is;
              target = front_is (parts_of theory) (own_part environment theory) (outer.front ++ copies (inner.front ++ inner_copies pre)) (copies (inner_copies post ++ inner.back) ++ outer.back) last_parts signature;
              typed = typed_by_members (parts_of structure.domain ++ (inner.front ++ inner_copies pre)) (parts_of theory ++ (outer.front ++ copies (inner.front ++ inner_copies pre))) structure.map (λ d n. outer.typed (inner.front ++ inner_copies pre) (inner_copies post ++ inner.back) middle_parts d n);
              atomic = proper_atomic_over (parts_of structure.domain ++ (inner.front ++ inner_copies pre)) structure.map outer.proper;
            };
            first_proper = inner.proper;
            second_proper = outer.proper;
          }

          last_is : parts_of theory ++ (outer.front ++ copies (inner.front ++ inner_copies pre)) ≡ parts_of theory ++ ((outer.front ++ copies inner.front) ++ both_copies pre)
          last_is =
              ap (λ z. parts_of theory ++ (outer.front ++ z)) (copies_append theory (structure.name ∷ []) structure.map inner.front (inner_copies pre) ∙ ap (λ z. copies inner.front ++ z) (front_twice pre post e))
              ∙ ap (λ z. parts_of theory ++ z) (sym (append_assoc outer.front (copies inner.front) (both_copies pre)))

          typed_through : (d : Declaration) → Member d (parts_of domain ++ pre) → IsTypedAt (parts_of theory ++ ((outer.front ++ copies inner.front) ++ both_copies pre)) both d
          typed_through d n =
              let c = composition_is_typed (parts_of domain ++ pre) (parts_of structure.domain ++ (inner.front ++ inner_copies pre)) (parts_of theory ++ (outer.front ++ copies (inner.front ++ inner_copies pre))) along structure.map composable in
              let i = member_place (parts_of domain ++ pre) d n in
              subst (λ z. IsTypedAt z both d) last_is (c.typed i.0 d i.1)

        pub structure_within : LinkPlaced theory (structure.name ∷ path) domain both
        structure_within = record {
          front = outer.front ++ copies inner.front;
          back = copies inner.back ++ outer.back;
          parts = parts_through;
          proper = composition_is_proper (parts_of domain ++ own_part environment domain) _ _ along structure.map (composable (own_part environment domain) [] (sym (append-nil (own_part environment domain))));
          typed = λ pre post e d n. typed_through pre post e d n;
        }
