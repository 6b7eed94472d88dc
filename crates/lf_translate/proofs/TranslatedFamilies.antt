-- Families: what is asked of the images that are met, what has none, and what comes of a head with its arguments.
use Rattle.std.proofs.Common.{◌≡◌, ℕ, zero, suc, ◌+◌, ◌<◌, ◌≤◌, List, [], ◌∷◌, ◌++◌, length, map, drop, get_or, Some, None, refl, sym, ap, ap₂, ◌∙◌, add-one}
use Rattle.std.proofs.Math.Seq.{drop-cons}
use Rattle.std.proofs.lemmas.List.{drop_all}
use Rattle.std.specs.declared.boxed.Box.{Box}
use Rattle.std.specs.declared.alloc.Global.{Global}
use Rattle.lf_meaning.specs.Terms.{Object, Family, Pi, AtFamily, AtomicFamily, FamilyCon, FamilyApp, Kind, Ty, PiKind, family_apply_all}
use Rattle.lf_meaning.specs.Signatures as signatures
use Rattle.lf_meaning.specs.HeadMaps.{Image, HeadMap, image_of}
use Rattle.lf_meaning.specs.Erasure.{erase}
use Rattle.lf_meaning.specs.Raising.{map_kind}
use Rattle.lf_meaning.specs.Substitution.{substitute, substitute_family, substitute_kind}
use Rattle.lf_term_laws.proofs.Spines.{family_apply_all_appended}
use Rattle.lf_substitution_laws.proofs.Families.{erase_map}
use Rattle.translation_meaning.specs.Heads.{FamilyHead, family_takes, head_takes_all}
use Rattle.translation_meaning.specs.Translation.{translate_object, translate_family, translate_head, translate_kind, family_of, family_image, family_head_image, image_kind}
use Rattle.translation_meaning.specs.Unmapped.{first_of, without_image, unmapped_object, unmapped_family, unmapped_atomic_family, unmapped_kind}
use Rattle.translation_laws.proofs.Spines.{family_spine_taken, spine_kept}
use Rattle.term_trees.specs.Readings.{read_constant, read_family, read_kind, read_object, read_objects, read_arguments, read_class, read_value}
use Rattle.base_types.specs.declared.qname.QName.{QName}
use Rattle.term_trees.specs.declared.class.Class as code
use Rattle.term_trees.specs.declared.class.Class.TheVariants as classes
use Rattle.term_trees.specs.declared.class.Value as code_value
use Rattle.term_trees.specs.declared.class.Value.TheVariants as values
use Rattle.term_trees.specs.declared.fam.Fam.{Fam}
use Rattle.term_trees.specs.declared.fam.Fam.TheVariants as fams
use Rattle.term_trees.specs.declared.kind.Kind as kind
use Rattle.term_trees.specs.declared.kind.Kind.TheVariants as kinds
use Rattle.term_trees.specs.declared.obj.Obj.{Obj}
use Rattle.term_trees.specs.declared.obj.Spine.{Spine}
use Rattle.term_trees.proofs.ReadingEquations.{read_family_pi, read_family_at, read_kind_ty, read_kind_pi}
use Rattle.lf_translate.specs.Spines.{unmapped_arguments}
use Rattle.lf_translate.proofs.Faults.{first_none, first_grouped}

module _ (along : HeadMap) where
  unmapped_spine : (p : AtomicFamily) (ms : List Object) → first_of (unmapped_atomic_family along p) (unmapped_arguments along ms) ≡ unmapped_atomic_family along (family_apply_all p ms)
  unfolding unmapped_atomic_family
  unmapped_spine p [] = first_none (unmapped_atomic_family along p)
  unmapped_spine p (m ∷ ms) = sym (first_grouped (unmapped_atomic_family along p) (unmapped_object along m) (unmapped_arguments along ms)) ∙ unmapped_spine (FamilyApp p m) ms

  -- A Π.
  module _ (t : Fam) (a b : Box Fam Global) (is : t ≡ fams.Pi a b) where
    reads_pi : read_family t ≡ Pi (read_family a.value) (read_family b.value)
    reads_pi = ap read_family is ∙ read_family_pi a b

    pub unmapped_pi : first_of (unmapped_family along (read_family a.value)) (unmapped_family along (read_family b.value)) ≡ unmapped_family along (read_family t)
    unfolding unmapped_family
    unmapped_pi = sym (ap (unmapped_family along) reads_pi)

    pub translated_pi : (c d : Box Fam Global) → read_family c.value ≡ translate_family along (read_family a.value) → read_family d.value ≡ translate_family along (read_family b.value) → read_family (fams.Pi c d) ≡ translate_family along (read_family t)
    unfolding translate_family
    translated_pi c d domain body = read_family_pi c d ∙ ap₂ Pi domain body ∙ sym (ap (translate_family along) reads_pi)

  -- A head with its arguments.
  module _ (t : Fam) (q : QName) (s : Spine) (is : t ≡ fams.At q s) where
    reads : read_family t ≡ AtFamily (family_apply_all (FamilyCon (read_constant q)) (read_arguments s))
    reads = ap read_family is ∙ read_family_at q s

    pub unmapped_at : first_of (without_image (read_constant q) (image_of along (read_constant q))) (unmapped_arguments along (read_arguments s)) ≡ unmapped_family along (read_family t)
    unfolding unmapped_family unmapped_atomic_family
    unmapped_at = unmapped_spine (FamilyCon (read_constant q)) (read_arguments s) ∙ sym (ap (unmapped_family along) reads)

    module _ (r : Spine) (arguments : read_arguments r ≡ map (translate_object along) (read_arguments s)) (image : Image) (found : image_of along (read_constant q) ≡ Some image) where
      pub translated_at : (a : Fam) → ((p : AtomicFamily) → read_family a ≡ family_of (head_takes_all (family_image (read_constant q) image.class image.value) (read_arguments r)) p)
          → read_family a ≡ translate_family along (read_family t)
      unfolding translate_family translate_head
      translated_at a put =
          let c = read_constant q in
          let p = family_apply_all (FamilyCon c) (read_arguments s) in
          put p
          ∙ ap (λ ms. family_of (head_takes_all (family_image c image.class image.value) ms) p) arguments
          ∙ sym (ap (λ o. family_of (head_takes_all (family_head_image c o) (map (translate_object along) (read_arguments s))) p) found)
          ∙ sym (ap (λ x. family_of x p) (family_spine_taken along (FamilyCon c) (read_arguments s)))
          ∙ sym (ap (translate_family along) reads)

  -- Kinds.
  pub unmapped_type : (t : kind.Kind) → t ≡ kinds.Ty → unmapped_kind along (read_kind t) ≡ None
  unfolding unmapped_kind
  unmapped_type t is = ap (unmapped_kind along) (ap read_kind is ∙ read_kind_ty)

  pub translated_type : (t : kind.Kind) → t ≡ kinds.Ty → read_kind kinds.Ty ≡ translate_kind along (read_kind t)
  unfolding translate_kind
  translated_type t is = read_kind_ty ∙ sym (ap (translate_kind along) (ap read_kind is ∙ read_kind_ty))

  module _ (t : kind.Kind) (a : Box Fam Global) (k : Box kind.Kind Global) (is : t ≡ kinds.Pi a k) where
    reads_kind : read_kind t ≡ PiKind (read_family a.value) (read_kind k.value)
    reads_kind = ap read_kind is ∙ read_kind_pi a k

    pub unmapped_pi_kind : first_of (unmapped_family along (read_family a.value)) (unmapped_kind along (read_kind k.value)) ≡ unmapped_kind along (read_kind t)
    unfolding unmapped_kind
    unmapped_pi_kind = sym (ap (unmapped_kind along) reads_kind)

    pub translated_pi_kind : (c : Box Fam Global) (d : Box kind.Kind Global) → read_family c.value ≡ translate_family along (read_family a.value) → read_kind d.value ≡ translate_kind along (read_kind k.value) → read_kind (kinds.Pi c d) ≡ translate_kind along (read_kind t)
    unfolding translate_kind
    translated_pi_kind c d domain body = read_kind_pi c d ∙ ap₂ PiKind domain body ∙ sym (ap (translate_kind along) reads_kind)

-- The image in its place.
module _ (c : QName) (k : code.Class) (v : code_value.Value) (s : Spine) (p : AtomicFamily) where
  abbrev pub Placed : signatures.Class → signatures.Value → Family
  Placed class value = family_of (head_takes_all (family_image (read_constant c) class value) (read_arguments s)) p

  of_value : (w : code_value.Value) → v ≡ w → Placed (read_class k) (read_value v) ≡ Placed (read_class k) (read_value w)
  of_value w is = ap (λ x. Placed (read_class k) (read_value x)) is

  constant_placed : (j : Kind) (q o : QName) → o ≡ q → read_family (fams.At o s) ≡ family_of (head_takes_all (FamilyHead zero (AtFamily (FamilyCon (read_constant q))) j) (read_arguments s)) p
  constant_placed j q o copied =
      read_family_at o s
      ∙ ap (λ x. AtFamily (family_apply_all (FamilyCon (read_constant x)) (read_arguments s))) copied
      ∙ sym (spine_kept j (FamilyCon (read_constant q)) (read_arguments s) p)

  pub same_in_place : (q o : QName) → v ≡ values.Same q → o ≡ q → read_family (fams.At o s) ≡ Placed (read_class k) (read_value v)
  same_in_place q o value copied = constant_placed (image_kind (read_class k)) q o copied ∙ sym (of_value (values.Same q) value)

  pub term_in_place : (n : Obj) (o : QName) → v ≡ values.Term n → o ≡ c → read_family (fams.At o s) ≡ Placed (read_class k) (read_value v)
  term_in_place n o value copied = constant_placed (image_kind (read_class k)) c o copied ∙ sym (of_value (values.Term n) value)

  module _ (n : ℕ) (b a : Fam) (value : v ≡ values.Fam n b) where
    pub family_in_place : (j : kind.Kind) → k ≡ classes.Kind j → read_family a ≡ family_of (head_takes_all (FamilyHead n (read_family b) (read_kind j)) (read_arguments s)) p → read_family a ≡ Placed (read_class k) (read_value v)
    family_in_place j class filled = filled ∙ sym (ap (λ l. Placed (read_class l) (read_value (values.Fam n b))) class) ∙ sym (of_value (values.Fam n b) value)

    pub level_in_place : (j : kind.Kind) (d : Fam) → k ≡ classes.Fam d → j ≡ kinds.Ty → read_family a ≡ family_of (head_takes_all (FamilyHead n (read_family b) (read_kind j)) (read_arguments s)) p → read_family a ≡ Placed (read_class k) (read_value v)
    level_in_place j d class type filled =
        filled
        ∙ ap (λ l. family_of (head_takes_all (FamilyHead n (read_family b) l) (read_arguments s)) p) (ap read_kind type ∙ read_kind_ty)
        ∙ sym (ap (λ l. Placed (read_class l) (read_value (values.Fam n b))) class) ∙ sym (of_value (values.Fam n b) value)

-- Kinds whose domains have the same erasures are the same to a head.
abbrev SameErasures : Kind → Kind → Type 0
SameErasures Ty Ty = Unit {0}
SameErasures Ty (PiKind b l) = ⊥
SameErasures (PiKind a k) Ty = ⊥
SameErasures (PiKind a k) (PiKind b l) = (erase a ≡ erase b) × SameErasures k l

erasures_mapped : (f g : ℕ → Object → Object) (n m : ℕ) (k l : Kind) → SameErasures k l → SameErasures (map_kind f n k) (map_kind g m l)
erasures_mapped f g n m Ty Ty h = tt
erasures_mapped f g n m Ty (PiKind b l) h = absurd h
erasures_mapped f g n m (PiKind a k) Ty h = absurd h
erasures_mapped f g n m (PiKind a k) (PiKind b l) h = (erase_map f n a ∙ h.0 ∙ sym (erase_map g m b), erasures_mapped f g (suc n) (suc m) k l h.1)

erasures_left : (f : ℕ → Object → Object) (n : ℕ) (k : Kind) → SameErasures (map_kind f n k) k
erasures_left f n Ty = tt
erasures_left f n (PiKind a k) = (erase_map f n a, erasures_left f (suc n) k)

same_to_head : (ms : List Object) (n : ℕ) (f : Family) (k l : Kind) (p : AtomicFamily) → SameErasures k l → family_of (head_takes_all (FamilyHead n f k) ms) p ≡ family_of (head_takes_all (FamilyHead n f l) ms) p
unfolding head_takes_all
same_to_head [] n f k l p h = refl
same_to_head (m ∷ ms) n f Ty Ty p h = refl
same_to_head (m ∷ ms) n f Ty (PiKind b l) p h = absurd h
same_to_head (m ∷ ms) n f (PiKind a k) Ty p h = absurd h
same_to_head (m ∷ ms) zero f (PiKind a k) (PiKind b l) p h =
    same_to_head ms zero (family_takes f m) (substitute_kind m (erase a) 0 k) (substitute_kind m (erase b) 0 l) p (erasures_mapped (substitute m (erase a)) (substitute m (erase b)) 0 0 k l h.1)
same_to_head (m ∷ ms) (suc n) f (PiKind a k) (PiKind b l) p h =
    same_to_head ms n (substitute_family m (erase a) n f) (substitute_kind m (erase a) 0 k) (substitute_kind m (erase b) 0 l) p (erasures_mapped (substitute m (erase a)) (substitute m (erase b)) 0 0 k l h.1)
    ∙ ap (λ e. family_of (head_takes_all (FamilyHead n (substitute_family m e n f) (substitute_kind m (erase b) 0 l)) ms) p) h.0

-- Without binders the kind is not asked.
no_binders : (ms : List Object) (f : Family) (k l : Kind) (p : AtomicFamily) → family_of (head_takes_all (FamilyHead zero f k) ms) p ≡ family_of (head_takes_all (FamilyHead zero f l) ms) p
unfolding head_takes_all
no_binders [] f k l p = refl
no_binders (m ∷ ms) f Ty Ty p = refl
no_binders (m ∷ ms) f Ty (PiKind b l) p = no_binders ms (family_takes f m) Ty (substitute_kind m (erase b) 0 l) p
no_binders (m ∷ ms) f (PiKind a k) Ty p = no_binders ms (family_takes f m) (substitute_kind m (erase a) 0 k) Ty p
no_binders (m ∷ ms) f (PiKind a k) (PiKind b l) p = no_binders ms (family_takes f m) (substitute_kind m (erase a) 0 k) (substitute_kind m (erase b) 0 l) p

-- One argument: past the binders, for a binder, and where no domain is left.
pub takes_past : (m : Object) (ms : List Object) (f : Family) (k : Kind) (p : AtomicFamily) → family_of (head_takes_all (FamilyHead zero f k) (m ∷ ms)) p ≡ family_of (head_takes_all (FamilyHead zero (family_takes f m) k) ms) p
unfolding head_takes_all
takes_past m ms f Ty p = refl
takes_past m ms f (PiKind a k) p = no_binders ms (family_takes f m) (substitute_kind m (erase a) 0 k) (PiKind a k) p

pub takes_for_binder : (m : Object) (ms : List Object) (n : ℕ) (f a : Family) (k : Kind) (p : AtomicFamily) → family_of (head_takes_all (FamilyHead (suc n) f (PiKind a k)) (m ∷ ms)) p ≡ family_of (head_takes_all (FamilyHead n (substitute_family m (erase a) n f) k) ms) p
unfolding head_takes_all
takes_for_binder m ms n f a k p = same_to_head ms n (substitute_family m (erase a) n f) (substitute_kind m (erase a) 0 k) k p (erasures_left (substitute m (erase a)) 0 k)

pub takes_nothing : (m : Object) (ms : List Object) (n : ℕ) (f : Family) (p : AtomicFamily) → family_of (head_takes_all (FamilyHead (suc n) f Ty) (m ∷ ms)) p ≡ family_of (head_takes_all (FamilyHead (suc n) f Ty) ms) p
unfolding head_takes_all
takes_nothing m ms n f p = refl

-- A head with what it has taken so far, and what is left.
abbrev pub Taken : ℕ → Family → Kind → List Object → AtomicFamily → Family
Taken n f k ms p = family_of (head_takes_all (FamilyHead n f k) ms) p

module _ (items : List Obj) (i : ℕ) (whole : AtomicFamily → Family) (n : ℕ) (f made : Fam) (k : kind.Kind)
    (so_far : (p : AtomicFamily) → Taken n (read_family f) (read_kind k) (read_objects (drop i items)) p ≡ whole p) where
  module _ (item : Obj) (inside : i < length items) (is : item ≡ get_or items i item) where
    next : drop i items ≡ item ∷ drop (i + 1) items
    next = rw add-one (drop-cons items i item inside ∙ ap (λ (x : Obj). x ∷ drop (suc i) items) (sym is))

    before : (p : AtomicFamily) → Taken n (read_family f) (read_kind k) (read_object item ∷ read_objects (drop (i + 1) items)) p ≡ whole p
    before p = sym (ap (λ xs. Taken n (read_family f) (read_kind k) (read_objects xs) p) next) ∙ so_far p

    pub filled_past : (copy : Obj) → n ≡ 0 → read_family made ≡ family_takes (read_family f) (read_object copy) → read_object copy ≡ read_object item
        → (p : AtomicFamily) → Taken n (read_family made) (read_kind k) (read_objects (drop (i + 1) items)) p ≡ whole p
    filled_past copy none taken copied p =
        let m = read_object item in
        let others = read_objects (drop (i + 1) items) in
        ap (λ a. Taken n a (read_kind k) others p) (taken ∙ ap (family_takes (read_family f)) copied)
        ∙ ap (λ j. Taken j (family_takes (read_family f) m) (read_kind k) others p) none
        ∙ sym (takes_past m others (read_family f) (read_kind k) p)
        ∙ sym (ap (λ j. Taken j (read_family f) (read_kind k) (m ∷ others) p) none)
        ∙ before p

    pub filled_binder : (left : ℕ) (a : Box Fam Global) (l : Box kind.Kind Global) (d : Fam) → n ≡ suc left → k ≡ kinds.Pi a l → d ≡ a.value
        → read_family made ≡ substitute_family (read_object item) (erase (read_family d)) left (read_family f)
        → (p : AtomicFamily) → Taken left (read_family made) (read_kind l.value) (read_objects (drop (i + 1) items)) p ≡ whole p
    filled_binder left a l d one_more pi same substituted p =
        let m = read_object item in
        let others = read_objects (drop (i + 1) items) in
        ap (λ b. Taken left b (read_kind l.value) others p) (substituted ∙ ap (λ x. substitute_family m (erase (read_family x)) left (read_family f)) same)
        ∙ sym (takes_for_binder m others left (read_family f) (read_family a.value) (read_kind l.value) p)
        ∙ sym (ap₂ (λ j h. Taken j (read_family f) h (m ∷ others) p) one_more (ap read_kind pi ∙ read_kind_pi a l))
        ∙ before p

    pub filled_nothing : (left : ℕ) → n ≡ suc left → k ≡ kinds.Ty → (p : AtomicFamily) → Taken n (read_family f) (read_kind k) (read_objects (drop (i + 1) items)) p ≡ whole p
    filled_nothing left one_more type p =
        let m = read_object item in
        let others = read_objects (drop (i + 1) items) in
        let here = ap read_kind type ∙ read_kind_ty in
        ap₂ (λ j h. Taken j (read_family f) h others p) one_more here
        ∙ sym (takes_nothing m others left (read_family f) p)
        ∙ sym (ap₂ (λ j h. Taken j (read_family f) h (m ∷ others) p) one_more here)
        ∙ before p

  pub filled_whole : length items ≤ i → (p : AtomicFamily) → read_family f ≡ whole p
  unfolding head_takes_all
  filled_whole past p = sym (ap (λ xs. Taken n (read_family f) (read_kind k) (read_objects xs) p) (drop_all i items past)) ∙ so_far p

-- An argument at the end of a spine.
pub taken_at : (a : Fam) (q : QName) (s r : Spine) (m : Obj) → a ≡ fams.At q s → read_arguments r ≡ read_arguments s ++ read_object m ∷ [] → read_family (fams.At q r) ≡ family_takes (read_family a) (read_object m)
taken_at a q s r m is pushed =
    read_family_at q r
    ∙ ap (λ (ms : List Object). AtFamily (family_apply_all (FamilyCon (read_constant q)) ms)) pushed
    ∙ ap AtFamily (family_apply_all_appended (FamilyCon (read_constant q)) (read_arguments s) (read_object m ∷ []))
    ∙ sym (ap (λ b. family_takes b (read_object m)) (ap read_family is ∙ read_family_at q s))
