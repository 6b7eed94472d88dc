-- The constants of a map differ, so each of them is new behind those before it.
use Rattle.std.proofs.Common.{◌≡◌, ℕ, zero, suc, Bool, true, false, cond, ◌||◌, List, [], ◌∷◌, map, take, Some, None, refl, sym, ap, ◌∙◌, subst}
use Rattle.std.specs.Prelude.{slice_get}
use Rattle.std.specs.List.{list_any, AllByRecursion, IsDistinct}
use Rattle.std.specs.Option.{option_map}
use Rattle.std.proofs.lemmas.List.{take-map}
use Rattle.std.proofs.lemmas.Option.{same_Some}
use Rattle.lf_meaning.specs.Terms.{Constant}
use Rattle.lf_meaning.specs.HeadMaps.{Mapping}
use Rattle.lf_meaning.specs.Signatures.{same_constant}
use Rattle.base_types.specs.declared.qname.QName.{QName}
use Rattle.term_trees.specs.declared.flat_decl.Image.{Image}
use Rattle.term_trees.specs.Readings.{read_constant, read_map}
use Rattle.lf_terms.specs.Tables.{heads_of, image_of, HasDistinctHeads}
use Rattle.lf_terms.proofs.SameName.{same_constant_equiv}

-- What all have, the one at an index has.
all_at : {X : Type 0} (P : X → Type 0) (xs : List X) (i : ℕ) (x : X) → AllByRecursion P xs → slice_get xs i ≡ Some x → P x
all_at P [] i x all here = absurd (cc)
all_at P (y ∷ ys) zero x all here = subst P (same_Some y x here) all.0
all_at P (y ∷ ys) (suc i) x all here = all_at P ys i x all.1 here

none_before : (xs : List Constant) (i : ℕ) (x : Constant) → IsDistinct same_constant xs → slice_get xs i ≡ Some x → list_any (same_constant x) (take i xs) ≡ false
unfolding IsDistinct
none_before [] i x distinct here = absurd (cc)
none_before (y ∷ ys) zero x distinct here = refl
none_before (y ∷ ys) (suc i) x distinct here =
    ap (λ b. b || list_any (same_constant x) (take i ys)) (same_constant_equiv.symm x y ∙ all_at (λ head. same_constant y head ≡ false) ys i x distinct.0 here)
    ∙ none_before ys i x distinct.1 here

without_image : (es : List (QName × Image)) (name : QName) → list_any (same_constant (read_constant name)) (heads_of es) ≡ false → image_of es name ≡ None
without_image [] name h = refl
without_image (e ∷ es) name h = by (same_constant (read_constant name) (read_constant e.0)) h (without_image es name)
  where
    by : (b : Bool) → (b || list_any (same_constant (read_constant name)) (heads_of es)) ≡ false
        → (list_any (same_constant (read_constant name)) (heads_of es) ≡ false → image_of es name ≡ None) → cond b (Some e.1) (image_of es name) ≡ None
    by true g f = absurd (cc)
    by false g f = f g

heads_read : (es : List (QName × Image)) → heads_of es ≡ map (λ (m : Mapping). m.name) (read_map es)
heads_read [] = refl
heads_read (e ∷ es) = ap (λ heads. read_constant e.0 ∷ heads) (heads_read es)

head_at : (es : List (QName × Image)) (i : ℕ) (pair : QName × Image) → slice_get es i ≡ Some pair → slice_get (heads_of es) i ≡ Some (read_constant pair.0)
head_at [] i pair here = absurd (cc)
head_at (e ∷ es) zero pair here = ap (option_map (λ (p : QName × Image). read_constant p.0)) here
head_at (e ∷ es) (suc i) pair here = head_at es i pair here

-- A map of the constants before an index has no image of the one there.
pub new_behind : (es fs : List (QName × Image)) (i : ℕ) (pair : QName × Image) → HasDistinctHeads es → map (λ (m : Mapping). m.name) (read_map fs) ≡ take i (map (λ (m : Mapping). m.name) (read_map es))
    → slice_get es i ≡ Some pair → image_of fs pair.0 ≡ None
new_behind es fs i pair distinct same here =
    let heads : heads_of fs ≡ take i (heads_of es) = heads_read fs ∙ same ∙ ap (take i) (sym (heads_read es)) in
    without_image fs pair.0 (ap (list_any (same_constant (read_constant pair.0))) heads ∙ none_before (heads_of es) i (read_constant pair.0) distinct (head_at es i pair here))

-- A copy of the pairs before an index has no image of the constant there.
pub new_behind_copies : (es fs : List (QName × Image)) (i : ℕ) (pair : QName × Image) → HasDistinctHeads es → read_map fs ≡ take i (read_map es) → slice_get es i ≡ Some pair → image_of fs pair.0 ≡ None
new_behind_copies es fs i pair distinct same =
    new_behind es fs i pair distinct (ap (map (λ (m : Mapping). m.name)) same ∙ sym (take-map (λ (m : Mapping). m.name) i (read_map es)))
