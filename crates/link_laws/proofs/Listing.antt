-- Lists: members by place, tests of all, and maps that have the names of declarations.
use Rattle.std.proofs.Common.{◌≡◌, ℕ, zero, suc, Bool, true, false, cond, List, [], ◌∷◌, ◌++◌, length, slice_get, Option, Some, Ok, inl, inr, refl, sym, ap, ap₂, ◌∙◌}
use Rattle.std.specs.Prelude.{⊤}
use Rattle.lf_meaning.specs.Terms.{Constant}
use Rattle.lf_meaning.specs.Signatures.{Class, Declaration, Signature, same_constant, declaration_of, class_of}
use Rattle.list_laws.proofs.Members.{Member}
use Rattle.lf_meaning.specs.HeadMaps.{Image, Mapping, HeadMap, image_of}
use Rattle.library_meaning.specs.Coherence.{declared_names, mapped_names}
use Rattle.link_meaning.specs.Refusals.{Outcome, each}
use Rattle.list_laws.proofs.Lists.{first_same, rest_same, map_last}
use Rattle.lf_term_laws.proofs.Declarations.{declared_some, image_front}
use Rattle.list_laws.proofs.Answers.{came_by, goes_by}

module _ {A : Type 0} where
  pub each_passed : (test : A → Outcome ⊤) (xs : List A) (done : ⊤) → each test xs ≡ Ok done → (x : A) → Member x xs → test x ≡ Ok tt
  each_passed test [] done h x m = absurd m
  each_passed test (y ∷ ys) done h x (inl e) = let c = came_by (test y) _ done h in ap test e ∙ c.came
  each_passed test (y ∷ ys) done h x (inr m) = let c = came_by (test y) _ done h in each_passed test ys done c.goes x m

  pub each_passes : (test : A → Outcome ⊤) (xs : List A) → ((x : A) → Member x xs → test x ≡ Ok tt) → each test xs ≡ Ok tt
  each_passes test [] h = refl
  each_passes test (y ∷ ys) h = goes_by (test y) _ tt tt (h y (inl refl)) (each_passes test ys (λ x m. h x (inr m)))

-- a declaration that stands at a place has its mapping there
pub mapping_there : (along : HeadMap) (declarations : Signature) → mapped_names along ≡ declared_names declarations → (i : ℕ) (d : Declaration) → slice_get declarations i ≡ Some d → (m : Mapping) × (slice_get along i ≡ Some m)
mapping_there [] [] e i d h = absurd (cc)
mapping_there [] (c ∷ cs) e i d h = absurd (cc)
mapping_there (m ∷ ms) [] e i d h = absurd (cc)
mapping_there (m ∷ ms) (c ∷ cs) e zero d h = (m, refl)
mapping_there (m ∷ ms) (c ∷ cs) e (suc i) d h = mapping_there ms cs (rest_same e) i d h

pub first_name_same : (m : Mapping) (ms : HeadMap) (d : Declaration) (ds : Signature) → mapped_names (m ∷ ms) ≡ declared_names (d ∷ ds) → m.name ≡ d.name
first_name_same m ms d ds e = first_same e

pub rest_names_same : (m : Mapping) (ms : HeadMap) (d : Declaration) (ds : Signature) → mapped_names (m ∷ ms) ≡ declared_names (d ∷ ds) → mapped_names ms ≡ declared_names ds
rest_names_same m ms d ds e = rest_same e

pub names_last : (along : HeadMap) (m : Mapping) (declarations : Signature) (d : Declaration) → mapped_names along ≡ declared_names declarations → m.name ≡ d.name → mapped_names (along ++ m ∷ []) ≡ declared_names (declarations ++ d ∷ [])
names_last along m declarations d e n = map_last (λ (z : Mapping). z.name) along m ∙ ap₂ (λ x y. x ++ y ∷ []) e n ∙ sym (map_last (λ (z : Declaration). z.name) declarations d)

pub same_length : (along : HeadMap) (declarations : Signature) → mapped_names along ≡ declared_names declarations → length along ≡ length declarations
same_length [] [] e = refl
same_length [] (d ∷ ds) e = absurd (cc)
same_length (m ∷ ms) [] e = absurd (cc)
same_length (m ∷ ms) (d ∷ ds) e = ap suc (same_length ms ds (rest_same e))

-- what is found in front is found in the whole
front_by : (b : Bool) (x : Image) (o q : Option Image) (image : Image) → cond b (Some x) o ≡ Some image → (o ≡ Some image → q ≡ Some image) → cond b (Some x) q ≡ Some image
front_by true x o q image h f = h
front_by false x o q image h f = f h

found_by : (b : Bool) (x : Image) (d e : Declaration) (o : Option Image) (q : Option Declaration) → cond b (Some d) q ≡ Some e → (q ≡ Some e → (image : Image) × (o ≡ Some image)) → (image : Image) × (cond b (Some x) o ≡ Some image)
found_by true x d e o q h f = (x, refl)
found_by false x d e o q h f = f h

pub declared_mapped : (declarations : Signature) (along : HeadMap) → mapped_names along ≡ declared_names declarations → (c : Constant) (d : Declaration) → declaration_of declarations c ≡ Some d → (image : Image) × (image_of along c ≡ Some image)
unfolding image_of
declared_mapped [] along e c d h = absurd (cc)
declared_mapped (x ∷ xs) [] e c d h = absurd (cc)
declared_mapped (x ∷ xs) (m ∷ ms) e c d h =
    let n : m.name ≡ x.name = first_same e in
    found_by (same_constant m.name c) m.image x d (image_of ms c) (declaration_of xs c) (ap (λ z. cond (same_constant z c) (Some x) (declaration_of xs c)) n ∙ h) (declared_mapped xs ms (rest_same e) c d)

-- more images leave those of the declared constants
pub images_stay : (done : Signature) (a rest : HeadMap) → mapped_names a ≡ declared_names done → (c : Constant) (class : Class) → class_of done c ≡ Some class → image_of a c ≡ image_of (a ++ rest) c
images_stay done a rest e c class h =
    let d = declared_some (declaration_of done c) class h in
    let i = declared_mapped done a e c d.0 d.1 in
    i.1 ∙ sym (image_front a rest c i.0 i.1)
