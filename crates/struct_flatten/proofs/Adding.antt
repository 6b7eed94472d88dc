-- Constants that are added behind those of a theory.
use Rattle.std.proofs.Common.{◌≡◌, ℕ, suc, ◌≤◌, List, [], ◌∷◌, ◌++◌, take, drop, length, slice_get, append_assoc, Some, None, refl, sym, ap, ◌∙◌, subst, arith}
use Rattle.std.specs.List.{cons_option}
use Rattle.std.specs.Option.{option_map}
use Rattle.std.proofs.lemmas.List.Elements.{filter_map-append}
use Rattle.list_laws.proofs.Lists.{rest_same}
use Rattle.list_laws.proofs.Places.{take_drop, take_more, take_take}
use Rattle.name_meaning.specs.Names.{Name}
use Rattle.lf_meaning.specs.Signatures.{Declaration, Signature, declaration_of}
use Rattle.lf_meaning.specs.HeadMaps.{Image, HeadMap, image_of}
use Rattle.link_meaning.specs.Induced.{induced_with}
use Rattle.link_laws.proofs.Onces.{Once, once_left}
use Rattle.include_closure.proofs.NewNames.{last_new}
use Rattle.struct_flatten.specs.Steps.{constant_into, induced_by, induced_into}

module _ {A : Type 0} where
  front_within : (xs ys : List A) → take (length xs) ys ≡ xs → length xs ≤ length ys
  front_within [] ys h = omega arith
  front_within (x ∷ xs) [] h = absurd (cc)
  front_within (x ∷ xs) (y ∷ ys) h = let rest = front_within xs ys (rest_same h) in omega (arith, rest)

  -- A beginning of a beginning is one.
  pub front_of_front : (xs ys zs : List A) → take (length xs) ys ≡ xs → take (length ys) zs ≡ ys → take (length xs) zs ≡ xs
  front_of_front xs ys zs h g = sym (take_take zs (length xs) (length ys) (front_within xs ys h)) ∙ ap (take (length xs)) g ∙ h

-- What is induced from one declaration more.
pub one_more : (here structure : Name) (along : HeadMap) (before now after declarations : Signature) (i : ℕ) (d : Declaration) → slice_get declarations i ≡ Some d
    → now ≡ before ++ induced_into here structure along (take i declarations) → after ≡ now ++ induced_into here structure along (d ∷ [])
    → after ≡ before ++ induced_into here structure along (take (suc i) declarations)
one_more here structure along before now after declarations i d there e f =
    let induce = induced_into here structure along in
    f ∙ ap (λ z. z ++ induce (d ∷ [])) e ∙ append_assoc before (induce (take i declarations)) (induce (d ∷ []))
    ∙ ap (λ z. before ++ z) (sym (filter_map-append (induced_by here structure along) (take i declarations) (d ∷ [])) ∙ ap induce (sym (take_more declarations i d there)))

-- None of it is declared twice, where the whole is not.
pub once_so_far : (here structure : Name) (along : HeadMap) (before now declarations : Signature) (i : ℕ) (d : Declaration) → slice_get declarations i ≡ Some d
    → now ≡ before ++ induced_into here structure along (take i declarations) → Once (before ++ induced_into here structure along declarations)
    → Once (now ++ induced_into here structure along (d ∷ []))
once_so_far here structure along before now declarations i d there e once =
    let induce = induced_into here structure along in
    let more = one_more here structure along before now (now ++ induce (d ∷ [])) declarations i d there e refl in
    let whole : before ++ induce declarations ≡ (now ++ induce (d ∷ [])) ++ induce (drop (suc i) declarations) =
    ap (λ z. before ++ z) (ap induce (sym (take_drop declarations (suc i))) ∙ filter_map-append (induced_by here structure along) (take (suc i) declarations) (drop (suc i) declarations))
    ∙ sym (append_assoc before (induce (take (suc i) declarations)) (induce (drop (suc i) declarations)))
    ∙ ap (λ z. z ++ induce (drop (suc i) declarations)) (sym more) in
    once_left (now ++ induce (d ∷ [])) (induce (drop (suc i) declarations)) (subst Once whole once)

-- So the next one is new.
pub induced_new : (here structure : Name) (along : HeadMap) (own : Signature) (d : Declaration) (image : Image) (e : Declaration) → Some image ≡ image_of along d.name → e ≡ induced_with (constant_into here structure d) image
    → Once (own ++ induced_into here structure along (d ∷ [])) → declaration_of own e.name ≡ None
induced_new here structure along own d image e found is once =
    let one : induced_into here structure along (d ∷ []) ≡ e ∷ [] =
    ap (λ o. cons_option (option_map (induced_with (constant_into here structure d)) o) []) (sym found) ∙ ap (λ z. z ∷ []) (sym is) in
    last_new own e (subst (λ z. Once (own ++ z)) one once)
