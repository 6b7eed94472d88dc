-- The constants that a structure induces are those that the walk over its domain adds.
use Rattle.std.proofs.Common.{◌≡◌, ℕ, suc, Bool, true, false, List, [], ◌∷◌, ◌++◌, filter_map, slice_get, Option, Some, None, option_map, inl, inr, refl, sym, ap, ap₂, ◌∙◌, subst}
use Rattle.std.specs.Prelude.{⊤}
use Rattle.std.specs.List.{cons_option}
use Rattle.name_meaning.specs.Names.{Name, same_name}
use Rattle.lf_meaning.specs.Signatures.{Declaration, Signature}
use Rattle.list_laws.proofs.Members.{Member, in_flat_map, append_right, place_member, in_filter_map}
use Rattle.name_laws.proofs.Order.{member_among, same_itself}
use Rattle.lf_meaning.specs.HeadMaps.{Image, Mapping, HeadMap, image_of}
use Rattle.library_meaning.specs.Faces.{own_part, own_parts, flat_of}
use Rattle.library_meaning.specs.Holding.{AlikeClasses}
use Rattle.library_meaning.specs.Coherence.{declared_names, mapped_names, IsCoherentMap}
use Rattle.link_meaning.specs.Assignments.{Setting, included_theories}
use Rattle.link_meaning.specs.Passes.{induced_constant, is_own}
use Rattle.link_meaning.specs.Induced.{induced_with, induced_from, induced}
use Rattle.link_laws.proofs.Linked.{own_named, own_by, includes_other}
use Rattle.constant_laws.proofs.Translating.{placed_in}
use Rattle.link_laws.proofs.Onces.{Once, once_names, member_declared}
use Rattle.link_laws.proofs.WordsHold.{flat_once}
use Rattle.link_laws.proofs.ImagesHold.{SettingHolds}
use Rattle.link_laws.proofs.LinksHold.{added_by, added_all}
use Rattle.std.proofs.lemmas.Option.{same_Some}
use Rattle.std.proofs.lemmas.List.Elements.{filter_map-append}
use Rattle.list_laws.proofs.Lists.{rest_same}

abbrev Imaged : HeadMap → Signature → HeadMap → Type 0
Imaged along [] ms = ⊤
Imaged along (d ∷ ds) [] = ⊥
Imaged along (d ∷ ds) (m ∷ ms) = (image_of along d.name ≡ Some m.image) × Imaged along ds ms

imaged_by : (along : HeadMap) (ds : Signature) (ms : HeadMap) → mapped_names ms ≡ declared_names ds → ((i : ℕ) (d : Declaration) (m : Mapping) → slice_get ds i ≡ Some d → slice_get ms i ≡ Some m → image_of along d.name ≡ Some m.image) → Imaged along ds ms
imaged_by along [] ms e h = tt
imaged_by along (d ∷ ds) [] e h = absurd (cc)
imaged_by along (d ∷ ds) (m ∷ ms) e h = (h 0 d m refl refl, imaged_by along ds ms (rest_same e) (λ i x y p q. h (suc i) x y p q))

imaged : (from to : Signature) (along : HeadMap) → Once from → IsCoherentMap from to along → Imaged along from along
imaged from to along o k = imaged_by along from along k.names at
  where
    at : (i : ℕ) (d : Declaration) (m : Mapping) → slice_get from i ≡ Some d → slice_get along i ≡ Some m → image_of along d.name ≡ Some m.image
    at i d m p q =
        let x = placed_in d.name d from along k.names (member_declared from o d (place_member from i d p)) in
        let e : x.place ≡ i = once_names from o x.place i d d x.declared p refl in
        x.image ∙ ap (λ (z : Mapping). Some z.image) (same_Some _ _ (sym x.mapped ∙ ap (slice_get along) e ∙ q))

filter_nothing : {A B : Type 0} (f : A → Option B) (xs : List A) → ((x : A) → Member x xs → f x ≡ None) → filter_map f xs ≡ []
filter_nothing f [] h = refl
filter_nothing f (x ∷ xs) h = ap (λ o. cons_option o (filter_map f xs)) (h x (inl refl)) ∙ filter_nothing f xs (λ y m. h y (inr m))

filter_same : {A B : Type 0} (f g : A → Option B) (xs : List A) → ((x : A) → Member x xs → f x ≡ g x) → filter_map f xs ≡ filter_map g xs
filter_same f g [] h = refl
filter_same f g (x ∷ xs) h = ap₂ cons_option (h x (inl refl)) (filter_same f g xs (λ y m. h y (inr m)))

module _ (setting : Setting) where
  -- a view adds nothing
  added_none : (b : Bool) (d : Declaration) (m : Mapping) → added_by setting b None d m ≡ []
  added_none true d m = refl
  added_none false d m = refl

  pub nothing_added : (ds : Signature) (ms : HeadMap) → setting.structure ≡ None → added_all setting ds ms ≡ []
  nothing_added [] ms e = refl
  nothing_added (d ∷ ds) [] e = refl
  nothing_added (d ∷ ds) (m ∷ ms) e = ap₂ (λ x y. x ++ y) (ap (λ o. added_by setting (is_own setting d) o d m) e ∙ added_none (is_own setting d) d m) (nothing_added ds ms e)

  abbrev if_own : Bool → Option Declaration → Option Declaration
  if_own true o = o
  if_own false o = None

  abbrev own_induced : Name → HeadMap → Declaration → Option Declaration
  own_induced structure along d = if_own (is_own setting d) (induced_from setting structure along d)

  one_added : (structure : Name) (b : Bool) (o : Option Image) (d : Declaration) (m : Mapping) (rest : Signature) → o ≡ Some m.image
      → added_by setting b (Some structure) d m ++ rest ≡ cons_option (if_own b (option_map (induced_with (induced_constant setting structure d.name)) o)) rest
  one_added structure true o d m rest e = ap (λ z. cons_option (option_map (induced_with (induced_constant setting structure d.name)) z) rest) (sym e)
  one_added structure false o d m rest e = refl

  added_filter : (structure : Name) (along : HeadMap) (ds : Signature) (ms : HeadMap) → setting.structure ≡ Some structure → Imaged along ds ms → added_all setting ds ms ≡ filter_map (own_induced structure along) ds
  added_filter structure along [] ms e h = refl
  added_filter structure along (d ∷ ds) [] e h = absurd h
  added_filter structure along (d ∷ ds) (m ∷ ms) e h =
      ap (λ o. added_by setting (is_own setting d) o d m ++ added_all setting ds ms) e
      ∙ one_added structure (is_own setting d) (image_of along d.name) d m (added_all setting ds ms) h.0
      ∙ ap (cons_option (own_induced structure along d)) (added_filter structure along ds ms e h.1)

  module _ (ok : SettingHolds setting) where
    pub added_is_induced : (structure : Name) (to : Signature) (along : HeadMap) → setting.structure ≡ Some structure → IsCoherentMap (flat_of setting.environment setting.domain) to along → added_all setting (flat_of setting.environment setting.domain) along ≡ induced setting structure along
    added_is_induced structure to along e k =
        added_filter structure along (flat_of setting.environment setting.domain) along e (imaged (flat_of setting.environment setting.domain) to along (flat_once setting.environment ok.coherent setting.domain) k)
        ∙ filter_map-append (own_induced structure along) (own_parts setting.environment (included_theories setting)) (own_part setting.environment setting.domain)
        ∙ ap (λ z. z ++ filter_map (own_induced structure along) (own_part setting.environment setting.domain)) (filter_nothing (own_induced structure along) (own_parts setting.environment (included_theories setting)) not_included)
        ∙ filter_same (own_induced structure along) (induced_from setting structure along) (own_part setting.environment setting.domain) own
      where
        not_included : (d : Declaration) → Member d (own_parts setting.environment (included_theories setting)) → own_induced structure along d ≡ None
        not_included d m =
            let q = in_flat_map (own_part setting.environment) (included_theories setting) d m in
            ap (λ b. if_own b (induced_from setting structure along d))
            (own_by setting [] (record { coherent = ok.coherent; theory = ok.theory }) d q.0 (own_named setting.environment ok.coherent q.0 d q.2) (includes_other setting.environment ok.coherent setting.domain q.0 (member_among (included_theories setting) q.0 q.1)))

        own : (d : Declaration) → Member d (own_part setting.environment setting.domain) → own_induced structure along d ≡ induced_from setting structure along d
        own d m =
            ap (λ b. if_own b (induced_from setting structure along d))
            (ap (λ n. same_name n setting.domain) (own_named setting.environment ok.coherent setting.domain d m) ∙ same_itself setting.domain)

    -- each induced constant, with the own constant of the domain that it is from
    pub record InducedFrom (structure : Name) (e : Declaration) : Type 0 where
      pub source : Declaration
      pub own : Member source (own_part setting.environment setting.domain)
      pub named : e.name ≡ induced_constant setting structure source.name
      pub alike : AlikeClasses e.class source.class

    made : (structure : Name) (d e : Declaration) (o : Option Image) (image : Image) → o ≡ Some image → option_map (induced_with (induced_constant setting structure d.name)) o ≡ Some e → e ≡ induced_with (induced_constant setting structure d.name) image
    made structure d e o image g h = same_Some _ _ (sym h ∙ ap (option_map (induced_with (induced_constant setting structure d.name))) g)

    pub induced_members : (structure : Name) (to : Signature) (along : HeadMap) → IsCoherentMap (flat_of setting.environment setting.domain) to along → (e : Declaration) → Member e (induced setting structure along) → InducedFrom structure e
    induced_members structure to along k e m =
        let q = in_filter_map (induced_from setting structure along) (own_part setting.environment setting.domain) e m in
        let n = append_right (own_parts setting.environment (included_theories setting)) (own_part setting.environment setting.domain) q.0 q.1 in
        let p = placed_in (q.0).name q.0 (flat_of setting.environment setting.domain) along k.names (member_declared (flat_of setting.environment setting.domain) (flat_once setting.environment ok.coherent setting.domain) q.0 n) in
        let g = made structure q.0 e (image_of along (q.0).name) p.mapping.image p.image q.2 in
        record {
          source = q.0;
          own = q.1;
          named = ap (λ z. z.name) g;
          alike = subst (λ (z : Declaration). AlikeClasses z.class (q.0).class) (sym g) (k.alike p.place p.mapping q.0 p.mapped p.declared);
        }
