-- The images of the domain's own constants, one after the other.
use Rattle.std.proofs.Common.{◌≡◌, ℕ, suc, true, List, [], ◌∷◌, ◌++◌, drop, slice_get, Some, option_map, Ok, Err, refl, sym, ap, ◌∙◌}
use Rattle.list_laws.proofs.Places.{drop_here}
use Rattle.list_laws.proofs.Members.{place_member}
use Rattle.name_laws.proofs.Order.{same_of}
use Rattle.lf_meaning.specs.Signatures.{Value, Declaration, Signature}
use Rattle.lf_meaning.specs.HeadMaps.{HeadMap}
use Rattle.translation_meaning.specs.Translation.{translate_class, translate_value}
use Rattle.library_meaning.specs.Faces.{TheoryFace, theory_of, own_of, own_part}
use Rattle.answer_meaning.specs.Answers.{◌>>=◌}
use Rattle.link_meaning.specs.Refusals.{Outcome}
use Rattle.link_meaning.specs.Assignments.{Setting, Assigned}
use Rattle.link_meaning.specs.Passes.{is_own, image_by, mapping_to, map_all}
use Rattle.link_meaning.specs.LinkMaps.{IsSettled}
use Rattle.link_laws.proofs.Linked.{own_named}
use Rattle.link_passes.specs.Steps.{AreOwn, with_own_image}

module _ (setting : Setting) (assigned : List Assigned) where
  -- The map with one more image, and then the rest.
  pub image_and_on : (so_far : HeadMap) (d : Declaration) (ds : Signature) → is_own setting d ≡ true
      → map_all setting assigned so_far (d ∷ ds) ≡ with_own_image setting assigned so_far d >>= (λ along. map_all setting assigned along ds)
  unfolding map_all
  image_and_on so_far d ds own =
      ap (λ b. image_by setting assigned b (translate_class so_far d.class) (option_map (translate_value so_far) d.value) d >>= (λ value. map_all setting assigned (so_far ++ mapping_to so_far d value ∷ []) ds)) own
      ∙ sym (by (image_by setting assigned true (translate_class so_far d.class) (option_map (translate_value so_far) d.value) d))
    where
      by : (value : Outcome Value)
          → ((value >>= (λ v. Ok (record { class = translate_class so_far d.class; value = v }))) >>= (λ image. Ok (so_far ++ record { name = d.name; image = image } ∷ []))) >>= (λ along. map_all setting assigned along ds)
          ≡ value >>= (λ v. map_all setting assigned (so_far ++ mapping_to so_far d v ∷ []) ds)
      by (Ok value) = refl
      by (Err fault) = refl

  pub image_at : (so_far : HeadMap) (own : Signature) (i : ℕ) (d : Declaration) → slice_get own i ≡ Some d → is_own setting d ≡ true
      → map_all setting assigned so_far (drop i own) ≡ with_own_image setting assigned so_far d >>= (λ along. map_all setting assigned along (drop (suc i) own))
  image_at so_far own i d p own_d = ap (map_all setting assigned so_far) (drop_here own i d p) ∙ image_and_on so_far d (drop (suc i) own) own_d

  pub no_more : (so_far : HeadMap) (ds : Signature) → ds ≡ [] → map_all setting assigned so_far ds ≡ Ok so_far
  unfolding map_all
  no_more so_far ds e = ap (map_all setting assigned so_far) e

-- The own part of the domain has the domain's own constants.
pub own_are_own : (setting : Setting) → IsSettled setting → (face : TheoryFace) → Some face ≡ theory_of setting.environment setting.domain → AreOwn setting face.own
own_are_own setting settled face there i d p =
    same_of d.name.theory setting.domain (own_named setting.environment settled.coherent setting.domain d (place_member (own_part setting.environment setting.domain) i d (ap (λ o. slice_get (own_of o) i) (sym there) ∙ p)))
