-- Images for what is translated where shared structures are compared, and for what comes next.
use Rattle.std.proofs.lemmas.Option.{same_Some}
use Rattle.std.proofs.lemmas.List.{map-append}
use Rattle.std.proofs.Common.{◌≡◌, Bool, true, false, cond, append_assoc, append-nil, List, [], ◌∷◌, ◌++◌, Option, Some, None, Ok, inl, inr, refl, sym, ap, ◌∙◌}
use Rattle.list_laws.proofs.Answers.{came_by, ok_same}
use Rattle.list_laws.proofs.Lists.{map_last}
use Rattle.list_laws.proofs.Members.{Member}
use Rattle.name_meaning.specs.Names.{Path}
use Rattle.lf_meaning.specs.Terms.{Constant}
use Rattle.lf_meaning.specs.Signatures.{Declaration, Signature, same_constant}
use Rattle.lf_meaning.specs.HeadMaps.{Image, Mapping, HeadMap, image_of}
use Rattle.translation_meaning.specs.Unmapped.{first_of, unmapped_class, unmapped_value, unmapped_map}
use Rattle.library_meaning.specs.Faces.{flat_of, own_part}
use Rattle.library_meaning.specs.Coherence.{declared_names, mapped_names}
use Rattle.library_meaning.specs.Words.{Link}
use Rattle.text_meaning.specs.Tokens.{Span}
use Rattle.text_meaning.specs.Trees.{Assign, IncludeAssign, StructAssign, ConstAssign}
use Rattle.link_meaning.specs.Assignments.{Setting, Assigned, Covering, Sharing, Giving, structure_at, with_target}
use Rattle.link_meaning.specs.AssignmentsRead.{AssignReads, AssignsRead}
use Rattle.link_meaning.specs.CoveringMaps.{included_part}
use Rattle.link_meaning.specs.LinkMaps.{IsSettled}
use Rattle.link_meaning.specs.Passes.{image_value, map_all, mapping_to}
use Rattle.link_laws.proofs.WordsHold.{structure_holds}
use Rattle.mapping_laws.proofs.Mapped.{names_have_images, map_mapped}
use Rattle.mapping_laws.specs.NextImages.{StandsBefore}
use Rattle.mapping_laws.proofs.NextMapped.{domains_stand_before, stands_behind}
use Rattle.link_passes.specs.SharedImages.{SharesMapped, AreShared}
use Rattle.link_passes.specs.Steps.{image_over, with_own_image}

-- The image of a constant in a map whose images are all mapped.
both : (a b : Option Constant) → first_of a b ≡ None → (a ≡ None) × (b ≡ None)
both None b h = (refl, h)
both (Some c) b h = absurd (cc)

pub image_mapped : (along first : HeadMap) (c : Constant) (image : Image) → unmapped_map along first ≡ None → Some image ≡ image_of first c → unmapped_value along image.value ≡ None
unfolding image_of unmapped_map
image_mapped along [] c image h found = absurd (cc)
image_mapped along (m ∷ ms) c image h found =
    let q = both (first_of (unmapped_class along m.image.class) (unmapped_value along m.image.value)) (unmapped_map along ms) h in
    by (same_constant m.name c) (both (unmapped_class along m.image.class) (unmapped_value along m.image.value) q.0).1 found (λ g. image_mapped along ms c image q.1 g)
  where
    by : (b : Bool) → unmapped_value along m.image.value ≡ None → Some image ≡ cond b (Some m.image) (image_of ms c) → (Some image ≡ image_of ms c → unmapped_value along image.value ≡ None) → unmapped_value along image.value ≡ None
    by true v g f = ap (λ (i : Image). unmapped_value along i.value) (same_Some _ _ g) ∙ v
    by false v g f = f g

-- What is read are structures of the domain.
read_shared : (setting : Setting) (earlier : List Path) (assign : Assign) (assigned : Assigned) → AssignReads setting earlier assign assigned → (target : Path) (structure : Link) (first : Span) (by : Link)
    → Sharing target structure first by ≡ assigned → structure_at setting target ≡ Some structure
read_shared setting earlier (ConstAssign target value) assigned r other structure first by e = let q = r.2 in absurd (cc)
read_shared setting earlier (IncludeAssign words) assigned r other structure first by e = let q = r.3 in absurd (cc)
read_shared setting earlier (StructAssign target words) assigned r other structure first by e =
    let q = r.6 in
    let t : other ≡ target.path = cc in
    let s : structure ≡ r.0 = cc in
    ap (structure_at setting) t ∙ r.2 ∙ ap Some (sym s)

pub reads_shared : (setting : Setting) (earlier : List Path) (assigns : List Assign) (assigned : List Assigned) → AssignsRead setting earlier assigns assigned → AreShared setting assigned
reads_shared setting earlier [] [] r target structure first by m = absurd m
reads_shared setting earlier [] (a ∷ rest) r target structure first by m = absurd r
reads_shared setting earlier (assign ∷ assigns) [] r target structure first by m = absurd m
reads_shared setting earlier (assign ∷ assigns) (a ∷ rest) r target structure first by (inl e) = read_shared setting earlier assign a r.0 target structure first by e
reads_shared setting earlier (assign ∷ assigns) (a ∷ rest) r target structure first by (inr m) = reads_shared setting (with_target earlier assign) assigns rest r.1 target structure first by m

-- So their images are mapped along the map of the domain.
pub shares_mapped : (setting : Setting) (assigned : List Assigned) (along : HeadMap) → IsSettled setting → AreShared setting assigned → mapped_names along ≡ declared_names (flat_of setting.environment setting.domain)
    → (item : Assigned) → Member item assigned → SharesMapped along item
shares_mapped setting assigned along settled shared names (Covering first by) m = tt
shares_mapped setting assigned along settled shared names (Sharing target structure first by) m =
    let k = structure_holds setting.environment settled.coherent setting.domain target structure (shared target structure first by m) in
    map_mapped (flat_of setting.environment setting.domain) along (names_have_images (flat_of setting.environment setting.domain) along names) structure.map k.1.holds
shares_mapped setting assigned along settled shared names (Giving target value) m = tt

-- An own constant's image is added under its name.
pub image_added : (setting : Setting) (assigned : List Assigned) (so_far : HeadMap) (d : Declaration) (along : HeadMap) → with_own_image setting assigned so_far d ≡ Ok along
    → (mapping : Mapping) × (mapping.name ≡ d.name) × (along ≡ so_far ++ mapping ∷ [])
image_added setting assigned so_far d along h =
    let c = came_by (image_over setting assigned so_far d) _ along h in
    (record { name = d.name; image = c.item }, refl, sym (ok_same c.goes))

-- The third pass adds its images under the names of the constants.
pub images_have_names : (setting : Setting) (assigned : List Assigned) (so_far along : HeadMap) (declarations : Signature) → map_all setting assigned so_far declarations ≡ Ok along
    → mapped_names along ≡ mapped_names so_far ++ declared_names declarations
unfolding map_all
images_have_names setting assigned so_far along [] h = ap mapped_names (sym (ok_same h)) ∙ sym (append-nil (mapped_names so_far))
images_have_names setting assigned so_far along (d ∷ ds) h =
    let c = came_by (image_value setting assigned so_far d) _ along h in
    let m : Mapping = mapping_to so_far d c.item in
    images_have_names setting assigned (so_far ++ m ∷ []) along ds c.goes
    ∙ ap (λ z. z ++ declared_names ds) (map_last (λ (z : Mapping). z.name) so_far m)
    ∙ append_assoc (mapped_names so_far) (d.name ∷ []) (declared_names ds)

-- So the whole map has the names of the domain.
pub whole_names : (setting : Setting) (assigned : List Assigned) (front along : HeadMap) → mapped_names front ≡ declared_names (included_part setting)
    → map_all setting assigned front (own_part setting.environment setting.domain) ≡ Ok along → mapped_names along ≡ declared_names (flat_of setting.environment setting.domain)
whole_names setting assigned front along names h =
    images_have_names setting assigned front along (own_part setting.environment setting.domain) h
    ∙ ap (λ z. z ++ declared_names (own_part setting.environment setting.domain)) names
    ∙ sym (map-append (λ (d : Declaration). d.name) (included_part setting) (own_part setting.environment setting.domain))

-- Behind the images of what the domain includes come those of its own constants.
pub own_next : (setting : Setting) (front : HeadMap) → IsSettled setting → mapped_names front ≡ declared_names (included_part setting) → StandsBefore front (own_part setting.environment setting.domain)
own_next setting front settled names =
    stands_behind [] front (included_part setting) (own_part setting.environment setting.domain) (domains_stand_before setting.environment setting.domain settled.coherent settled.theory) names
