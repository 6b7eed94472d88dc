-- Constants that come next while the images of what the domain includes are made, over coherent faces.
use Rattle.std.proofs.Common.{◌≡◌, List, [], ◌∷◌, ◌++◌, ap, ◌∙◌, subst}
use Rattle.name_meaning.specs.Names.{Name}
use Rattle.lf_meaning.specs.HeadMaps.{HeadMap}
use Rattle.library_meaning.specs.Faces.{own_part, own_parts}
use Rattle.library_meaning.specs.Coherence.{declared_names, mapped_names}
use Rattle.link_meaning.specs.Assignments.{Setting, included_theories}
use Rattle.link_meaning.specs.CoveringMaps.{included_part}
use Rattle.link_meaning.specs.LinkMaps.{IsSettled}
use Rattle.link_laws.proofs.Onces.{parts_joined}
use Rattle.mapping_laws.specs.NextImages.{StandsBefore}
use Rattle.mapping_laws.proofs.NextMapped.{domains_stand_before, stands_behind, stands_in_front}

module _ (setting : Setting) (settled : IsSettled setting) where
  -- The images of the theories before it are followed by those of the next one.
  pub part_next : (before after : List Name) (theory : Name) (so_far : HeadMap) → included_theories setting ≡ before ++ theory ∷ after
      → mapped_names so_far ≡ declared_names (own_parts setting.environment before) → StandsBefore so_far (own_part setting.environment theory)
  part_next before after theory so_far here names =
      let parts = own_parts setting.environment in
      let own = own_part setting.environment theory in
      let whole : included_part setting ≡ parts before ++ (own ++ parts after) = ap parts here ∙ parts_joined setting.environment settled.coherent before (theory ∷ after) in
      let domain = domains_stand_before setting.environment setting.domain settled.coherent settled.theory in
      let included : StandsBefore [] (parts before ++ (own ++ parts after)) =
      subst (StandsBefore []) whole (stands_in_front [] (included_part setting) (own_part setting.environment setting.domain) domain) in
      stands_in_front so_far own (parts after) (stands_behind [] so_far (parts before) (own ++ parts after) included names)
