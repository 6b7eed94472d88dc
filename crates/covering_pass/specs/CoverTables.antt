-- The coverings of a link in tables, and what these tell (this profile).
use Rattle.std.specs.Prelude.{◌≡◌, Bool, List, [], filter_map, ◌&&◌, Option, Some, None, IfSome}
use Rattle.std.specs.Option.{option_copied, option_map}
use Rattle.std.specs.List.{list_any}
use Rattle.name_meaning.specs.Names.{Name}
use Rattle.lf_meaning.specs.Terms.{Constant}
use Rattle.lf_meaning.specs.Signatures.{Signature, Value}
use Rattle.lf_meaning.specs.HeadMaps as maps
use Rattle.library_meaning.specs.Faces.{theory_of, includes_of, own_part}
use Rattle.library_meaning.specs.Closure.{sees}
use Rattle.library_meaning.specs.Words.{identity_map}
use Rattle.link_meaning.specs.Assignments as assignments
use Rattle.link_meaning.specs.Assignments.{codomain_sees, included_theories}
use Rattle.link_meaning.specs.Coverings as meant
use Rattle.link_meaning.specs.Coverings.{cover_if, covers_of, identity_covers}
use Rattle.term_trees.specs.Readings.{read_map, read_signature}
use Rattle.term_trees.specs.declared.flat_decl.FlatDecl.{FlatDecl}
use Rattle.mmt_syntax.specs.Readings.{read_span}
use Rattle.link_setting.specs.Readings.{read_setting, read_all_assigned}
use Rattle.covering_pass.specs.declared.cover_tables.Cover.{Cover}
use Rattle.covering_pass.specs.declared.cover_tables.Covers.{Covers}
use Rattle.covering_pass.specs.declared.covering.Covering.{Covering}
use Rattle.covering_pass.specs.declared.covering.Covering.TheVariants.{Identity, Along}
use Rattle.covering_pass.specs.declared.chosen.Chosen.{Chosen}
use Rattle.covering_pass.specs.declared.link_coverings.Coverings.{Coverings}

-- The own part of a theory; of no accepted theory the empty one.
abbrev pub read_own : Option (List FlatDecl) → Signature
read_own None = []
read_own (Some decls) = read_signature decls

-- The map of a covering of a theory with this own part.
abbrev pub read_covering : Signature → Covering → maps.HeadMap
read_covering own Identity = identity_map own
read_covering own (Along along) = read_map along.now

-- What a table says that its assignment covers a theory by.
abbrev pub cover_of : Name → Cover → Option meant.Cover
cover_of theory cover = cover_if (sees cover.theories.keys theory) (read_span cover.first) (read_map cover.map.now)

abbrev pub covers_in : List Cover → Name → List meant.Cover
covers_in covers theory = filter_map (cover_of theory) covers

-- The link and its assignments, whose tables these are.
abbrev pub setting_of : Covers → assignments.Setting
setting_of covers = read_setting covers.setting

abbrev pub assigned_of : Covers → List assignments.Assigned
assigned_of covers = read_all_assigned covers.assigned.now

-- The tables tell what covers a theory, and what the codomain sees.
pub record AreCovers (covers : Covers) : Type 0 where
  pub covers_are : (theory : Name) → covers_in covers.covers.items theory ≡ covers_of (setting_of covers) (assigned_of covers) theory
  pub seen_is : (theory : Name) → sees covers.seen.keys theory ≡ codomain_sees (setting_of covers) theory

-- One of these theories includes this theory, and the identity covers that one.
abbrev pub is_below_identity : assignments.Setting → List assignments.Assigned → List Name → Name → Bool
is_below_identity setting assigned others theory =
    list_any (λ (other : Name). identity_covers setting assigned other && sees (includes_of (theory_of setting.environment other)) theory) others

-- A further table, if there is one, tells which theories are included in one that the identity covers.
pub record AreCoverings (coverings : Coverings) : Type 0 where
  pub covers_are : AreCovers coverings.covers
  pub below_is : IfSome coverings.below (λ table. (theory : Name)
      → sees table.keys theory ≡ is_below_identity (setting_of coverings.covers) (assigned_of coverings.covers) (included_theories (setting_of coverings.covers)) theory)

-- The value that the covering of a theory gives to a constant.
abbrev pub value_chosen : Chosen → Constant → Option Value
value_chosen chosen constant = meant.value_by (option_map (read_covering (read_own (option_copied chosen.own))) chosen.covering) constant

-- The own part of the theory, and its covering with which the others are compared.
pub record IsChosen (setting : assignments.Setting) (assigned : List assignments.Assigned) (chosen : Chosen) : Type 0 where
  pub own_is : read_own (option_copied chosen.own) ≡ own_part setting.environment chosen.theory.now
  pub covering_is : option_map (read_covering (own_part setting.environment chosen.theory.now)) chosen.covering ≡ meant.first_covering setting assigned chosen.theory.now
