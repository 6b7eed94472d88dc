use Rattle.std.proofs.Common.{rules, ◌-◌, true, false, length, take, drop, Option, Some, None, sym, ap, ◌∙◌, arith}
use Rattle.std.specs.Option.{option_map}
use Rattle.library_meaning.specs.Faces.{TheoryFace}
use Rattle.library_meaning.specs.Words.{behind_structure, structure_link, structures_link, structures_of}
use Rattle.mapping_laws.proofs.Followed.{structures_are_followed}
use Rattle.mmt_interface.specs.Readings.{environment_of, read_structure, read_structures, read_theory}
use Rattle.morphism_words.specs.LentLinks.{read_lent}
use Rattle.morphism_words.proofs.CoherentLinks.{structures_of_theory}
use Rattle.morphism_words.proofs.ListsLeft.{behind_first}
use Rattle.morphism_words.proofs.RowsOfStructures.{absent, alone, empty_row, further, no_structures, rest_empty}
use Rattle.morphism_words.proofs.structures.+lent_structures_link.Goals as goal

pub returns-in_default : goal.returns-in_default
returns-in_default t c = sym (empty_row (environment_of c.args.faces.now) c.args.theory.now (read_structures c.args.structs.now) c.args.path.now (omega arith))

pub returns-in_default-structure : goal.returns-in_default-structure
returns-in_default-structure t c =
    sym (absent (environment_of c.args.faces.now) c.args.theory.now (read_structures c.args.structs.now) c.args.path.now c.name-item.result c.in-len1-up.len_at_least c.name-item.is c.in_default-structure.ensures)

pub returns-then-is_empty : goal.returns-then-is_empty
returns-then-is_empty t c =
    let path = c.args.path.now in
    ap Some c.structure_link.ensures
    ∙ sym (alone (environment_of c.args.faces.now) c.args.theory.now (read_structures c.args.structs.now) path c.name-item.result c.in-len1-up.len_at_least c.name-item.is
    (read_structure c.in-Some.structure.now) c.in-Some.ensures (rest_empty path true (sym c.if-is_empty.true ∙ c.is_empty.ensures)))

pub returns-in_default-theory : goal.returns-in_default-theory
returns-in_default-theory t c =
    let environment = environment_of c.args.faces.now in
    let path = c.args.path.now in
    let structure = read_structure c.in-Some.structure.now in
    let outer = structure_link c.args.theory.now structure in
    sym (further environment c.args.theory.now (read_structures c.args.structs.now) path c.name-item.result c.in-len1-up.len_at_least c.name-item.is
    structure None c.in-Some.ensures (rest_empty path false (sym c.if-is_empty.false ∙ c.is_empty.ensures)) c.in_default-theory.ensures.meaning
    ∙ ap (λ o. behind_structure o outer) (no_structures environment structure.domain (drop 1 path)))

pub returns-in_ok-behind-in-Some-2 : goal.returns-in_ok-behind-in-Some-2
returns-in_ok-behind-in-Some-2 t c =
    let environment = environment_of c.args.faces.now in
    let path = c.args.path.now in
    let structure = read_structure c.in-Some.structure.now in
    let outer = structure_link c.args.theory.now structure in
    let face = read_theory c.in-Some-theory.face.now in
    let behind = ap (option_map read_lent) (sym c.in-Some-2.is) ∙ c.in_ok-inner.ensures ∙ ap (structures_link environment structure.domain face.structures) (behind_first path) in
    ap Some c.in_ok-behind-in-Some-2.ensures
    ∙ sym (further environment c.args.theory.now (read_structures c.args.structs.now) path c.name-item.result c.in-len1-up.len_at_least c.name-item.is
    structure (Some face) c.in-Some.ensures (rest_empty path false (sym c.if-is_empty.false ∙ c.is_empty.ensures)) c.in-Some-theory.ensures.meaning
    ∙ ap (λ o. behind_structure o outer) (sym behind))

pub returns-in-None : goal.returns-in-None
returns-in-None t c =
    let environment = environment_of c.args.faces.now in
    let path = c.args.path.now in
    let structure = read_structure c.in-Some.structure.now in
    let outer = structure_link c.args.theory.now structure in
    let face = read_theory c.in-Some-theory.face.now in
    let behind = ap (option_map read_lent) (sym c.in-None.is) ∙ c.in_ok-inner.ensures ∙ ap (structures_link environment structure.domain face.structures) (behind_first path) in
    sym (further environment c.args.theory.now (read_structures c.args.structs.now) path c.name-item.result c.in-len1-up.len_at_least c.name-item.is
    structure (Some face) c.in-Some.ensures (rest_empty path false (sym c.if-is_empty.false ∙ c.is_empty.ensures)) c.in-Some-theory.ensures.meaning
    ∙ ap (λ o. behind_structure o outer) (sym behind))

pub lent_structures_link-requires : goal.lent_structures_link-requires
lent_structures_link-requires t c = (
  search rules,
  (
    c.requires.coherent,
    structures_of_theory (environment_of c.args.faces.now) c.requires.coherent c.in-Some.structure.now.domain (read_theory c.in-Some-theory.face.now) c.in-Some-theory.ensures.meaning,
  ),
)

pub behind-requires : goal.behind-requires
behind-requires t c =
    let environment = environment_of c.args.faces.now in
    let path = c.args.path.now in
    let rest = take (length path - 1) (drop 1 path) in
    let structure = read_structure c.in-Some.structure.now in
    let inner = read_lent c.in-Some-2.inner in
    let behind = sym c.in_ok-inner.ensures ∙ ap (option_map read_lent) c.in-Some-2.is in
    structures_are_followed environment (read_structures c.args.structs.now) c.requires.structures.0 c.name-item.result structure rest inner c.requires.coherent c.requires.structures.1 (sym c.in-Some.ensures)
    (ap (λ (o : Option TheoryFace). structures_link environment structure.domain (structures_of o) rest) (sym c.in-Some-theory.ensures.meaning) ∙ behind)
