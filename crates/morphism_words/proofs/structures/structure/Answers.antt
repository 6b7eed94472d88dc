use Rattle.std.proofs.Common.{◌+◌, cond, drop, Some, refl, sym, ap, ◌∙◌}
use Rattle.library_meaning.specs.Faces.{structure_of}
use Rattle.mmt_interface.specs.Readings.{read_structure, read_structures}
use Rattle.mmt_interface.proofs.StructureRows.{structure_next, structure_past}
use Rattle.morphism_words.proofs.structures.structure.Goals as goal

pub loop-structure-init : goal.loop-structure-init
loop-structure-init c = refl

pub returns-then-eq : goal.returns-then-eq
returns-then-eq c =
    let structs = c.as_slice-structure-items.result.now in
    let name = c.args.name.now in
    let i = c.loop-structure.structure-index in
    let s = c.structure-item.result in
    rw (← c.as_slice-structure-items.ensures) (sym (c.loop-structure.invariant ∙ structure_next structs name i s c.loop-structure-test.true c.structure-item.is
    ∙ ap (λ b. cond b (Some (read_structure s)) (structure_of (read_structures (drop (i + 1) structs)) name)) (sym c.eq.ensures ∙ c.if-eq.true)))

pub loop-structure-preserved : goal.loop-structure-preserved
loop-structure-preserved c =
    let structs = c.as_slice-structure-items.result.now in
    let name = c.args.name.now in
    let i = c.loop-structure.structure-index in
    let s = c.structure-item.result in
    c.loop-structure.invariant ∙ structure_next structs name i s c.loop-structure-test.true c.structure-item.is
    ∙ ap (λ b. cond b (Some (read_structure s)) (structure_of (read_structures (drop (i + 1) structs)) name)) (sym c.eq.ensures ∙ c.if-eq.false)

pub returns : goal.returns
returns c =
    let structs = c.as_slice-structure-items.result.now in
    rw (← c.as_slice-structure-items.ensures) (sym (c.loop-structure.invariant ∙ structure_past structs c.args.name.now c.loop-structure.structure-index c.loop-structure-test.false))
