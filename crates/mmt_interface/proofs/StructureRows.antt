-- Structures looked up by name among those from a place on.
use Rattle.std.proofs.Common.{◌≡◌, ℕ, ◌+◌, ◌<◌, ◌≤◌, List, cond, drop, length, get_or, Some, None, sym, ap, ◌∙◌}
use Rattle.std.proofs.lemmas.List.{at_drop_more, at_drop_all}
use Rattle.name_meaning.specs.Names.{Name, same_name}
use Rattle.library_meaning.specs.Faces.{structure_of}
use Rattle.mmt_interface.specs.Readings.{read_structure, read_structures}
use Rattle.mmt_interface.specs.declared.face.StructFace.{StructFace}

-- Among the structures from a place on, the one there comes first.
pub structure_next : (structures : List StructFace) (name : Name) (place : ℕ) (here : StructFace) → place < length structures → here ≡ get_or structures place here
    → structure_of (read_structures (drop place structures)) name ≡ cond (same_name here.name name) (Some (read_structure here)) (structure_of (read_structures (drop (place + 1) structures)) name)
unfolding structure_of
structure_next structures name place here within is =
    at_drop_more (λ z. structure_of (read_structures z) name) structures place here within
    ∙ ap (λ (z : StructFace). cond (same_name z.name name) (Some (read_structure z)) (structure_of (read_structures (drop (place + 1) structures)) name)) (sym is)

-- No structure is left.
pub structure_past : (structures : List StructFace) (name : Name) (place : ℕ) → length structures ≤ place → structure_of (read_structures (drop place structures)) name ≡ None
unfolding structure_of
structure_past structures name place h = at_drop_all (λ z. structure_of (read_structures z) name) structures place h
