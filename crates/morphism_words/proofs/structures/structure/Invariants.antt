use Rattle.std.proofs.Common.{◌≡◌, drop}
use Rattle.library_meaning.specs.Faces.{structure_of}
use Rattle.mmt_interface.specs.Readings.{read_structures}
use Rattle.morphism_words.proofs.structures.structure.Given as goal

-- The structure is among those that are left.
abbrev pub invariant-loop-structure : goal.invariant-loop-structure
invariant-loop-structure l = structure_of (read_structures l.structure-items) l.name ≡ structure_of (read_structures (drop l.structure-index l.structure-items)) l.name
