-- What holds of the links of words over coherent faces.
use Rattle.std.specs.Prelude.{List}
use Rattle.lf_meaning.specs.Signatures.{Signature}
use Rattle.library_meaning.specs.Faces.{StructureFace, Environment}
use Rattle.link_laws.specs.LinkTargets.{StructuresHold}

-- The structures are from accepted theories, and have coherent maps into one signature.
abbrev pub AreStructures : Environment → List StructureFace → Type 0
AreStructures environment structures = (target : Signature) × StructuresHold environment structures target
