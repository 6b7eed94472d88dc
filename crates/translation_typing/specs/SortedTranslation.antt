-- Translation by simple types alone (this profile).
use Rattle.std.specs.Prelude.{◌≡◌}
use Rattle.lf_meaning.specs.Terms.{Family, AtomicFamily, AtFamily}
use Rattle.lf_meaning.specs.Erasure.{erase}
use Rattle.lf_meaning.specs.HeadMaps.{HeadMap}
use Rattle.translation_meaning.specs.Translation.{translate_family}
use Rattle.translation_meaning.specs.AtomicFamilies.{IsAtomicFamily}
use Rattle.translation_typing.specs.AtomicBodies.{BodiesAreAtomic}

-- Along a map of atomic families, families of one simple type are translated to families of one simple type.
abbrev pub SimpleTypesDecide : Type 0
SimpleTypesDecide =
    (along : HeadMap) (first second : Family) → BodiesAreAtomic along → erase first ≡ erase second
    → erase (translate_family along first) ≡ erase (translate_family along second)

-- Along a map of atomic families, an atomic family is translated to an atomic one.
abbrev pub AtomicStaysAtomic : Type 0
AtomicStaysAtomic = (along : HeadMap) (family : AtomicFamily) → BodiesAreAtomic along → IsAtomicFamily (translate_family along (AtFamily family))
