-- Arguments that come in place of those of a spine.
use Rattle.std.specs.Prelude.{ℕ, List, Option, Some, None, take}
use Rattle.std.specs.declared.alloc.Global.{Global}
use Rattle.std.specs.declared.vec.Vec.{Vec}
use Rattle.lf_meaning.specs.Terms as terms
use Rattle.term_trees.specs.Readings.{read_objects}
use Rattle.term_trees.specs.declared.obj.Obj.{Obj}

-- A value, or what came in its place.
abbrev pub changed : {X : Type 0} → X → Option X → X
changed x None = x
changed x (Some y) = y

-- What stands for the first arguments: they themselves, or what was gathered in their place.
abbrev pub gathered : List Obj → ℕ → Option (Vec Obj Global) → List terms.Object
gathered items i None = read_objects (take i items)
gathered items i (Some new) = read_objects new.items
