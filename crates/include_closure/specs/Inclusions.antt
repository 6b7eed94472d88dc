-- What is known of a closure between the inclusions that make it (this profile).
use Rattle.std.specs.Prelude.{◌≡◌, List, [], Option, Some, None, ⊤}
use Rattle.name_meaning.specs.Names.{Name}
use Rattle.include_closure.specs.Additions.{Extends}
use Rattle.include_closure.specs.declared.additions.Additions.{Additions}
use Rattle.include_closure.specs.declared.inclusions.Inclusions.{Inclusions}

-- Where there is a table, it has these names, and nothing is added to them.
abbrev pub KnownBy : Option Additions → List Name → Type 0
KnownBy None names = ⊤
KnownBy (Some additions) names = Extends additions names names

-- Where there is none, no name is there.
abbrev pub ReadyBy : Option Additions → List Name → Type 0
ReadyBy None names = names ≡ []
ReadyBy (Some additions) names = Extends additions names names

abbrev pub Knows : Inclusions → List Name → Type 0
Knows inclusions names = KnownBy inclusions.additions names

abbrev pub IsReady : Inclusions → List Name → Type 0
IsReady inclusions names = ReadyBy inclusions.additions names
