-- Names that are added to a list, each unless it is there (this profile).
use Rattle.std.specs.Prelude.{◌≡◌, List, ◌++◌}
use Rattle.name_meaning.specs.Names.{Name}
use Rattle.library_meaning.specs.Closure.{sees}
use Rattle.include_closure.specs.declared.additions.Additions.{Additions}

-- Two lists have the same names.
abbrev pub HaveSame : List Name → List Name → Type 0
HaveSame names others = (name : Name) → sees names name ≡ sees others name

-- The names at the front and those that were added behind them are the whole, whose names are known.
pub record Extends (additions : Additions) (front whole : List Name) : Type 0 where
  pub list : front ++ additions.added.items ≡ whole
  pub known : HaveSame additions.known.keys whole
