-- What reaches a constant, read off the code's values.
use Rattle.std.specs.Prelude.{◌∷◌, Option, Some, None}
use Rattle.name_meaning.specs.Names.{Path}
use Rattle.link_meaning.specs.Assignments.{Assigned, Covering, Sharing, Giving}
use Rattle.link_meaning.specs.Passes.{rest_behind, by_rest, by_equal, equal_paths}
use Rattle.link_meaning.specs.Passes as passes
use Rattle.mmt_syntax.specs.Readings.{read_expr, read_span}
use Rattle.link_setting.specs.Below.Readings.{read_link}
use Rattle.link_passes.specs.declared.reached.Rest.{Rest}
use Rattle.link_passes.specs.declared.reached.Reached.{Reached}
use Rattle.link_passes.specs.declared.reached.Reached.TheVariants.{ByValue, ByStructure}

abbrev pub read_rest : Rest → Path
read_rest rest = rest.first.now ∷ rest.more.now

abbrev pub read_reached : Reached → passes.Reached
read_reached (ByValue target value) = passes.ByValue target.now (read_expr value.now)
read_reached (ByStructure target rest structure first by) = passes.ByStructure target.now (read_rest rest) (read_link structure.now) (read_span first) (read_link by.now)

-- What is found, or this.
abbrev pub or_reached : Option Reached → passes.Reached → passes.Reached
or_reached None otherwise = otherwise
or_reached (Some reached) otherwise = read_reached reached

-- Reached through this assignment, or by what is behind it.
abbrev pub reached_through : Assigned → Path → passes.Reached → passes.Reached
reached_through (Covering first by) path otherwise = otherwise
reached_through (Sharing target structure first by) path otherwise = by_rest target structure first by (rest_behind target path) otherwise
reached_through (Giving target value) path otherwise = by_equal (equal_paths target path) target value otherwise
