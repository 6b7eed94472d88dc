use Rattle.std.proofs.Common.{◌≡◌, drop}
use Rattle.std.specs.Prelude.{flat_map}
use Rattle.text_meaning.specs.Dependencies as meaning
use Rattle.mmt_syntax.specs.DependenciesLeft.{own_name}
use Rattle.mmt_syntax.specs.Readings.{read_assigns}
use Rattle.module_check.specs.Mentions.{first_among}
use Rattle.module_check.proofs.mentions.in_assigns.Given as goal

abbrev pub invariant-loop-assign : goal.invariant-loop-assign
invariant-loop-assign l = first_among l.names (flat_map (meaning.assign_dependencies (own_name l.theory) (own_name l.structure) l.label) (read_assigns l.assigns)) ≡ first_among l.names (flat_map (meaning.assign_dependencies (own_name l.theory) (own_name l.structure) l.label) (read_assigns (drop l.assign-index l.assigns)))
