use Rattle.std.proofs.Common.{◌≡◌, drop}
use Rattle.std.specs.Prelude.{flat_map}
use Rattle.text_meaning.specs.Dependencies as meaning
use Rattle.mmt_syntax.specs.Readings.{read_decls}
use Rattle.module_check.specs.Mentions.{first_among}
use Rattle.module_check.proofs.mentions.in_decls.Given as goal

abbrev pub invariant-loop-decl : goal.invariant-loop-decl
invariant-loop-decl l = first_among l.names (flat_map (meaning.decl_dependencies l.theory) (read_decls l.decls)) ≡ first_among l.names (flat_map (meaning.decl_dependencies l.theory) (read_decls (drop l.decl-index l.decls)))
