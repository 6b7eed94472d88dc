use Rattle.std.proofs.Common.{ap, ◌∙◌}
use Rattle.std.specs.Option.{option_map}
use Rattle.lf_meaning.specs.Signatures.{declaration_of}
use Rattle.text_meaning.specs.Trees.{first_name}
use Rattle.term_trees.specs.Readings.{read_declaration, read_signature}
use Rattle.mmt_syntax.specs.Readings.{read_expr, read_written}
use Rattle.mmt_interface.specs.Readings.{read_theory}
use Rattle.module_verdicts.proofs.Declared.{not_used}
use Rattle.module_verdicts.proofs.NamesUsed.{constant_named, unused_declared}
use Rattle.module_verdicts.proofs.Built.{named_here}
use Rattle.module_verdicts.proofs.declarations.declare_constant.Goals as goal

pub unused_test-requires : goal.unused_test-requires
unused_test-requires c = named_here c.args.faces.now c.args.here.now c.requires.here

pub add-requires : goal.add-requires
add-requires c =
    let here = c.args.here.now in
    let name = read_written c.args.name.now in
    let named = constant_named _ here.name name (read_expr c.args.class.now) (option_map read_expr c.args.value.now) (read_declaration c.in_ok-decl.decl) c.in_ok-decl.ensures in
    ap (declaration_of (read_signature here.own)) named
    ∙ unused_declared here (first_name name.path) (named_here c.args.faces.now here c.requires.here) (not_used (read_theory here) name c.in_ok-unused_test.ensures)
