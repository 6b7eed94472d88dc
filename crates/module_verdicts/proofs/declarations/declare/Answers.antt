use Rattle.std.proofs.Common.{◌∙◌, sym}
use Rattle.mmt_syntax.specs.Readings.{read_decl}
use Rattle.mmt_interface.specs.Readings.{environment_of, read_theory}
use Rattle.module_verdicts.proofs.Built.{stays_coherent}
use Rattle.module_verdicts.proofs.DueTables.{fits_before, fits_behind, known_behind}
use Rattle.module_verdicts.proofs.declarations.declare.Goals as goal

pub declare_by_form-requires-clause-fits : goal.declare_by_form-requires-clause-fits
declare_by_form-requires-clause-fits c = λ t some.
    fits_before c.prepare.new.self.table c.args.here.now.includes (environment_of c.args.faces.now) (read_decl c.args.decl.now) c.in_ok-prepare.ensures t (sym c.table.ensures ∙ some)

pub returns-clause-here : goal.returns-clause-here
returns-clause-here c = stays_coherent c.args.faces.now c.args.here.now c.declare_by_form.new.here (read_decl c.args.decl.now) c.declare_by_form.result c.requires.coherent c.requires.here c.declare_by_form.ensures.answer

pub returns-clause-fits : goal.returns-clause-fits
returns-clause-fits c =
    fits_behind c.prepare.new.self.table (environment_of c.args.faces.now) (read_theory c.args.here.now) (read_theory c.declare_by_form.new.here) (read_decl c.args.decl.now) c.declare_by_form.result
    c.in_ok-prepare.ensures c.declare_by_form.ensures.answer

pub returns-clause-known : goal.returns-clause-known
returns-clause-known c =
    known_behind c.args.inclusions.now c.declare_by_form.new.inclusions (environment_of c.args.faces.now) (read_theory c.args.here.now) (read_theory c.declare_by_form.new.here) (read_decl c.args.decl.now)
    c.declare_by_form.result c.requires.known c.declare_by_form.ensures.known c.declare_by_form.ensures.answer
