use Rattle.std.proofs.Common.{sym, ap}
use Rattle.library_meaning.specs.Closure.{sees}
use Rattle.library_meaning.specs.Faces.{includes_of, theory_of}
use Rattle.mmt_interface.specs.Readings.{environment_of}
use Rattle.covering_pass.proofs.NameTables.{nothing_more}
use Rattle.covering_pass.proofs.cover_tables.add_includes.Goals as goal

pub returns-in-None : goal.returns-in-None
returns-in-None c = λ other.
    nothing_more (sees c.args.table.now.keys other) (includes_of (theory_of (environment_of c.args.faces.now) c.args.theory.now)) other (ap includes_of (sym c.in-None.ensures.meaning))
