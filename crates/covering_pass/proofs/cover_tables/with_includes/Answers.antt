use Rattle.std.proofs.Common.{◌∙◌, ◌||◌, ap}
use Rattle.name_meaning.specs.Names.{Name}
use Rattle.library_meaning.specs.Closure.{sees}
use Rattle.library_meaning.specs.Faces.{includes_of, theory_of}
use Rattle.mmt_interface.specs.Readings.{environment_of}
use Rattle.covering_pass.proofs.NameTables.{one_among}
use Rattle.covering_pass.proofs.cover_tables.with_includes.Goals as goal

pub returns : goal.returns
returns c = λ other.
    let theory : Name = c.args.theory.now in
    let first = c.in_ok-add.ensures other ∙ one_among c.new-table.result.keys theory other c.new-table.ensures.empty in
    c.in_ok-add_includes.ensures other ∙ ap (λ b. b || sees (includes_of (theory_of (environment_of c.args.faces.now) theory)) other) first
