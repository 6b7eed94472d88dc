use Rattle.std.proofs.Common.{◌∙◌, ap}
use Rattle.indexmap.specs.IndexSet.{insert_key}
use Rattle.name_meaning.specs.Names.{same_name}
use Rattle.library_meaning.specs.Closure.{sees}
use Rattle.covering_pass.proofs.NameTables.{inserted_among}
use Rattle.covering_pass.proofs.tables.add.Goals as goal

pub returns : goal.returns
returns c = λ other.
    ap (λ ks. sees ks other) (c.in_ok-insert.ensures.keys ∙ ap (insert_key same_name c.args.table.now.keys) c.in_ok-copy.ensures)
    ∙ inserted_among c.args.table.now.keys c.args.name.now other
