use Rattle.std.proofs.Common.{◌∙◌}
use Rattle.name_meaning.specs.Rows.{row_of}
use Rattle.list_laws.proofs.Options.{none_of}
use Rattle.name_laws.proofs.Rows.{row_among}
use Rattle.module_check.proofs.answered.add.Goals as goal

pub push_new-requires : goal.push_new-requires
push_new-requires c = none_of (row_of c.args.faces.now c.args.name) (row_among c.args.faces.now c.args.name ∙ c.requires)
