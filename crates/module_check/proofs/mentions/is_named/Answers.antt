use Rattle.std.proofs.Common.{◌∙◌, ap}
use Rattle.name_meaning.specs.Names.{is_among}
use Rattle.module_check.proofs.mentions.is_named.Goals as goal

pub returns : goal.returns
returns c = c.contains.ensures ∙ ap (is_among c.args.names.now) c.first_name.ensures
