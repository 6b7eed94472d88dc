use Rattle.std.proofs.Common.{refl}
use Rattle.term_trees.specs.declared.fam.Fam.TheVariants as families
use Rattle.lf_translate.proofs.TranslatedFamilies.{taken_at}
use Rattle.lf_translate.proofs.families.constant_with.Goals as goal

pub returns : goal.returns
returns c = taken_at (families.At c.args.head c.args.spine) c.args.head c.args.spine c.add.new.self c.args.argument refl c.in_ok-add.ensures.ok
