use Rattle.std.proofs.Common.{◌≡◌, sym, subst}
use Rattle.std.specs.Result.{IfOk}
use Rattle.translation_meaning.specs.Heads.{family_takes}
use Rattle.term_trees.specs.Readings.{read_family, read_object}
use Rattle.lf_translate.proofs.families.with_argument.Goals as goal

pub returns-in-At : goal.returns-in-At
returns-in-At c =
    subst (λ whole. IfOk c.constant_with.result (λ a. read_family a ≡ family_takes (read_family whole) (read_object c.args.argument))) (sym c.in-At.is) c.constant_with.ensures
