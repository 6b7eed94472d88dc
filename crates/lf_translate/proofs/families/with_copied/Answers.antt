use Rattle.std.proofs.Common.{◌≡◌, subst}
use Rattle.std.specs.Result.{IfOk}
use Rattle.translation_meaning.specs.Heads.{family_takes}
use Rattle.term_trees.specs.Readings.{read_family}
use Rattle.lf_translate.proofs.families.with_copied.Goals as goal

pub returns : goal.returns
returns c =
    subst (λ m. IfOk c.with_argument.result (λ a. read_family a ≡ family_takes (read_family c.args.family) m)) c.in-Ok.ensures c.with_argument.ensures
