use Rattle.std.proofs.Common.{ap, ◌∙◌, arith}
use Rattle.lf_meaning.specs.Terms.{FamilyCon}
use Rattle.lf_meaning.specs.Signatures.{FamilyValue}
use Rattle.term_trees.specs.Readings.{read_constant, arguments_of}
use Rattle.term_trees.proofs.ReadingEquations.{read_family_at}
use Rattle.lf_translate.proofs.BareValues.{family_with_arguments}
use Rattle.lf_translate.proofs.values.atomic_value.Goals as goal

pub returns-then-len-ne0 : goal.returns-then-len-ne0
returns-then-len-ne0 c =
    ap (FamilyValue 0) (read_family_at c.args.head c.args.spine) ∙ family_with_arguments (FamilyCon (read_constant c.args.head)) (arguments_of c.args.spine) (λ none. grind (arith, none, c.len.ensures, c.if-len-ne0.true))
