use Rattle.std.proofs.Common.{ap, sym, ◌∙◌, arith}
use Rattle.lf_meaning.specs.Terms.{At, apply_all}
use Rattle.lf_meaning.specs.Signatures.{TermValue}
use Rattle.translation_meaning.specs.Translation.{object_value}
use Rattle.term_trees.specs.Readings.{read_head, read_arguments, arguments_of}
use Rattle.term_trees.specs.declared.obj.Head.TheVariants as head
use Rattle.term_trees.proofs.ReadingEquations.{read_object_at}
use Rattle.lf_translate.proofs.BareValues.{term_with_arguments, variable_term}
use Rattle.lf_translate.proofs.values.headed_value.Goals as goal

pub returns-then-len-ne0 : goal.returns-then-len-ne0
returns-then-len-ne0 c =
    ap TermValue (read_object_at c.args.head c.args.spine) ∙ term_with_arguments (read_head c.args.head) (arguments_of c.args.spine) (λ none. grind (arith, none, c.len.ensures, c.if-len-ne0.true))

pub returns-in-Var : goal.returns-in-Var
returns-in-Var c =
    let i = c.in-Var.index in
    ap TermValue (read_object_at (head.Var i) c.args.spine) ∙ variable_term i (read_arguments c.args.spine) ∙ sym (ap (λ h. object_value (At (apply_all (read_head h) (read_arguments c.args.spine)))) c.in-Var.is)
