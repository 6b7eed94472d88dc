use Rattle.std.proofs.Common.{Some, sym, ap, ◌∙◌}
use Rattle.std.specs.Prelude.{nat_eq}
use Rattle.std.proofs.lemmas.Bool.{eqb-true}
use Rattle.term_trees.proofs.Below.Equality.{pointwise_sound}
use Rattle.lf_terms.proofs.OneTheory.{first_is_of}
use Rattle.lf_terms.proofs.flat_sig.is_of_theory.Goals as goal

pub returns-in-Some : goal.returns-in-Some
returns-in-Some c =
    let d = c.declaration.result.now in
    λ same. first_is_of c.args.decls.now.keys d c.args.theory.now (sym c.in-Some.ensures.key ∙ ap Some (sym c.declaration.ensures))
    (pointwise_sound nat_eq eqb-true d.name.theory c.args.theory.now (sym c.eq.ensures ∙ same))
