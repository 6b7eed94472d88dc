use Rattle.std.proofs.Common.{ap, ◌∙◌, sym, arith, reverse}
use Rattle.std.specs.Prelude.{slice_get}
use Rattle.std.specs.Option.{option_map}
use Rattle.term_trees.specs.Readings.{read_family}
use Rattle.lf_check.specs.Environments.{read_variables}
use Rattle.lf_terms.proofs.Lookup.{copied_read}
use Rattle.lf_check.proofs.Environments.{read_given, family_given, family_bound}
use Rattle.lf_check.proofs.environment.Variables.+family.Goals as goal

pub returns-in-Given : goal.returns-in-Given
returns-in-Given t c =
    let i = c.args.index in
    copied_read read_family c.innermost.result ∙ ap (option_map read_family) (c.innermost.ensures ∙ ap (λ fs. slice_get (reverse fs) i) c.as_slice.ensures) ∙ family_given c.in-Given.ctx.now i ∙ sym (ap (λ vs. slice_get (read_variables vs) i) c.in-Given.is ∙ ap (λ xs. slice_get xs i) (read_given c.in-Given.ctx))

pub returns-in-Some : goal.returns-in-Some
returns-in-Some t c =
    c.family.ensures ∙ family_bound c.in-Bound.family c.in-Bound.outer c.args.index c.in-Some.index (omega (arith, c.in-Some.ensures)) ∙ sym (ap (λ vs. slice_get (read_variables vs) c.args.index) c.in-Bound.is)
