use Rattle.std.proofs.Common.{reverse, ap, ◌∙◌, sym, arith}
use Rattle.std.specs.Prelude.{slice_get}
use Rattle.std.specs.Option.{option_copied}
use Rattle.elaborate_meaning.specs.Locals.{context_of}
use Rattle.elaborate.specs.Contexts.{variables_in}
use Rattle.elaborate.proofs.NamesStand.{given_family_at, bound_family}
use Rattle.elaborate.proofs.context.Variables.+family.Goals as goal

pub returns-in-Some : goal.returns-in-Some
returns-in-Some t c =
    let i = c.args.index in
    let vars = c.as_slice.ensures ∙ c.get.ensures.same in
    let found = sym (ap option_copied c.in-Some.is) ∙ c.innermost.ensures ∙ ap (λ vs. slice_get (reverse vs) i) vars in
    given_family_at c.args.self.now c.in-Given.given i _ c.in-Given.is found

pub returns-in-None : goal.returns-in-None
returns-in-None t c =
    let i = c.args.index in
    let vars = c.as_slice.ensures ∙ c.get.ensures.same in
    let found = sym (ap option_copied c.in-None.is) ∙ c.innermost.ensures ∙ ap (λ vs. slice_get (reverse vs) i) vars in
    given_family_at c.args.self.now c.in-Given.given i _ c.in-Given.is found

pub returns-in-Some-checked_sub : goal.returns-in-Some-checked_sub
returns-in-Some-checked_sub t c =
    let i = c.args.index in
    c.family.ensures ∙ bound_family c.in-Bound.name c.in-Bound.family c.in-Bound.outer i c.in-Some-checked_sub.index (omega (arith, c.in-Some-checked_sub.ensures)) ∙ sym (ap (λ vs. slice_get (context_of (variables_in vs)) i) c.in-Bound.is)
