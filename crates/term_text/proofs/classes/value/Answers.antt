use Rattle.std.specs.Prelude.{OnOk}
use Rattle.std.proofs.Common.{◌≡◌, ◌++◌, append_assoc, sym, ap, ◌∙◌, subst, arith}
use Rattle.printing_meaning.specs.PrintedTerms as printed
use Rattle.term_trees.specs.Readings.{read_family, read_value}
use Rattle.term_text.specs.Readings.{read_seen}
use Rattle.term_text.proofs.Binders.{bound_next, bound_all}
use Rattle.term_text.proofs.classes.value.Goals as goal

pub loop-number-preserved : goal.loop-number-preserved
loop-number-preserved c =
    bound_next (read_seen c.args.seen.now) c.in-Fam.binders c.args.out.now c.loop-number.out c.binder.new.out c.loop-number.number c.loop-number.invariant c.loop-number-test.true
    c.in_ok-binder-in-Fam.ensures

pub returns-after-loop-number : goal.returns-after-loop-number
returns-after-loop-number c =
    let seen = read_seen c.args.seen.now in
    let out = c.args.out.now in
    let binders = c.in-Fam.binders in
    let past = bound_all seen binders out c.loop-number.out c.loop-number.number c.loop-number.invariant (omega (arith, c.loop-number-test.false)) in
    let front = printed.binders_text seen 0 binders in
    let body = printed.family_text seen binders (read_family c.in-Fam.body) in
    let same = ap (λ z. z ++ body) past ∙ append_assoc out front body ∙ ap (λ v. out ++ printed.value_text seen (read_value v)) (sym c.in-Fam.is) in
    subst (λ z. OnOk c.family.result (c.family.new.out ≡ z)) same c.family.ensures
