use Rattle.std.specs.Prelude.{◌||◌, IfOk}
use Rattle.std.proofs.Common.{◌≡◌, suc, sym, ap, ap₂, ◌∙◌, subst}
use Rattle.printing_meaning.specs.PrintedTerms.{family_uses}
use Rattle.term_trees.specs.Readings.{read_family}
use Rattle.term_text.proofs.Standing.{pi_uses, atom_uses}
use Rattle.term_text.proofs.uses.+family_uses.Goals as goal

pub returns-then-branch : goal.returns-then-branch
returns-then-branch t c =
    let pi = c.in-Pi in
    let first = sym (c.in_ok-family_uses-in-Pi.ensures ∙ ap (λ a. family_uses c.args.variable (read_family a)) c.deref.ensures) ∙ c.if-branch.true in
    sym (pi_uses c.args.variable c.args.family.now pi.domain pi.body pi.is ∙ ap (λ b. b || family_uses (suc c.args.variable) (read_family pi.body.value)) first)

pub returns-in_ok-under-in-Pi : goal.returns-in_ok-under-in-Pi
returns-in_ok-under-in-Pi t c =
    let pi = c.in-Pi in
    let first = sym (c.in_ok-family_uses-in-Pi.ensures ∙ ap (λ a. family_uses c.args.variable (read_family a)) c.deref.ensures) ∙ c.if-branch.false in
    let body = ap₂ (λ n a. family_uses n (read_family a)) c.in_ok-under-in-Pi.ensures c.deref-in-Pi.ensures in
    let same = body ∙ sym (pi_uses c.args.variable c.args.family.now pi.domain pi.body pi.is ∙ ap (λ b. b || family_uses (suc c.args.variable) (read_family pi.body.value)) first) in
    subst (λ z. IfOk c.family_uses-in-Pi.result (λ uses. uses ≡ z)) same c.family_uses-in-Pi.ensures

pub returns-in-At : goal.returns-in-At
returns-in-At t c = subst (λ z. IfOk c.spine_uses.result (λ uses. uses ≡ z)) (sym (atom_uses c.args.variable c.args.family.now c.in-At.head c.in-At.spine c.in-At.is)) c.spine_uses.ensures
