use Rattle.std.specs.Prelude.{◌||◌, IfOk}
use Rattle.std.proofs.Common.{◌≡◌, suc, sym, ap, ap₂, ◌∙◌, subst}
use Rattle.printing_meaning.specs.PrintedTerms.{family_uses, kind_uses}
use Rattle.term_trees.specs.Readings.{read_family, read_kind}
use Rattle.term_text.proofs.Standing.{type_uses, kind_pi_uses}
use Rattle.term_text.proofs.uses.+kind_uses.Goals as goal

pub returns-in-Ty : goal.returns-in-Ty
returns-in-Ty t c = sym (type_uses c.args.variable c.args.kind.now c.in-Ty.is)

pub returns-then-branch : goal.returns-then-branch
returns-then-branch t c =
    let pi = c.in-Pi in
    let first = sym (c.in_ok-family_uses-in-Pi.ensures ∙ ap (λ a. family_uses c.args.variable (read_family a)) c.deref.ensures) ∙ c.if-branch.true in
    sym (kind_pi_uses c.args.variable c.args.kind.now pi.domain pi.body pi.is ∙ ap (λ b. b || kind_uses (suc c.args.variable) (read_kind pi.body.value)) first)

pub returns-in_ok-under-in-Pi : goal.returns-in_ok-under-in-Pi
returns-in_ok-under-in-Pi t c =
    let pi = c.in-Pi in
    let first = sym (c.in_ok-family_uses-in-Pi.ensures ∙ ap (λ a. family_uses c.args.variable (read_family a)) c.deref.ensures) ∙ c.if-branch.false in
    let body = ap₂ (λ n a. kind_uses n (read_kind a)) c.in_ok-under-in-Pi.ensures c.deref-in-Pi.ensures in
    let same = body ∙ sym (kind_pi_uses c.args.variable c.args.kind.now pi.domain pi.body pi.is ∙ ap (λ b. b || kind_uses (suc c.args.variable) (read_kind pi.body.value)) first) in
    subst (λ z. IfOk c.kind_uses.result (λ uses. uses ≡ z)) same c.kind_uses.ensures
