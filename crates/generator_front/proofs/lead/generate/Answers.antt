use Rattle.std.proofs.Common.{◌≡◌, ◌≤◌, ℕ, sym, ap, ◌∙◌, subst, arith}
use Rattle.board_meaning.specs.Events.{log_of}
use Rattle.script_reader.specs.Generating.{Generating}
use Rattle.generator_front.specs.Generated.{IsBegun, IsSettled}
use Rattle.generator_front.proofs.SettledEdits.{first_settled_by}
use Rattle.generator_front.proofs.GivenEdits.{begun_first, ends_at_err}
use Rattle.generator_front.proofs.LaterHistories.{ends_counted}
use Rattle.generator_front.proofs.lead.generate.Goals as goal

few_by : (generating : Generating) (modules : ℕ) → generating.modules ≡ modules → modules ≤ 1000 → generating.modules ≤ 1000
few_by generating modules is few = omega (arith, is, few)

pub returns-in_err-settle-clause-ends : goal.returns-in_err-settle-clause-ends
returns-in_err-settle-clause-ends g c =
    let start = ap (λ (z : Generating). z.start) c.new-generator.ensures in
    let gave = c.in_ok-put_modules.ensures.gave ∙ ap (λ (n : ℕ). record { start = n; modules = c.args.modules; given = c.args.modules }) start in
    ends_at_err c.args.start c.args.modules c.args.edits c.from_residual-in_err-settle.result c.settle.new.pass.seen c.from_residual-in_err-settle.ensures.0
    (begun_first c.args.start c.args.modules c.args.edits c.put_modules.new.generator c.put_modules.new.log c.settle.new.pass.seen gave c.in_ok-put_modules.ensures.given
    (c.settle.ensures.stays.logged ∙ sym c.in_ok-put_modules.ensures.front.logged))

pub edit_modules-requires-clause-settled : goal.edit_modules-requires-clause-settled
edit_modules-requires-clause-settled g c =
    let generating : Generating = c.put_modules.new.generator in
    let modules = ap (λ (z : Generating). z.modules) c.in_ok-put_modules.ensures.gave in
    first_settled_by generating c.put_modules.new.log c.put_modules.new.pass.seen c.settle.new.pass.seen
    (few_by generating c.args.modules modules c.requires.few) (ap (λ (z : Generating). z.given) c.in_ok-put_modules.ensures.gave ∙ sym modules)
    c.in_ok-put_modules.ensures.given c.in_ok-put_modules.ensures.front c.settle.ensures.stays c.in_ok-settle.ensures.stand

pub returns-in_err-edit_modules-clause-ends : goal.returns-in_err-edit_modules-clause-ends
returns-in_err-edit_modules-clause-ends g c =
    let start = ap (λ (z : Generating). z.start) c.new-generator.ensures in
    let gave = c.in_ok-put_modules.ensures.gave ∙ ap (λ (n : ℕ). record { start = n; modules = c.args.modules; given = c.args.modules }) start in
    ends_at_err c.args.start c.args.modules c.args.edits c.from_residual-in_err-edit_modules.result c.edit_modules.new.pass.seen c.from_residual-in_err-edit_modules.ensures.0
    (subst (λ (z : Generating). IsBegun z.start z.modules c.args.edits (log_of c.edit_modules.new.pass.seen)) gave c.in_err-edit_modules.ensures.begun)

pub returns-clause-ends : goal.returns-clause-ends
returns-clause-ends g c =
    let start = ap (λ (z : Generating). z.start) c.new-generator.ensures in
    let gave = c.in_ok-put_modules.ensures.gave ∙ ap (λ (n : ℕ). record { start = n; modules = c.args.modules; given = c.args.modules }) start in
    ends_counted c.edit_modules.new.pass.seen c.verdicts.new.pass.seen c.verdicts.ensures.stays c.args.start c.args.modules c.args.edits c.edit_modules.new.log c.verdicts.result
    c.in_ok-edit_modules.ensures.front
    (subst (λ (z : Generating). IsSettled z.start z.modules c.args.edits c.edit_modules.new.pass.seen) gave c.in_ok-edit_modules.ensures.settled) c.verdicts.ensures.counted
