use Rattle.std.proofs.Common.{◌∙◌, sym, ap, cond, take, ◌-◌, length, Some, arith}
use Rattle.library_meaning.specs.Resolution.{variable_from}
use Rattle.names.specs.Readings.{read_variables}
use Rattle.names.proofs.Variables.{next_variable, all_left, none_left}
use Rattle.names.proofs.bound.innermost.Goals as goal

pub loop-left-init : goal.loop-left-init
loop-left-init c = all_left c.as_slice-variables.result.now c.args.name.now

pub returns-then-binds : goal.returns-then-binds
returns-then-binds c =
    let vars = c.as_slice-variables.result.now in
    let name = c.args.name.now in
    let left = c.loop-left.left in
    let next = next_variable vars name left c.index-variables-left.result c.loop-left-test.true c.loop-left.invariant c.index-variables-left.is in
    rw (← c.as_slice-variables.ensures) (sym (next ∙ ap (λ b. cond b (Some (length vars - 1 - (left - 1))) (variable_from (length vars - (left - 1)) (read_variables (take (left - 1) vars)) name)) (sym c.binds.ensures ∙ c.if-binds.true)))

pub loop-left-preserved : goal.loop-left-preserved
loop-left-preserved c =
    let vars = c.as_slice-variables.result.now in
    let name = c.args.name.now in
    let left = c.loop-left.left in
    let next = next_variable vars name left c.index-variables-left.result c.loop-left-test.true c.loop-left.invariant c.index-variables-left.is in
    let within = c.loop-left.invariant.0 in
    (omega (arith, within), next ∙ ap (λ b. cond b (Some (length vars - 1 - (left - 1))) (variable_from (length vars - (left - 1)) (read_variables (take (left - 1) vars)) name)) (sym c.binds.ensures ∙ c.if-binds.false))

pub returns : goal.returns
returns c =
    rw (← c.as_slice-variables.ensures) (sym (none_left c.as_slice-variables.result.now c.args.name.now c.loop-left.left (omega arith) c.loop-left.invariant))
