use Rattle.std.proofs.Common.{◌∙◌, ◌||◌, sym, ap, take}
use Rattle.std.proofs.Math.Bool.{or-false, or_assoc}
use Rattle.name_meaning.specs.Names.{same_name}
use Rattle.library_meaning.specs.Closure.{sees}
use Rattle.std.proofs.lemmas.List.{take_all}
use Rattle.covering_pass.proofs.NameTables.{none_among, taken_among}
use Rattle.covering_pass.proofs.tables.add_all.Goals as goal

pub loop-name-init : goal.loop-name-init
loop-name-init c = λ other. sym (ap (λ b. sees c.args.table.now.keys other || b) (none_among other) ∙ or-false (sees c.args.table.now.keys other))

pub loop-name-preserved : goal.loop-name-preserved
loop-name-preserved c = λ other.
    let names = c.args.names.now in
    let i = c.loop-name.name-index in
    let name = c.name-item.result in
    let before = sees c.args.table.now.keys other in
    c.in_ok-add.ensures other
    ∙ ap (λ b. b || same_name other name) (c.loop-name.invariant other)
    ∙ or_assoc before (sees (take i names) other) (same_name other name)
    ∙ ap (λ b. before || b) (sym (taken_among names i name other c.loop-name-test.true c.name-item.is))

pub returns : goal.returns
returns c = λ other.
    c.loop-name.invariant other
    ∙ ap (λ names. sees c.args.table.now.keys other || sees names other) (take_all c.loop-name.name-index c.args.names.now c.loop-name-test.false)
