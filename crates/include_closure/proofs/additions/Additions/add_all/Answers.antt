use Rattle.std.proofs.Common.{sym, subst, take}
use Rattle.library_meaning.specs.Closure.{with_all}
use Rattle.include_closure.specs.Additions.{Extends}
use Rattle.include_closure.proofs.Adding.{all_more, whole_taken}
use Rattle.include_closure.proofs.additions.Additions.add_all.Goals as goal

pub loop-name-init : goal.loop-name-init
unfolding with_all
loop-name-init c = λ front whole e. e

pub loop-name-preserved : goal.loop-name-preserved
loop-name-preserved c = λ front whole e.
    subst (λ names. Extends c.add.new.self front names) (sym (all_more whole c.args.names.now c.loop-name.name-index c.name-item.result c.loop-name-test.true c.name-item.is))
    (c.in_ok-add.ensures front (with_all whole (take c.loop-name.name-index c.args.names.now)) (c.loop-name.invariant front whole e))

pub returns : goal.returns
returns c = λ front whole e.
    subst (λ names. Extends c.loop-name.self front (with_all whole names)) (whole_taken c.args.names.now c.loop-name.name-index c.loop-name-test.false c.loop-name.auto.name-index-end) (c.loop-name.invariant front whole e)
