use Rattle.std.proofs.Common.{◌∙◌, ap}
use Rattle.indexmap.specs.IndexSet.{insert_key}
use Rattle.name_meaning.specs.Names.{same_name}
use Rattle.library_meaning.specs.Closure.{sees}
use Rattle.names.proofs.IncludedNames.{one_more, all_taken}
use Rattle.names.proofs.included_table.all_names.Goals as goal

pub loop-name-init : goal.loop-name-init
loop-name-init c = λ other. ap (λ ks. sees ks other) c.new-set.ensures.empty

pub loop-name-preserved : goal.loop-name-preserved
loop-name-preserved c =
    λ other. ap (λ ks. sees ks other) (c.in_ok-insert.ensures.keys ∙ ap (insert_key same_name c.loop-name.set.keys) c.in_ok-copy.ensures)
    ∙ one_more c.loop-name.set.keys c.args.names.now c.loop-name.name-index c.name-item.result c.loop-name-test.true c.name-item.is c.loop-name.invariant other

pub returns : goal.returns
returns c = λ other. c.loop-name.invariant other ∙ ap (λ ns. sees ns other) (all_taken c.args.names.now c.loop-name.name-index c.loop-name-test.false c.loop-name.auto.name-index-end)
