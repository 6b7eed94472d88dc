use Rattle.std.proofs.Common.{◌∷◌, ◌++◌, [], take, sym, ap, ◌∙◌, subst, arith}
use Rattle.std.proofs.lemmas.List.{length-map, take_more}
use Rattle.list_laws.proofs.Lists.{map_last}
use Rattle.list_laws.proofs.Places.{length_take}
use Rattle.link_setting.specs.Readings.{read_all_assigned, read_assigned}
use Rattle.link_passes.specs.Targets.{AreNumbered}
use Rattle.link_passes.proofs.reached.targets_of.Goals as goal

pub loop-number-preserved : goal.loop-number-preserved
loop-number-preserved c =
    let items = c.args.assigned.now in
    let n = c.loop-number.number in
    let item = c.index-assigned-number.result in
    let counted = length-map (take n items) read_assigned ∙ length_take items n (omega (arith, c.loop-number-test.true)) in
    let one_more = ap read_all_assigned (take_more items n item c.loop-number-test.true ∙ ap (λ x. take n items ++ x ∷ []) (sym c.index-assigned-number.is)) ∙ map_last read_assigned (take n items) item in
    subst (AreNumbered c.add.new.self) (sym one_more) (c.in_ok-add.ensures (read_all_assigned (take n items)) counted c.loop-number.invariant)
