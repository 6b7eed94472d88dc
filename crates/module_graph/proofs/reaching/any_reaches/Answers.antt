use Rattle.std.proofs.Common.{◌≡◌, [], subst, ◌∙◌}
use Rattle.indexmap.specs.IndexSet.{insert_all}
use Rattle.name_meaning.specs.Names.{same_name, is_among}
use Rattle.module_graph.specs.Reaching.{IsReachOf}
use Rattle.module_graph.proofs.Reached.{reached_by_any}
use Rattle.module_graph.proofs.reaching.any_reaches.Goals as goal

pub returns : goal.returns
unfolding is_among
returns c =
    let first : c.reach_all.new.reached.keys ≡ insert_all same_name [] c.args.names.now = c.in_ok-reach_all.ensures.added ∙ (λ i. insert_all same_name (c.new-reached.ensures.empty i) (c.as_slice.ensures i)) in
    c.contains.ensures
    ∙ reached_by_any c.args.graph.now c.args.names.now c.widen.new.reached.keys c.args.name.now
    (subst (λ keys. IsReachOf c.args.graph.now keys c.widen.new.reached.keys) first c.in_ok-widen.ensures.reached)
