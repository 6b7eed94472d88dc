use Rattle.std.proofs.Common.{◌≡◌, [], ◌∷◌, subst, ◌∙◌, rules}
use Rattle.indexmap.specs.IndexSet.{insert_key}
use Rattle.name_meaning.specs.Names.{same_name, is_among}
use Rattle.name_laws.proofs.Sorted.{sorted_ascending}
use Rattle.module_graph.specs.Reaching.{IsReachOf}
use Rattle.module_graph.proofs.Reached.{reach_of_one}
use Rattle.module_graph.proofs.reaching.reach.Goals as goal

pub returns : goal.returns
unfolding is_among
returns c =
    let first : c.insert.new.self.keys ≡ c.args.name.now ∷ [] = c.in_ok-insert.ensures.keys ∙ (λ i. insert_key same_name (c.new-reached.ensures.empty i) (c.in_ok-copy.ensures i)) in
    let collected : c.in_ok-names.names.items ≡ c.sort_unstable.new.self.keys = search rules in
    c.from_vec.ensures ∙ collected
    ∙ reach_of_one c.args.graph.now c.args.name.now c.widen.new.reached.keys _ (subst (λ keys. IsReachOf c.args.graph.now keys c.widen.new.reached.keys) first c.in_ok-widen.ensures.reached)
    (λ x. c.in_ok-sort_unstable.ensures.reordered.2 x) (sorted_ascending _ c.in_ok-sort_unstable.ensures.sorted c.in_ok-sort_unstable.ensures.unique)
