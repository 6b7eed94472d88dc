use Rattle.std.proofs.Common.{◌≡◌, length}
use Rattle.mmt_syntax.specs.DependenciesLeft.{left_of_links}
use Rattle.mmt_syntax.proofs.dep_iter.Links.next.Given as goal

abbrev pub invariant-assigns : goal.invariant-assigns
invariant-assigns l = record {
  left : left_of_links l.initial.self ≡ left_of_links l.self;
  own : l.self.own ≡ l.initial.self.own;
}

abbrev pub decreases-assigns : goal.decreases-assigns
decreases-assigns l = length l.self.assigns.now
