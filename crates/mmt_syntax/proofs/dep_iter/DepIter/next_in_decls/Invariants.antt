use Rattle.std.proofs.Common.{◌≡◌, None, length}
use Rattle.mmt_syntax.specs.DependenciesLeft.{left}
use Rattle.mmt_syntax.proofs.dep_iter.DepIter.next_in_decls.Given as goal

abbrev pub invariant-decls : goal.invariant-decls
invariant-decls l = record {
  first : l.self.first ≡ None;
  second : l.self.second ≡ None;
  left : left l.initial.self ≡ left l.self;
}

abbrev pub decreases-decls : goal.decreases-decls
decreases-decls l = length l.self.decls.now
