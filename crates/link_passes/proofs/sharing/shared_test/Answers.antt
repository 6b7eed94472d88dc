use Rattle.std.proofs.Common.{subst}
use Rattle.term_trees.specs.Readings.{read_map}
use Rattle.link_setting.specs.Readings.{read_assigned}
use Rattle.link_passes.specs.SharedImages.{SharesMapped}
use Rattle.link_passes.proofs.sharing.shared_test.Goals as goal

pub included_shared-requires : goal.included_shared-requires
included_shared-requires c = subst (λ item. SharesMapped (read_map c.args.along.now) (read_assigned item)) c.in-Sharing.is c.requires
