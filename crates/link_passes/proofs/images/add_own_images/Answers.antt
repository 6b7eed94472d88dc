use Rattle.std.proofs.Common.{sym, ap, subst}
use Rattle.lf_meaning.specs.Signatures.{Signature}
use Rattle.library_meaning.specs.Faces.{own_of}
use Rattle.mapping_laws.specs.NextImages.{StandsBefore}
use Rattle.term_trees.specs.Readings.{read_map, read_signature}
use Rattle.mmt_interface.specs.Readings.{read_theory}
use Rattle.link_setting.specs.Readings.{read_setting}
use Rattle.link_passes.proofs.Imaging.{own_are_own}
use Rattle.link_passes.proofs.images.add_own_images.Goals as goal

pub add_images-added-requires-clause-own : goal.add_images-added-requires-clause-own
add_images-added-requires-clause-own c = own_are_own (read_setting c.args.setting.now) c.requires.settled (read_theory c.in-Some.face.now) c.in-Some.ensures.meaning

pub add_images-added-requires-clause-before : goal.add_images-added-requires-clause-before
add_images-added-requires-clause-before c =
    subst (λ along. StandsBefore (read_map along) (read_signature c.in-Some.face.now.own)) (sym c.in_ok-reserve-in-Some.ensures)
    (subst (λ (z : Signature). StandsBefore (read_map c.args.along.now) z) (ap own_of (sym c.in-Some.ensures.meaning)) c.requires.before)
