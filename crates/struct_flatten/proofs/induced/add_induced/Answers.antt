use Rattle.std.proofs.Common.{◌++◌, sym, ap, subst}
use Rattle.lf_meaning.specs.Signatures.{Signature}
use Rattle.library_meaning.specs.Faces.{own_of}
use Rattle.link_laws.proofs.Onces.{Once}
use Rattle.term_trees.specs.Readings.{read_map, read_signature}
use Rattle.struct_flatten.specs.Steps.{induced_into}
use Rattle.struct_flatten.proofs.induced.add_induced.Goals as goal

pub add_all-requires : goal.add_all-requires
add_all-requires c =
    subst (λ own. Once (read_signature own ++ induced_into c.args.here.now c.args.face.now.name (read_map c.args.face.now.map) (read_signature c.in-Some.domain.now.own))) (sym c.in_ok-reserve-in-Some.ensures)
    (subst (λ (z : Signature). Once (read_signature c.args.own.now ++ induced_into c.args.here.now c.args.face.now.name (read_map c.args.face.now.map) z)) (ap own_of (sym c.in-Some.ensures.meaning)) c.requires)
