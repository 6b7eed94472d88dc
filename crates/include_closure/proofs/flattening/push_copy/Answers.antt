use Rattle.std.proofs.Common.{◌≡◌, None, sym, subst}
use Rattle.lf_meaning.specs.Signatures.{Declaration, declaration_of}
use Rattle.term_trees.specs.Readings.{read_signature}
use Rattle.include_closure.proofs.NewNames.{new_declared}
use Rattle.include_closure.proofs.flattening.push_copy.Goals as goal

pub push_new-requires : goal.push_new-requires
push_new-requires c =
    new_declared c.args.signature.now c.in_ok-copy.field-0
    (subst (λ (d : Declaration). declaration_of (read_signature c.args.signature.now) d.name ≡ None) (sym c.in_ok-copy.ensures) c.requires)
