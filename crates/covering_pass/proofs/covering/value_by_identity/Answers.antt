use Rattle.std.proofs.Common.{◌∙◌, [], Some, sym, ap}
use Rattle.std.specs.Option.{option_map}
use Rattle.term_trees.specs.Readings.{read_constant, read_signature}
use Rattle.covering_pass.proofs.Identities.{by_identity, identity_gives}
use Rattle.covering_pass.proofs.covering.value_by_identity.Goals as goal

pub returns-in_default : goal.returns-in_default
returns-in_default c = rw c.in_default.is (sym (identity_gives [] (read_constant c.args.constant.now)))

pub returns-in_ok-identity_value-in-Some-get : goal.returns-in_ok-identity_value-in-Some-get
returns-in_ok-identity_value-in-Some-get c =
    let own = read_signature c.in-Some.own.now in
    rw c.in-Some.is (ap Some (c.in_ok-identity_value-in-Some-get.ensures) ∙ ap (option_map by_identity) c.in-Some-get.ensures.meaning ∙ sym (identity_gives own (read_constant c.args.constant.now)))

pub returns-in-None : goal.returns-in-None
returns-in-None c =
    let own = read_signature c.in-Some.own.now in
    rw c.in-Some.is (ap (option_map by_identity) c.in-None.ensures.meaning ∙ sym (identity_gives own (read_constant c.args.constant.now)))
