use Rattle.std.proofs.Common.{◌≡◌, ◌∙◌, ap, refl, subst, sym}
use Rattle.std.specs.Option.{IsSome}
use Rattle.turn_lock.proofs.Ending.{ended}
use Rattle.turn_lock.proofs.turns.Turns.end.Goals as goal

pub unwrap-requires : goal.unwrap-requires
unwrap-requires g c =
    let pass = c.pass.inside in
    let first = c.requires.first in
    let last = c.close_with-closed.ensures.values.2 in
    let there = ended g.T.Story.entries g.T.Story.number pass.number pass.made pass.count pass.place c.args.pass c.pass.invariant c.pass.view_is first.0.idle first.1 c.requires.joined _ _ last c.take-value.result c.take-value.ensures.value in
    subst IsSome (sym there.full) refl

pub returns : goal.returns
returns g c =
    let pass = c.pass.inside in
    let first = c.requires.first in
    let last = c.close_with-closed.ensures.values.2 in
    let there = ended g.T.Story.entries g.T.Story.number pass.number pass.made pass.count pass.place c.args.pass c.pass.invariant c.pass.view_is first.0.idle first.1 c.requires.joined _ _ last c.take-value.result c.take-value.ensures.value in
    let same : c.unwrap.result ≡ there.value = cc (c.unwrap.ensures, there.full) in
    record { seen = ap g.T.Story.entries same ∙ there.entries }
