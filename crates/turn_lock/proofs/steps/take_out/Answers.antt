use Rattle.std.proofs.Common.{◌∙◌, ◌∷◌, sym, ap, Some}
use Rattle.atomic_table.specs.Table.{rest}
use Rattle.turn_lock.proofs.steps.take_out.Goals as goal

pub exchange-requires : goal.exchange-requires
exchange-requires g c =
    let hand = c.requires.hand in
    (c.requires.table.same, (Some hand.0, hand.1 ∙ ap (λ carried. (0, Some hand.0) ∷ rest carried) (sym hand.1)))
