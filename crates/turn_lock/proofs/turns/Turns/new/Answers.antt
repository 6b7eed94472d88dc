use Rattle.std.proofs.Common.{◌≡◌, ◌∷◌, ◌++◌, ◌∙◌, [], List, ap, subst, sym, Option, Some}
use Rattle.turn_lock.specs.Views.{first_view}
use Rattle.turn_lock.proofs.Opening.{opens}
use Rattle.atomic_table.specs.Table.{opening}
use Rattle.turn_lock.specs.Rule.{IsKept}
use Rattle.turn_lock.proofs.turns.Turns.new.Goals as goal

pub new-requires : goal.new-requires
new-requires g c =
    let slots : c.push.new.self.items ≡ Some c.args.value ∷ [] = c.in_default.ensures.items ∙ ap (λ (xs : List (Option g.row.T.Denot)). xs ++ Some c.args.value ∷ []) c.new-slots.ensures.items in
    let about : c.of-about.result.value ≡ c.args.value = c.of-about.ensures in
    subst (λ (z : List (Option g.row.T.Denot) × g.row.T.Denot). IsKept g.T.Story.entries g.T.Story.number (opening (0 ∷ 0 ∷ c.count-count.result ∷ []) z.0 (first_view (g.T.Story.entries z.1))))
    (λ i. (sym slots i, sym about i)) (opens g.T.Story.entries g.T.Story.number c.args.value c.count-count.result c.requires.zeros c.count-count.ensures)
