use Rattle.std.proofs.Common.{cond, sym, ap, ◌∙◌}
use Rattle.verdict_board.specs.declared.stage.Stage.TheVariants.{Waiting}
use Rattle.verdict_board.proofs.Falls.{stage_falls}
use Rattle.verdict_board.proofs.stage.after_edit.Goals as goal

pub returns-then-falls : goal.returns-then-falls
returns-then-falls g c = sym (stage_falls c.args.edited.now c.args.stage.now ∙ ap (λ b. cond b Waiting c.args.stage.now) (sym c.falls.ensures ∙ c.if-falls.true))
