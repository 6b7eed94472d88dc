use Rattle.std.proofs.Common.{sym, ap, ◌∙◌, true≢false, is_some}
use Rattle.verdict_board.proofs.Parking.{not_found}
use Rattle.verdict_board.proofs.candidates.place_of.Goals as goal

pub unreachable-requires : goal.unreachable-requires
unreachable-requires g c = true≢false (sym c.requires ∙ ap is_some (not_found c.args.stages.now c.in-Err.field-0 c.args.name.now c.in-Err.ensures.absent))
