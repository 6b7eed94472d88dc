use Rattle.std.proofs.Common.{sym, ◌∙◌}
use Rattle.mmt_interface.specs.Readings.{environment_of}
use Rattle.board_front.proofs.Accepts.{has_line}
use Rattle.board_front.proofs.flats.carried_line.Goals as goal

pub carry_text-requires : goal.carry_text-requires
carry_text-requires c =
    has_line (environment_of c.args.faces.now) c.args.view.now c.args.judgement.now c.carry-carried.result c.carry-carried.ensures.answer (sym c.lacks_memory.ensures ∙ c.if-lacks_memory.false)
