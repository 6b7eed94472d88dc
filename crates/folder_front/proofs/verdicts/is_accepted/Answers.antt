use Rattle.std.proofs.Common.{ap}
use Rattle.board_front.specs.Told.{unaccepted}
use Rattle.folder_front.proofs.Lines.{not_accepted}
use Rattle.folder_front.proofs.verdicts.is_accepted.Goals as goal

pub returns-in-Absent : goal.returns-in-Absent
returns-in-Absent c log name told = not_accepted log name c.args.told.now (ap unaccepted c.in-Absent.is) told
