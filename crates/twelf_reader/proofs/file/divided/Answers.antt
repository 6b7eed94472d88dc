use Rattle.std.proofs.Common.{sym, ap, ◌∙◌}
use Rattle.text_meaning.specs.Dividing.{AtTop, divide_on}
use Rattle.twelf_reader.specs.Division.{read_pieces}
use Rattle.twelf_reader.proofs.Dividing.{fails_as}
use Rattle.twelf_reader.proofs.Divided.{divides_whole, settled_fails}
use Rattle.twelf_reader.proofs.file.divided.Goals as goal

pub returns-in-Ok : goal.returns-in-Ok
returns-in-Ok c = divides_whole c.args.text.now (read_pieces c.in-Ok.pieces) c.utf8.text (ap (divide_on AtTop) (sym c.new-reader.ensures) ∙ c.in-Ok.ensures)

pub returns : goal.returns
returns c =
    settled_fails c.args.text.now c.in-Err.fault c.settled.result c.utf8.text c.settled.ensures.unclosed c.settled.ensures.finished
    (fails_as c.in-Err.fault (ap (divide_on AtTop) (sym c.new-reader.ensures)) c.in-Err.ensures)
