use Rattle.twelf_lexer.proofs.Marks.{stray_is, several_is, reserved_is, name_is}
use Rattle.twelf_lexer.proofs.row.row_sign.Goals as goal

pub returns-then-row-2 : goal.returns-then-row-2
returns-then-row-2 c = stray_is c.args.text.now c.args.at c.row_end-row.result c.row_end-row.ensures c.if-row.true c.if-row-2.true

pub returns-then-row : goal.returns-then-row
returns-then-row c = several_is c.args.text.now c.args.at c.row_end-row.result c.requires.boundary c.row_end-row.ensures c.if-row.true c.if-row-2.false

pub returns-in-Some : goal.returns-in-Some
returns-in-Some c = reserved_is c.args.text.now c.args.at c.row_end-row.result c.in-Some.sign c.row_end-row.ensures c.if-row.false c.in-Some.ensures

pub returns-in-None : goal.returns-in-None
returns-in-None c = name_is c.args.text.now c.args.at c.row_end-row.result c.requires.boundary c.row_end-row.ensures c.if-row.false c.in-None.ensures
