use Rattle.std.proofs.Common.{List, subst}
use Rattle.text_meaning.specs.Cutting.{lex}
use Rattle.text_meaning.specs.Splitting.{Pieces}
use Rattle.text_meaning.specs.Dividing.{divide}
use Rattle.twelf_reader.specs.Division.{DividesSo, read_pieces}
use Rattle.twelf_reader.specs.declared.file.Piece.{Piece}
use Rattle.twelf_reader.proofs.Divided.{fault_file, no_text_divides, ok_file, only_file}
use Rattle.twelf_reader.proofs.file.split.Goals as goal

pub returns-in_err-text : goal.returns-in_err-text
returns-in_err-text c =
    let f = λ (ps : List Piece). Pieces (read_pieces ps) in
    let text = c.args.text.now in
    let goes = no_text_divides text c.from_residual.result c.in_err-text.field-0.0 f c.from_residual.ensures.1 c.in_err-text.ensures.fault in
    record { ok = ok_file text c.from_residual.result f goes; fault = fault_file text c.from_residual.result f goes; only = only_file text c.from_residual.result f goes }

pub returns : goal.returns
returns c =
    let f = λ (ps : List Piece). Pieces (read_pieces ps) in
    let text = c.args.text.now in
    let goes = subst (λ t. DividesSo (divide (lex t)) c.divided.result f) c.in_ok-text.ensures.ok c.divided.ensures in
    record { ok = ok_file text c.divided.result f goes; fault = fault_file text c.divided.result f goes; only = only_file text c.divided.result f goes }
