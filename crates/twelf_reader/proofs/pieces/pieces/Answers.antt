use Rattle.std.proofs.Common.{◌≡◌, ◌++◌, [], ◌∷◌, sym, ap, append-nil, ◌∙◌}
use Rattle.std.proofs.lemmas.List.{map-append}
use Rattle.text_meaning.specs.Splitting.{Pieces}
use Rattle.text_meaning.specs.Dividing.{AtTop, divide_on}
use Rattle.twelf_expressions.specs.Left.{left}
use Rattle.twelf_reader.specs.Division.{next_piece, pieces_before, read_piece, read_pieces}
use Rattle.twelf_reader.proofs.Dividing.{fails_behind, none_before, one_more, stopped}
use Rattle.twelf_reader.proofs.pieces.pieces.Goals as goal

pub loop-pieces-init : goal.loop-pieces-init
loop-pieces-init c = record {
  goes = sym (ap (λ ps. pieces_before (read_pieces ps) (divide_on AtTop (left c.args.reader.now))) c.new-pieces.ensures ∙ none_before (divide_on AtTop (left c.args.reader.now)));
}

pub loop-pieces-preserved : goal.loop-pieces-preserved
loop-pieces-preserved c =
    let ps = c.loop-pieces.pieces in
    let p = c.in-Some.piece in
    let rest = divide_on AtTop (left c.piece.new.reader) in
    let more : read_pieces c.add.new.self ≡ read_pieces ps ++ (read_piece p ∷ []) = ap read_pieces c.in_ok-add.ensures.ok ∙ map-append read_piece ps (p ∷ []) in
    record {
      goes =
          c.loop-pieces.invariant.goes ∙ ap (pieces_before (read_pieces ps)) (c.in_ok-piece.ensures.goes ∙ ap (λ x. next_piece x (left c.piece.new.reader)) c.in-Some.is)
          ∙ one_more (read_pieces ps) (read_piece p) rest ∙ ap (λ l. pieces_before l rest) (sym more);
    }

pub returns : goal.returns
returns c =
    let ps = c.loop-pieces.pieces in
    c.loop-pieces.invariant.goes ∙ ap (pieces_before (read_pieces ps)) (c.in_ok-piece.ensures.goes ∙ ap (λ x. next_piece x (left c.piece.new.reader)) c.in_default.is) ∙ ap Pieces (append-nil (read_pieces ps))

pub returns-in_err-piece : goal.returns-in_err-piece
returns-in_err-piece c =
    let ps = read_pieces c.loop-pieces.pieces in
    stopped c.from_residual.result _ _ c.from_residual.ensures.1 c.loop-pieces.invariant.goes (fails_behind ps c.in_err-piece.field-0.0 (divide_on AtTop (left c.loop-pieces.reader)) c.in_err-piece.ensures.goes)
