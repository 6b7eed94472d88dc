use Rattle.std.proofs.Common.{◌≡◌, suc, ◌+◌, ◌<◌, ◌≤◌, length, get_or, ap, subst, ◌∙◌, arith}
use Rattle.std.proofs.lemmas.List.{length-map}
use Rattle.std.proofs.lemmas.Result.{err_from_is_err_and}
use Rattle.twelf_reader.specs.Division.{read_piece, read_pieces}
use Rattle.folder_load.specs.Shown.{file_of}
use Rattle.folder_load.specs.Ahead.{put_of}
use Rattle.folder_load.proofs.Mapped.{item_there}
use Rattle.folder_load.proofs.NextModules.{none_ahead, none_follow, more_ahead}
use Rattle.folder_load.proofs.PiecesInTurn.{Reached, starts, stopped, goes_on, ends}
use Rattle.folder_load.proofs.PlacesOfPieces.{piece_stands}
use Rattle.folder_load.proofs.file.modules_of.Goals as goal

pub add-requires-clause-stands : goal.add-requires-clause-stands
add-requires-clause-stands c =
    let pieces = c.args.pieces.now in
    let i = c.loop-piece.piece-index in
    let item = c.piece-item.result in
    let below : i < length pieces = omega (arith, c.loop-piece-test.true, ap length c.as_slice-piece-items.ensures) in
    let is : item ≡ get_or pieces i item = c.piece-item.is ∙ ap (λ l. get_or l i item) c.as_slice-piece-items.ensures in
    piece_stands (length c.args.bytes.now) (read_pieces pieces) i (read_piece item) c.requires.stand (item_there read_piece pieces i item below is)

pub loop-piece-init : goal.loop-piece-init
loop-piece-init c =
    let modules = c.args.modules.now in
    let new = c.new-following.result in
    let none = c.new-following.ensures.edits in
    starts modules (file_of c.args.file.now c.args.bytes.now) (read_pieces c.args.pieces.now) new
    (none_follow modules new c.requires.tallied none c.new-following.ensures.names c.new-following.ensures.size) c.new-following.ensures.origins (none_ahead modules new none)

pub returns-in_err-add-clause-outcome : goal.returns-in_err-add-clause-outcome
returns-in_err-add-clause-outcome c =
    let pieces = c.args.pieces.now in
    let i = c.loop-piece.piece-index in
    let item = c.piece-item.result in
    let below : i < length pieces = omega (arith, c.loop-piece-test.true, ap length c.as_slice-piece-items.ensures) in
    let is : item ≡ get_or pieces i item = c.piece-item.is ∙ ap (λ l. get_or l i item) c.as_slice-piece-items.ensures in
    let p = err_from_is_err_and c.from_residual.result c.from_residual.ensures.1 in
    rw (p.1, p.2)
    (stopped c.args.modules.now (file_of c.args.file.now c.args.bytes.now) (read_pieces pieces) i c.loop-piece.following (read_piece item) c.in_err-add.field-0.0 c.loop-piece.invariant
    (item_there read_piece pieces i item below is) c.in_err-add.ensures.damage)

pub loop-piece-preserved : goal.loop-piece-preserved
loop-piece-preserved c =
    let modules = c.args.modules.now in
    let file = file_of c.args.file.now c.args.bytes.now in
    let pieces = c.args.pieces.now in
    let i = c.loop-piece.piece-index in
    let item = c.piece-item.result in
    let below : i < length pieces = omega (arith, c.loop-piece-test.true, ap length c.as_slice-piece-items.ensures) in
    let is : item ≡ get_or pieces i item = c.piece-item.is ∙ ap (λ l. get_or l i item) c.as_slice-piece-items.ensures in
    let e = c.in_ok-add.ensures in
    let plus : suc i ≡ i + 1 = omega arith in
    subst (λ j. Reached modules file (read_pieces pieces) j c.add.new.self) plus
    (goes_on modules file (read_pieces pieces) i c.loop-piece.following c.add.new.self (read_piece item) c.loop-piece.invariant (item_there read_piece pieces i item below is) e.passes e.follows
    (more_ahead modules c.loop-piece.following c.add.new.self (put_of file (read_piece item)) e.edits) e.origins)

pub returns-clause-outcome : goal.returns-clause-outcome
returns-clause-outcome c =
    let pieces = c.args.pieces.now in
    let i = c.loop-piece.piece-index in
    let past : length (read_pieces pieces) ≤ i = omega (arith, c.loop-piece-test.false, ap length c.as_slice-piece-items.ensures, length-map pieces read_piece) in
    ends c.args.modules.now (file_of c.args.file.now c.args.bytes.now) (read_pieces pieces) i c.loop-piece.following c.loop-piece.invariant past
