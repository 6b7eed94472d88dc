use Rattle.twelf_reader.specs.Division.{read_pieces}
use Rattle.folder_load.specs.Shown.{file_of}
use Rattle.folder_load.proofs.PiecesInTurn.{Reached}
use Rattle.folder_load.proofs.file.modules_of.Given as goal

-- The pieces so far have passed.
abbrev pub invariant-loop-piece : goal.invariant-loop-piece
invariant-loop-piece l = Reached l.modules (file_of l.file l.bytes) (read_pieces l.pieces) l.piece-index l.following
