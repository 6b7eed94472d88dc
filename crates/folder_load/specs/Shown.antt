-- How what is meant of files stands in the values of the code: places are lines and columns, and a file is its name.
use Rattle.std.specs.Prelude.{ℕ, List, None}
use Rattle.text_meaning.specs.Places.{line_at, column_at}
use Rattle.text_meaning.specs.Splitting.{Piece}
use Rattle.printing_meaning.specs.FolderLines as lines
use Rattle.run_meaning.specs.Files as meant
use Rattle.run_meaning.specs.Files.{File, Damaged, piece_fault}
use Rattle.mmt_syntax.specs.declared.place.Place.{Place}
use Rattle.mmt_syntax.specs.declared.origin.Origin.{Origin}
use Rattle.mmt_syntax.specs.declared.file_fault.FileFault.{FileFault}
use Rattle.mmt_syntax.specs.declared.file_fault.FileWord.{FileWord}
use Rattle.mmt_syntax.specs.declared.file_fault.FileWord.TheVariants.{TooLong, Syntax, Unsupported, DuplicateName, TooMany, Full}

abbrev pub file_of : List ℕ → List ℕ → File
file_of name bytes = record { name = name; bytes = bytes }

-- The line and the column of a place in a text.
abbrev pub place_in : List ℕ → ℕ → Place
place_in text at = record { line = line_at text at; column = column_at text at }

abbrev pub shown_word : lines.FileWord → FileWord
shown_word lines.LongFile = TooLong
shown_word lines.BadSyntax = Syntax
shown_word lines.Unsupported = Unsupported
shown_word lines.DuplicateName = DuplicateName
shown_word lines.TooManyModules = TooMany
shown_word lines.FullLog = Full

abbrev pub shown_origin : meant.Origin → Origin
shown_origin origin = record { name = origin.name; file = origin.file.name; first = place_in origin.file.bytes origin.first }

abbrev pub shown_damaged : Damaged → FileFault
shown_damaged damaged = record {
  file = damaged.file.name;
  place = place_in damaged.file.bytes damaged.fault.at;
  word = shown_word damaged.fault.word;
  about = damaged.fault.about;
}

-- The fault of a file, given its parts as they are shown.
abbrev pub shown_bare_fault : List ℕ → Place → FileWord → FileFault
shown_bare_fault file place word = record { file = file; place = place; word = word; about = None }

abbrev pub shown_piece_fault : File → Piece → FileWord → FileFault
shown_piece_fault file piece word =
    record { file = file.name; place = place_in file.bytes piece.name.span.from; word = word; about = (piece_fault piece lines.FullLog).about }
