-- The files of a folder, and how they are loaded (this profile).
use Rattle.name_meaning.specs.Limits.{file_limit}
use Rattle.text_meaning.specs.Trees.{first_name}
use Rattle.std.specs.Prelude.{ℕ, Bool, List, [], ◌∷◌, ◌++◌, ◌-◌, length, take, drop, nat_eq, nat_lt, filter, fold, Option, Some, None, if◌then◌else◌, codes}
use Rattle.std.specs.List.{ends_with}
use Rattle.name_meaning.specs.Names.{Name, Text, same_name, comes_before}
use Rattle.edit_log_meaning.specs.Log.{Put, Log, library_of, is_present}
use Rattle.edit_log_meaning.specs.Append.{Edited, Made, Same, Absent, Full, TooLong, TooMany, append_answer, appended}
use Rattle.text_meaning.specs.Cutting.{lex}
use Rattle.text_meaning.specs.Splitting.{Piece, Division, Pieces, SyntaxFault, UnsupportedFault}
use Rattle.text_meaning.specs.Dividing.{divide}
use Rattle.printing_meaning.specs.FolderLines.{FileWord, LongFile, BadSyntax, Unsupported, DuplicateName, TooManyModules, FullLog, FileFault}

-- A file's name in its folder, and its bytes.
pub record File : Type 0 where
  pub name : List ℕ
  pub bytes : List ℕ

-- Files in byte order of their names, with one more where none of them has its name.
unfoldable pub with_file : List File → File → List File
with_file [] file = file ∷ []
with_file (other ∷ files) file =
    if same_name file.name other.name then other ∷ files
    else (if comes_before file.name other.name then file ∷ other ∷ files else other ∷ with_file files file)

-- These files, given in any order, in byte order of their names. Of two with one name the first counts.
abbrev pub in_order : List File → List File
in_order files = fold with_file [] files

-- The name ends in `.elf`.
abbrev pub is_module_file : File → Bool
is_module_file file = ends_with nat_eq file.name (codes ".elf")

-- The files of a folder that are loaded, in order.
unfoldable pub module_files : List File → List File
module_files files = filter is_module_file (in_order files)

-- Where a loaded module came from: its file, and the place of its first byte there.
pub record Origin : Type 0 where
  pub name : Name
  pub file : File
  pub first : ℕ

-- A file that was not loaded, and why.
pub record Damaged : Type 0 where
  pub file : File
  pub fault : FileFault

-- The edits made, the origins of the modules in the same order, and the damaged files in order.
pub record Loading : Type 0 where
  pub log : Log
  pub origins : List Origin
  pub damaged : List Damaged

abbrev pub name_of : Piece → Name
name_of piece = first_name piece.name.path

abbrev pub text_in : File → Piece → Text
text_in file piece = take (piece.span.to - piece.span.from) (drop piece.span.from file.bytes)

-- Why a piece is refused whose edit was answered so. Its name is new, so that `Same` and `Absent` do not come.
abbrev pub refused_by : Edited → Option FileWord
refused_by (Made version) = None
refused_by (Same version) = Some DuplicateName
refused_by (Absent version) = Some DuplicateName
refused_by Full = Some FullLog
refused_by TooLong = Some LongFile
refused_by TooMany = Some TooManyModules

-- Why a piece is refused: its name was loaded or stands earlier in the file; or it is too long; or a limit of the log
-- is passed.
abbrev pub piece_word : Log → File → Piece → Option FileWord
piece_word log file piece =
    if is_present (library_of log) (name_of piece) then Some DuplicateName
    else refused_by (append_answer log (Put (name_of piece) (text_in file piece)))

abbrev pub piece_fault : Piece → FileWord → FileFault
piece_fault piece word = record { at = piece.name.span.from; word = word; about = Some (name_of piece) }

abbrev pub origin_of : File → Piece → Origin
origin_of file piece = record { name = name_of piece; file = file; first = piece.span.from }

-- The file was loaded, with this log and these further origins; or it has a fault.
pub data FileAnswer : Type 0 where
  Loaded : Log → List Origin → FileAnswer
  Faulty : FileFault → FileAnswer

-- The fault of this piece, if it has one, else the answer of those behind it.
abbrev pub piece_answer : Piece → Option FileWord → FileAnswer → FileAnswer
piece_answer piece None behind = behind
piece_answer piece (Some word) behind = Faulty (piece_fault piece word)

-- The pieces of a file, loaded one after another behind this log, where these of the file are loaded already.
unfoldable pub pieces_answer : File → Log → List Origin → List Piece → FileAnswer
pieces_answer file log origins [] = Loaded log origins
pieces_answer file log origins (piece ∷ pieces) =
    piece_answer piece (piece_word log file piece)
    (pieces_answer file (appended log (Put (name_of piece) (text_in file piece))) (origins ++ origin_of file piece ∷ []) pieces)

abbrev pub bare_fault : ℕ → FileWord → FileAnswer
bare_fault at word = Faulty (record { at = at; word = word; about = None })

abbrev pub division_answer : File → Log → Division → FileAnswer
division_answer file log (Pieces pieces) = pieces_answer file log [] pieces
division_answer file log (SyntaxFault at) = bare_fault at BadSyntax
division_answer file log (UnsupportedFault at) = bare_fault at Unsupported

-- The first fault of a file, or what it makes of the log.
unfoldable pub file_answer : Log → File → FileAnswer
file_answer log file =
    if nat_lt file_limit (length file.bytes) then bare_fault 0 LongFile else division_answer file log (divide (lex file.bytes))

-- A file is loaded whole or not at all.
abbrev pub loaded_by : Loading → File → FileAnswer → Loading
loaded_by loading file (Loaded log origins) = record { log = log; origins = loading.origins ++ origins; damaged = loading.damaged }
loaded_by loading file (Faulty fault) =
    record { log = loading.log; origins = loading.origins; damaged = loading.damaged ++ record { file = file; fault = fault } ∷ [] }

abbrev pub load_file : Loading → File → Loading
load_file loading file = loaded_by loading file (file_answer loading.log file)

-- What the files of a folder are loaded to.
unfoldable pub load : List File → Loading
load files = fold load_file (record { log = []; origins = []; damaged = [] }) (module_files files)
