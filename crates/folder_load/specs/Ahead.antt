-- The modules of a file that are to follow those which were loaded before it.
use Rattle.std.specs.Prelude.{◌≡◌, ◌≤◌, ◌+◌, ◌||◌, ℕ, Bool, List, [], ◌∷◌, ◌++◌, map, length, nat_lt, nat_le, Option, Some, None, is_some, if◌then◌else◌, Result, Ok, Err}
use Rattle.name_meaning.specs.Limits.{text_limit, module_limit, total_limit}
use Rattle.name_meaning.specs.Names.{Name, Text}
use Rattle.name_meaning.specs.Rows.{row_of}
use Rattle.edit_log_meaning.specs.Log.{Edit, Put, Log, library_of, is_present, version_of}
use Rattle.edit_log_meaning.specs.Append.{append_answer, appended_all, total_size, IsWithinLimits}
use Rattle.text_meaning.specs.Splitting.{Piece}
use Rattle.printing_meaning.specs.FolderLines as lines
use Rattle.printing_meaning.specs.FolderLines.{LongFile, DuplicateName, TooManyModules, FullLog}
use Rattle.run_meaning.specs.Files as meant
use Rattle.run_meaning.specs.Files.{File, FileAnswer, Faulty, name_of, text_in, refused_by, piece_word}
use Rattle.edit_log.specs.Readings.{read_edit}
use Rattle.folder_load.specs.Shown.{shown_origin, shown_word, shown_damaged, shown_piece_fault}
use Rattle.folder_load.specs.declared.following.Damage.{Damage}
use Rattle.folder_load.specs.declared.following.Damage.TheVariants.{Fault, Memory}
use Rattle.folder_load.specs.declared.following.Following.{Following}
use Rattle.folder_load.specs.declared.following.Modules.{Modules}

-- ---- one module

-- What puts a module of a file.
abbrev pub put_of : File → Piece → Edit
put_of file piece = Put (name_of piece) (text_in file piece)

-- Why a text is refused under a name, if it is.
abbrev pub word_of : Log → Name → Text → Option lines.FileWord
word_of log name text = if is_present (library_of log) name then Some DuplicateName else refused_by (append_answer log (Put name text))

-- The same by numbers: whether the name is there, the length of the text, how many modules there are, and the sum of
-- the lengths of their texts.
abbrev pub word_by : Bool → ℕ → ℕ → ℕ → Option lines.FileWord
word_by is_there bytes modules size =
    if is_there then Some DuplicateName
    else (if nat_lt text_limit bytes then Some LongFile
    else (if nat_le module_limit modules then Some TooManyModules
    else (if nat_lt total_limit (size + bytes) then Some FullLog else None)))

-- The piece stands within so many bytes.
pub record PieceStands (bytes : ℕ) (piece : Piece) : Type 0 where
  pub name : piece.name.span.from ≤ bytes
  pub forward : piece.span.from ≤ piece.span.to
  pub within : piece.span.to ≤ bytes

abbrev pub PiecesStand : ℕ → List Piece → Type 0
PiecesStand bytes [] = Unit {0}
PiecesStand bytes (piece ∷ pieces) = PieceStands bytes piece × PiecesStand bytes pieces

-- The damage is the reason why the piece is refused. Want of memory says nothing of it.
abbrev pub IsPieceDamage : Log → File → Piece → Damage → Type 0
IsPieceDamage log file piece (Fault fault) =
    (word : lines.FileWord) × (piece_word log file piece ≡ Some word) × (fault ≡ shown_piece_fault file piece (shown_word word))
IsPieceDamage log file piece Memory = Unit {0}

-- ---- logs and the modules that are to follow

-- Each edit put a new name, so that there are as many modules as edits; and the log keeps to the limits.
pub record IsFresh (log : Log) : Type 0 where
  pub modules : length (library_of log) ≡ version_of log
  pub limits : IsWithinLimits log

pub record IsTallied (modules : Modules) : Type 0 where
  pub fresh : IsFresh modules.log
  pub size : modules.size ≡ total_size modules.log

-- The edits that put the modules of a file so far, and the log with them.
abbrev pub edits_of : Following → List Edit
edits_of following = map read_edit following.edits.items

abbrev pub ahead : Modules → Following → Log
ahead modules following = modules.log ++ edits_of following

-- The log with them is fresh, and is what the edits make of the log; the names and the size are theirs.
pub record Follows (modules : Modules) (following : Following) : Type 0 where
  pub whole : appended_all modules.log (edits_of following) ≡ ahead modules following
  pub fresh : IsFresh (ahead modules following)
  pub size : modules.size + following.size ≡ total_size (ahead modules following)
  pub names : (name : Name) → is_present (library_of (ahead modules following)) name ≡ (is_present (library_of modules.log) name || is_some (row_of following.names name))

-- ---- one file

-- The answer is that the file is loaded, by these modules.
pub record IsLoadedBy (modules : Modules) (following : Following) (answer : FileAnswer) : Type 0 where
  pub origins : List meant.Origin
  pub is : answer ≡ meant.Loaded (appended_all modules.log (edits_of following)) origins
  pub shown : following.origins ≡ map shown_origin origins

-- The outcome of a file is the answer. Want of memory says nothing of it.
abbrev pub IsFileOutcome : Modules → File → Result Following Damage → FileAnswer → Type 0
IsFileOutcome modules file (Ok following) answer = IsLoadedBy modules following answer
IsFileOutcome modules file (Err (Fault fault)) answer =
    (cause : lines.FileFault) × (answer ≡ Faulty cause) × (fault ≡ shown_damaged (record { file = file; fault = cause }))
IsFileOutcome modules file (Err Memory) answer = Unit {0}
