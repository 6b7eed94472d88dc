-- The lines of a checked folder (this profile).
use Rattle.std.specs.Prelude.{ℕ, List, [], ◌++◌, Option, Some, None, codes}
use Rattle.std.specs.Fmt.{decimal}
use Rattle.printing_meaning.specs.Printed.{end_of_line}
use Rattle.name_meaning.specs.Names.{Name}
use Rattle.printing_meaning.specs.VerdictLines.{place_text}

-- Why a file was not loaded.
pub data FileWord : Type 0 where
  LongFile : FileWord
  BadSyntax : FileWord
  Unsupported : FileWord
  DuplicateName : FileWord
  TooManyModules : FileWord
  FullLog : FileWord

abbrev pub file_word : FileWord → List ℕ
file_word LongFile = codes "too-long"
file_word BadSyntax = codes "syntax"
file_word Unsupported = codes "unsupported"
file_word DuplicateName = codes "duplicate-name"
file_word TooManyModules = codes "too-many"
file_word FullLog = codes "full"

-- The fault of a file, at a place that is counted in its bytes from 0, and the module that it names, if it names one.
pub record FileFault : Type 0 where
  pub at : ℕ
  pub word : FileWord
  pub about : Option Name

abbrev pub about_text : Option Name → List ℕ
about_text None = []
about_text (Some name) = codes " " ++ name

-- `FILE refused L:C WORD`, and the module's name where one is named.
abbrev pub file_line : Name → List ℕ → FileFault → List ℕ
file_line file bytes fault =
    file ++ codes " refused " ++ place_text bytes fault.at ++ codes " " ++ file_word fault.word ++ about_text fault.about ++ end_of_line

-- `FILE:L:C`, counted in the file.
abbrev pub place_in_file : Name → List ℕ → ℕ → List ℕ
place_in_file file bytes at = file ++ codes ":" ++ place_text bytes at

-- `files F modules M accepted A refused R`.
abbrev pub files_line : ℕ → ℕ → ℕ → ℕ → List ℕ
files_line files modules accepted refused =
    codes "files " ++ decimal files ++ codes " modules " ++ decimal modules ++ codes " accepted " ++ decimal accepted ++ codes " refused " ++ decimal refused ++ end_of_line
