-- Why a file was not loaded, and the line of a file whose place is counted already (this profile).
use Rattle.std.specs.Prelude.{ℕ, List, ◌++◌, codes}
use Rattle.std.specs.Fmt.{decimal}
use Rattle.printing_meaning.specs.Printed.{end_of_line}
use Rattle.printing_meaning.specs.FolderLines as lines
use Rattle.mmt_syntax.specs.declared.file_fault.FileWord.{FileWord}
use Rattle.mmt_syntax.specs.declared.file_fault.FileWord.TheVariants.{TooLong, Syntax, Unsupported, DuplicateName, TooMany, Full}
use Rattle.mmt_syntax.specs.declared.file_fault.FileFault.{FileFault}
use Rattle.mmt_syntax.specs.declared.place.Place.{Place}

abbrev pub read_file_word : FileWord → lines.FileWord
read_file_word TooLong = lines.LongFile
read_file_word Syntax = lines.BadSyntax
read_file_word Unsupported = lines.Unsupported
read_file_word DuplicateName = lines.DuplicateName
read_file_word TooMany = lines.TooManyModules
read_file_word Full = lines.FullLog

-- `L:C`.
abbrev pub counted_place : Place → List ℕ
counted_place place = decimal place.line ++ codes ":" ++ decimal place.column

-- `FILE refused L:C WORD`, and the module's name where one is named.
abbrev pub fault_text : FileFault → List ℕ
fault_text fault =
    fault.file ++ codes " refused " ++ counted_place fault.place ++ codes " " ++ lines.file_word (read_file_word fault.word) ++ lines.about_text fault.about ++ end_of_line
