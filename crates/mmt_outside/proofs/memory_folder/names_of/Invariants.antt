use Rattle.std.proofs.Common.{◌≡◌, map, take}
use Rattle.std.specs.String.{string_bytes}
use Rattle.mmt_outside.specs.Folders.{read_files, names_in}
use Rattle.mmt_outside.proofs.memory_folder.names_of.Given as goal

-- The names of the files so far.
abbrev pub invariant-loop-file : goal.invariant-loop-file
invariant-loop-file l = map string_bytes l.names ≡ names_in l.folder (take l.file-index (read_files l.files))
