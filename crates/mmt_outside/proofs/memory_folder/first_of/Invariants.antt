use Rattle.std.proofs.Common.{◌≡◌, drop}
use Rattle.mmt_outside.specs.Folders.{read_files, bytes_of}
use Rattle.mmt_outside.proofs.memory_folder.first_of.Given as goal

-- No file so far is the one.
abbrev pub invariant-loop-file : goal.invariant-loop-file
invariant-loop-file l = bytes_of (read_files l.files) l.folder l.name ≡ bytes_of (drop l.file-index (read_files l.files)) l.folder l.name
