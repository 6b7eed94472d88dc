use Rattle.std.proofs.Common.{◌≡◌, ◌≤◌, List, map, take, fold, IfSome}
use Rattle.std.specs.String.{string_bytes}
use Rattle.run_meaning.specs.Files.{File, load_file, module_files}
use Rattle.folder_load.specs.Ahead.{IsTallied}
use Rattle.folder_load.specs.Loads.{AreFilesOf, IsLoadedSoFar, nothing_loaded}
use Rattle.folder_load.proofs.FileOrder.{names_of}
use Rattle.folder_load.proofs.folder.load.Given as goal

-- The files so far are loaded.
abbrev pub invariant-loop-name : goal.invariant-loop-name
invariant-loop-name g l = record {
  same : g.F.Folder.files l.folder ≡ g.F.Folder.files l.fn.folder;
  later : g.F.Folder.faults l.fn.folder ≤ g.F.Folder.faults l.folder;
  tallied : IsTallied l.loading.modules;
  loads : IfSome (g.F.Folder.files l.fn.folder)
      (λ told. (files : List File) → AreFilesOf told l.path files → map string_bytes l.name-items ≡ names_of (module_files files)
      → IsLoadedSoFar l.loading (fold load_file nothing_loaded (take l.name-index (module_files files))));
}
