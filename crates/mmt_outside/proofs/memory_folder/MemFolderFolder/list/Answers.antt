use Rattle.std.proofs.Common.{sym, subst}
use Rattle.mmt_outside.specs.Files.{IsListing}
use Rattle.mmt_outside.specs.Folders.{read_files, bytes_of}
use Rattle.mmt_outside.proofs.Folders.{names_listing}
use Rattle.mmt_outside.proofs.memory_folder.MemFolderFolder.list.Goals as goal

pub returns-clause-names : goal.returns-clause-names
returns-clause-names c =
    let files = read_files c.self.inside.files in
    let folder = c.args.folder.now in
    rw (← c.self.view_is) (subst (IsListing (bytes_of files) folder) (sym c.in_ok-names.ensures) (names_listing files folder))
