use Rattle.std.proofs.Common.{map, sym, ap, subst}
use Rattle.std.specs.String.{string_bytes}
use Rattle.mmt_outside.specs.Files.{Files, IsListing}
use Rattle.folder_load.specs.Loads.{AreModuleNames}
use Rattle.folder_load.proofs.Mapped.{if_some}
use Rattle.folder_load.proofs.ModuleNames.{are_module_names}
use Rattle.folder_load.proofs.folder.module_names.Goals as goal

pub returns-clause-names : goal.returns-clause-names
returns-clause-names g c =
    let folder = c.args.path.now in
    let ordered = map string_bytes c.in_order.result.items in
    let same = ap (map string_bytes) (sym c.into_vec.ensures) in
    if_some (g.F.Folder.files c.args.folder.now) (λ (told : Files). IsListing told folder (map string_bytes c.in_ok-names.names)) (λ (told : Files). AreModuleNames told folder ordered)
    (λ told listing. are_module_names told folder (map string_bytes c.into_vec.result.items) (subst (IsListing told folder) same listing) ordered c.in_order.ensures) c.in_ok-names.ensures.names
