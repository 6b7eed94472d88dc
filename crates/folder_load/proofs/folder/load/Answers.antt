use Rattle.std.proofs.Common.{◌≡◌, ℕ, suc, ◌+◌, ◌<◌, ◌≤◌, List, length, map, take, fold, get_or, Some, IfSome, IsSome, refl, sym, ap, subst, ◌∙◌, arith}
use Rattle.std.specs.String.{string_bytes}
use Rattle.std.proofs.lemmas.List.{length-map}
use Rattle.mmt_outside.specs.Files.{Files}
use Rattle.run_meaning.specs.Files as meant
use Rattle.run_meaning.specs.Files.{File, load_file, module_files}
use Rattle.folder_load.specs.Shown.{file_of}
use Rattle.folder_load.specs.Loads.{AreFilesOf, AreModuleNames, IsLoadedSoFar, LoadsFolder, nothing_loaded}
use Rattle.folder_load.specs.declared.loading.Loading.{Loading}
use Rattle.folder_load.proofs.FileOrder.{names_of}
use Rattle.folder_load.proofs.LoadedFolder.{name_told, next_loaded, all_loaded}
use Rattle.folder_load.proofs.Mapped.{item_there, at_some, both_if_some}
use Rattle.folder_load.proofs.folder.load.Goals as goal

pub load_named-requires-clause-there : goal.load_named-requires-clause-there
load_named-requires-clause-there g c told is =
    let folder = c.args.path.now in
    let items = c.in_ok-names.names.items in
    let i = c.loop-name.name-index in
    let item = c.name-item.result in
    let listed = c.deref-name-items.ensures.value in
    let below : i < length items = omega (arith, c.loop-name-test.true, ap length listed) in
    let here = item_there string_bytes items i item below (c.name-item.is ∙ ap (λ l. get_or l i item) listed) in
    let names = at_some (g.F.Folder.files c.args.folder.now) (λ (told : Files). AreModuleNames told folder (map string_bytes items)) told (sym c.loop-name.invariant.same ∙ is) c.in_ok-names.ensures.names in
    subst (λ n. IsSome (told folder n)) (sym c.deref.ensures) (name_told told folder (map string_bytes items) i (string_bytes item) names here)

pub loop-name-preserved : goal.loop-name-preserved
loop-name-preserved g c =
    let folder = c.args.path.now in
    let items = c.deref-name-items.result.now in
    let names = map string_bytes items in
    let i = c.loop-name.name-index in
    let name = c.deref.result.now in
    let here = item_there string_bytes items i c.name-item.result c.loop-name-test.true c.name-item.is ∙ ap Some (sym c.deref.ensures) in
    let e = c.in_ok-load_named.ensures in
    let old = c.loop-name.loading in
    let new = c.load_named.new.loading in
    let plus : suc i ≡ i + 1 = omega arith in
    let Loads = λ (told : Files) (loading : Loading) (count : ℕ).
    (files : List File) → AreFilesOf told folder files → names ≡ names_of (module_files files) → IsLoadedSoFar loading (fold load_file nothing_loaded (take count (module_files files))) in
    let One = λ (told : Files).
    IfSome (told folder name) (λ (bytes : List ℕ). (before : meant.Loading) → IsLoadedSoFar old before → IsLoadedSoFar new (load_file before (file_of name bytes))) in
    record {
      same = e.same ∙ c.loop-name.invariant.same;
      later = omega (arith, c.loop-name.invariant.later, e.cause.later);
      tallied = e.tallied;
      loads = both_if_some (g.F.Folder.files c.args.folder.now) (λ told. Loads told old i) One (λ told. Loads told new (i + 1))
          (λ told before one files are same.
          subst (λ j. IsLoadedSoFar new (fold load_file nothing_loaded (take j (module_files files)))) plus
          (next_loaded told folder old new names files i name are same here one (before files are same)))
          c.loop-name.invariant.loads (subst (λ o. IfSome o One) c.loop-name.invariant.same e.loads);
    }

pub returns-clause-loaded : goal.returns-clause-loaded
returns-clause-loaded g c =
    let folder = c.args.path.now in
    let items = c.deref-name-items.result.now in
    let names = map string_bytes items in
    let i = c.loop-name.name-index in
    let loading = c.loop-name.loading in
    let listed = c.deref-name-items.ensures.value in
    let past : length names ≤ i = omega (arith, c.loop-name-test.false, length-map items string_bytes) in
    let counted = c.in-Ok.ensures.1 in
    let count : c.in-Ok.files ≡ length names = omega (arith, counted, c.len.ensures, ap length listed, length-map items string_bytes) in
    let Loads = λ (told : Files).
    (files : List File) → AreFilesOf told folder files → names ≡ names_of (module_files files) → IsLoadedSoFar loading (fold load_file nothing_loaded (take i (module_files files))) in
    both_if_some (g.F.Folder.files c.args.folder.now) (λ (told : Files). AreModuleNames told folder (map string_bytes c.in_ok-names.names.items)) Loads (λ (told : Files). LoadsFolder told folder _)
    (λ told named loads.
    all_loaded told folder loading _ names i (subst (λ l. AreModuleNames told folder (map string_bytes l)) (sym listed) named) loads past refl refl refl count)
    c.in_ok-names.ensures.names c.loop-name.invariant.loads
