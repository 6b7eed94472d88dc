-- The files of a folder, loaded in turn.
use Rattle.std.proofs.Common.{◌≡◌, ℕ, suc, ◌≤◌, List, length, take, fold, slice_get, Some, IfSome, IsSome, refl, sym, ap, ◌∙◌, subst, arith}
use Rattle.std.proofs.lemmas.List.{take_all, length-map}
use Rattle.std.proofs.lemmas.Option.{slice_get-map}
use Rattle.mmt_outside.specs.Files.{Files}
use Rattle.name_meaning.specs.Names.{Name}
use Rattle.run_meaning.specs.Files as meant
use Rattle.run_meaning.specs.Files.{File, load_file, load, module_files}
use Rattle.list_laws.proofs.Members.{Member, in_map, place_member}
use Rattle.list_laws.proofs.Places.{take_more}
use Rattle.edit_log_laws.proofs.Libraries.{fold_last}
use Rattle.folder_load.specs.Shown.{file_of}
use Rattle.folder_load.specs.Loads.{AreFilesOf, AreModuleNames, LoadsFolder, IsLoadedSoFar, nothing_loaded}
use Rattle.folder_load.specs.declared.loaded.Loaded.{Loaded}
use Rattle.folder_load.specs.declared.loading.Loading.{Loading}
use Rattle.folder_load.proofs.Contained.{member_contains}
use Rattle.folder_load.proofs.FileOrder.{names_of, module_file_in}
use Rattle.folder_load.proofs.Mapped.{mapped_some, at_some}

module _ (told : Files) (folder : List ℕ) where
  told_file : (files : List File) → AreFilesOf told folder files → (file : File) → Member file (module_files files) → told folder file.name ≡ Some file.bytes
  told_file files are file m = (are file).0 (member_contains files file (module_file_in files file m).0)

  -- each name is that of a file
  pub name_told : (names : List Name) (i : ℕ) (name : Name) → AreModuleNames told folder names → slice_get names i ≡ Some name → IsSome (told folder name)
  name_told names i name m here =
      let among = subst (Member name) (m.each m.files m.are) (place_member names i name here) in
      let file = in_map (λ (file : File). file.name) (module_files m.files) name among in
      subst (λ n. IsSome (told folder n)) (sym file.2) (let e = told_file m.files m.are file.0 file.1 in rw e refl)

  -- what one file more is loaded to
  pub next_loaded : (old new : Loading) (names : List Name) (files : List File) (i : ℕ) (name : Name) → AreFilesOf told folder files → names ≡ names_of (module_files files)
      → slice_get names i ≡ Some name
      → IfSome (told folder name) (λ bytes. (before : meant.Loading) → IsLoadedSoFar old before → IsLoadedSoFar new (load_file before (file_of name bytes)))
      → IsLoadedSoFar old (fold load_file nothing_loaded (take i (module_files files)))
      → IsLoadedSoFar new (fold load_file nothing_loaded (take (suc i) (module_files files)))
  next_loaded old new names files i name are same here one before =
      let loaded = module_files files in
      let got = mapped_some (λ (file : File). file.name) (slice_get loaded i) name (sym (slice_get-map (λ (file : File). file.name) loaded i) ∙ sym (ap (λ l. slice_get l i) same) ∙ here) in
      let file = got.0 in
      let bytes = told_file files are file (place_member loaded i file got.1) in
      let go = at_some (told folder name) (λ bytes. (before : meant.Loading) → IsLoadedSoFar old before → IsLoadedSoFar new (load_file before (file_of name bytes))) file.bytes (ap (told folder) got.2 ∙ bytes) one in
      let done = go (fold load_file nothing_loaded (take i loaded)) before in
      let file_is : file_of name file.bytes ≡ file = ap (λ n. file_of n file.bytes) got.2 in
      let more = ap (fold load_file nothing_loaded) (take_more loaded i file got.1) ∙ fold_last load_file nothing_loaded (take i loaded) file in
      subst (IsLoadedSoFar new) (ap (load_file (fold load_file nothing_loaded (take i loaded))) file_is ∙ sym more) done

  -- and what all of them are
  pub all_loaded : (loading : Loading) (loaded : Loaded) (names : List Name) (i : ℕ) → AreModuleNames told folder names
      → ((files : List File) → AreFilesOf told folder files → names ≡ names_of (module_files files) → IsLoadedSoFar loading (fold load_file nothing_loaded (take i (module_files files))))
      → length names ≤ i → loaded.log ≡ loading.modules.log → loaded.origins ≡ loading.origins → loaded.faults ≡ loading.faults → loaded.files ≡ length names
      → LoadsFolder told folder loaded
  unfolding load
  all_loaded loading loaded names i m loads past log origins faults count = record {
    files = m.files;
    are = m.are;
    each = λ others are.
        let same = m.each others are in
        let size : length names ≡ length (module_files others) = ap length same ∙ length-map (module_files others) (λ (file : File). file.name) in
        let all = ap (fold load_file nothing_loaded) (take_all i (module_files others) (omega (arith, past, size))) in
        let l = subst (IsLoadedSoFar loading) all (loads others are same) in
        record { log = log ∙ l.log; origins = origins ∙ l.origins; faults = faults ∙ l.faults; count = count ∙ size };
  }
