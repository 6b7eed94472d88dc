-- The names of the files of a folder that are loaded.
use Rattle.std.proofs.Common.{◌≡◌, ℕ, true, List, [], map, Some, is_some, unwrap_or, sym, ap, ◌∙◌, subst}
use Rattle.mmt_outside.specs.Files.{Files, IsListing}
use Rattle.name_meaning.specs.Names.{Name}
use Rattle.run_meaning.specs.Files.{File, module_files}
use Rattle.list_laws.proofs.Members.{Member, in_map, map_in}
use Rattle.list_laws.proofs.Options.{some_of}
use Rattle.module_graph_laws.proofs.Reaching.{one_list}
use Rattle.folder_load.specs.Loads.{AreFilesOf, AreInOrder, AreModuleNames}
use Rattle.folder_load.proofs.Contained.{member_contains, contains_member}
use Rattle.folder_load.proofs.FileOrder.{names_of, module_names_ascending, module_file_in, module_name_of}

module _ (told : Files) (folder : List ℕ) (listed : List Name) (listing : IsListing told folder listed) where
  file_named : Name → File
  file_named name = record { name = name; bytes = unwrap_or (told folder name) [] }

  told_so : (name : Name) → is_some (told folder name) ≡ true → told folder name ≡ Some (unwrap_or (told folder name) [])
  told_so name h = let s = some_of (told folder name) h in s.1 ∙ ap Some (sym (ap (λ o. unwrap_or o []) s.1))

  named : (file : File) → told folder file.name ≡ Some file.bytes → file_named file.name ≡ file
  unfolding file_named
  named file h = λ i. record { name = file.name; bytes = unwrap_or (h i) [] }

  there : (name : Name) (bytes : List ℕ) → told folder name ≡ Some bytes → is_some (told folder name) ≡ true
  there name bytes h = ap is_some h

  listed_files : AreFilesOf told folder (map file_named listed)
  unfolding file_named
  listed_files file = (
    λ at.
        let m = in_map file_named listed file (contains_member (map file_named listed) file at) in
        let name : file.name ≡ m.0 = ap (λ (f : File). f.name) m.2 in
        let bytes : file.bytes ≡ unwrap_or (told folder m.0) [] = ap (λ (f : File). f.bytes) m.2 in
        ap (told folder) name ∙ told_so m.0 ((listing.each m.0).0 (member_contains listed m.0 m.1)) ∙ ap Some (sym bytes),
    λ h.
        let m = contains_member listed file.name ((listing.each file.name).1 (there file.name file.bytes h)) in
        member_contains (map file_named listed) file (subst (λ f. Member f (map file_named listed)) (named file h) (map_in file_named listed file.name m)),
  )

  pub are_module_names : (ordered : List Name) → AreInOrder listed ordered → AreModuleNames told folder ordered
  are_module_names ordered o = record {
    files = map file_named listed;
    are = listed_files;
    each = λ others are.
        one_list ordered (names_of (module_files others)) (o.ascending listing.once) (module_names_ascending others)
        (λ name m.
        let p = (o.each name).0 (member_contains ordered name m) in
        let s = some_of (told folder name) ((listing.each name).0 p.0) in
        let file : File = record { name = name; bytes = s.0 } in
        module_name_of others file (contains_member others file ((are file).1 s.1)) p.1)
        (λ name m.
        let f = in_map (λ (file : File). file.name) (module_files others) name m in
        let p = module_file_in others f.0 f.1 in
        let here = there f.0.name f.0.bytes ((are f.0).0 (member_contains others f.0 p.0)) in
        let at = (listing.each f.0.name).1 here in
        subst (λ n. Member n ordered) (sym f.2) (contains_member ordered f.0.name ((o.each f.0.name).1 (at, p.1))));
  }
