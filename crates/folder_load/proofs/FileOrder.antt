-- Files in byte order of their names.
use Rattle.std.proofs.Common.{◌≡◌, Bool, true, false, cond, List, [], ◌∷◌, map, filter, fold, ◌⊎◌, inl, inr, ⊎_elim, refl, sym, ap, subst}
use Rattle.name_meaning.specs.Names.{Name, same_name, comes_before, is_ascending, with_name}
use Rattle.run_meaning.specs.Files.{File, with_file, in_order, is_module_file, module_files}
use Rattle.list_laws.proofs.Members.{Member, in_filter, filter_in}
use Rattle.name_laws.proofs.Order.{with_new, with_old, with_ascending, ascending_filtered}
use Rattle.folder_load.specs.Loads.{is_module_name}

abbrev pub names_of : List File → List Name
names_of files = map (λ (file : File). file.name) files

-- ---- one file more

names_with_file : (files : List File) (file : File) → names_of (with_file files file) ≡ with_name file.name (names_of files)
unfolding with_file with_name
names_with_file [] file = refl
names_with_file (other ∷ files) file = by (same_name file.name other.name) (comes_before file.name other.name) (names_with_file files file)
  where
    by : (same before : Bool) → names_of (with_file files file) ≡ with_name file.name (names_of files)
        → names_of (cond same (other ∷ files) (cond before (file ∷ other ∷ files) (other ∷ with_file files file)))
        ≡ cond same (other.name ∷ names_of files) (cond before (file.name ∷ other.name ∷ names_of files) (other.name ∷ with_name file.name (names_of files)))
    by true before h = refl
    by false true h = refl
    by false false h = ap (λ names. other.name ∷ names) h

in_with_file : (files : List File) (file x : File) → Member x (with_file files file) → (x ≡ file) ⊎ Member x files
unfolding with_file
in_with_file [] file x (inl e) = inl e
in_with_file [] file x (inr m) = inr m
in_with_file (other ∷ files) file x m = by (same_name file.name other.name) (comes_before file.name other.name) m (in_with_file files file x)
  where
    by : (same before : Bool) → Member x (cond same (other ∷ files) (cond before (file ∷ other ∷ files) (other ∷ with_file files file)))
        → (Member x (with_file files file) → (x ≡ file) ⊎ Member x files) → (x ≡ file) ⊎ Member x (other ∷ files)
    by true before n later = inr n
    by false true (inl e) later = inl e
    by false true (inr n) later = inr n
    by false false (inl e) later = inr (inl e)
    by false false (inr n) later = ⊎_elim (λ e. inl e) (λ k. inr (inr k)) (later n)

-- ---- all files

in_ordered : (before files : List File) (x : File) → Member x (fold with_file before files) → Member x before ⊎ Member x files
in_ordered before [] x m = inl m
in_ordered before (file ∷ files) x m =
    ⊎_elim (λ n. ⊎_elim (λ e. inr (inl e)) (λ k. inl k) (in_with_file before file x n)) (λ n. inr (inr n)) (in_ordered (with_file before file) files x m)

ordered_ascending : (before files : List File) → is_ascending (names_of before) ≡ true → is_ascending (names_of (fold with_file before files)) ≡ true
ordered_ascending before [] h = h
ordered_ascending before (file ∷ files) h =
    ordered_ascending (with_file before file) files
    (subst (λ names. is_ascending names ≡ true) (sym (names_with_file before file)) (with_ascending file.name (names_of before) h))

ordered_old : (before files : List File) (name : Name) → Member name (names_of before) → Member name (names_of (fold with_file before files))
ordered_old before [] name m = m
ordered_old before (file ∷ files) name m =
    ordered_old (with_file before file) files name (subst (Member name) (sym (names_with_file before file)) (with_old file.name (names_of before) name m))

ordered_new : (before files : List File) (x : File) → Member x files → Member x.name (names_of (fold with_file before files))
ordered_new before [] x m = absurd m
ordered_new before (file ∷ files) x (inl e) =
    ordered_old (with_file before file) files x.name
    (subst (Member x.name) (sym (names_with_file before file)) (subst (λ (f : File). Member x.name (with_name f.name (names_of before))) e (with_new x.name (names_of before))))
ordered_new before (file ∷ files) x (inr m) = ordered_new (with_file before file) files x m

-- ---- those that are loaded

names_filtered : (files : List File) → names_of (filter is_module_file files) ≡ filter is_module_name (names_of files)
names_filtered [] = refl
names_filtered (file ∷ files) = by (is_module_file file) (names_filtered files)
  where
    by : (b : Bool) → names_of (filter is_module_file files) ≡ filter is_module_name (names_of files)
        → names_of (cond b (file ∷ filter is_module_file files) (filter is_module_file files)) ≡ cond b (file.name ∷ filter is_module_name (names_of files)) (filter is_module_name (names_of files))
    by true h = ap (λ names. file.name ∷ names) h
    by false h = h

pub module_names_ascending : (files : List File) → is_ascending (names_of (module_files files)) ≡ true
unfolding module_files is_ascending
module_names_ascending files =
    subst (λ names. is_ascending names ≡ true) (sym (names_filtered (in_order files))) (ascending_filtered is_module_name (names_of (in_order files)) (ordered_ascending [] files refl))

-- a file that is loaded is one of the files, and its name ends so
pub module_file_in : (files : List File) (x : File) → Member x (module_files files) → Member x files × (is_module_name x.name ≡ true)
unfolding module_files
module_file_in files x m =
    let p = in_filter is_module_file (in_order files) x m in
    (⊎_elim (λ n. absurd n) (λ n. n) (in_ordered [] files x p.0), p.1)

-- and the name of each file whose name ends so is one of theirs
pub module_name_of : (files : List File) (x : File) → Member x files → is_module_name x.name ≡ true → Member x.name (names_of (module_files files))
unfolding module_files
module_name_of files x m ends =
    subst (Member x.name) (sym (names_filtered (in_order files))) (filter_in is_module_name (names_of (in_order files)) x.name (ordered_new [] files x m) ends)
