-- What is printed of a sheet is what the rules print of the files from which it was loaded.
use Rattle.std.proofs.Common.{◌≡◌, ◌+◌, ℕ, suc, Bool, true, false, not, ◌||◌, cond, List, [], ◌∷◌, ◌++◌, length, map, filter, nat_eq, refl, ap, ap₂, ◌∙◌, arith}
use Rattle.std.proofs.lemmas.List.{length-map}
use Rattle.std.proofs.lemmas.Simd.{map-map}
use Rattle.name_meaning.specs.Names.{Name}
use Rattle.name_meaning.specs.Rows.{row_of}
use Rattle.edit_log_meaning.specs.Log.{Log, Module, library_of, names_of, text_of}
use Rattle.text_meaning.specs.Dependencies.{dependencies}
use Rattle.printing_meaning.specs.FolderLines.{files_line}
use Rattle.run_meaning.specs.Parts.{Part, silent_part, part_about}
use Rattle.run_meaning.specs.Files.{Damaged, File, load, module_files}
use Rattle.run_meaning.specs.Folders.{accepted_count, damaged_line, folder_parts, has_refusal, is_refused, module_line, refused_count, origin_named}
use Rattle.judged_meaning.specs.JudgingByRules.{rules}
use Rattle.folder_load.specs.Loads.{IsLoadedTo}
use Rattle.folder_load.specs.Shown.{shown_damaged}
use Rattle.folder_load.specs.declared.loaded.Loaded.{Loaded}
use Rattle.folder_front.specs.Sheets.{count_part, fault_part, has_refused, names_in, rows_of, sheet_of, sheet_parts, tally_of, verdict_from, verdict_part}
use Rattle.folder_front.proofs.Lines.{fault_shown, verdict_shown}
use Rattle.folder_front.proofs.LoadedModules.{are_loaded}

-- ---- parts that are one by one the same

map_same : {A B : Type 0} (f g : A → B) (xs : List A) → ((x : A) → f x ≡ g x) → map f xs ≡ map g xs
map_same f g [] same = refl
map_same f g (x ∷ xs) same = ap₂ (λ y ys. y ∷ ys) (same x) (map_same f g xs same)

-- ---- counts

both_counts : {A : Type 0} (p : A → Bool) (xs : List A) → length (filter (λ (x : A). not (p x)) xs) + length (filter p xs) ≡ length xs
both_counts p [] = refl
both_counts {A} p (x ∷ xs) = by (p x) (both_counts p xs)
  where
    by : (b : Bool) → length (filter (λ (y : A). not (p y)) xs) + length (filter p xs) ≡ length xs
        → length (cond (not b) (x ∷ filter (λ (y : A). not (p y)) xs) (filter (λ (y : A). not (p y)) xs)) + length (cond b (x ∷ filter p xs) (filter p xs)) ≡ suc (length xs)
    by true e = omega (arith, e)
    by false e = omega (arith, e)

-- ---- a sheet

module _ (files : List File) (loaded : Loaded) (to : IsLoadedTo files loaded) where
  abbrev log : Log
  log = (load files).log

  faults_same : map fault_part loaded.faults ≡ map (λ (damaged : Damaged). silent_part (damaged_line damaged)) (load files).damaged
  faults_same =
      ap (map fault_part) to.faults ∙ map-map fault_part shown_damaged (load files).damaged
      ∙ map_same (λ (damaged : Damaged). fault_part (shown_damaged damaged)) (λ (damaged : Damaged). silent_part (damaged_line damaged)) (load files).damaged
      (λ damaged. ap silent_part (fault_shown damaged))

  line_same : (name : Name) → verdict_from log name (row_of (rows_of loaded.origins) name) (text_of (library_of log) name) ≡ module_line rules (load files) name
  line_same name =
      let are = (are_loaded files).origins_are in
      ap (λ origin. verdict_from log name origin (text_of (library_of log) name)) (ap (λ origins. row_of (rows_of origins) name) to.origins ∙ are.rows name)
      ∙ verdict_shown log name (origin_named (load files).origins name) (text_of (library_of log) name) refl (are.came name)

  verdicts_same : map (verdict_part (sheet_of log loaded)) (names_of (library_of log)) ≡ map (λ (name : Name). part_about dependencies log name (module_line rules (load files) name)) (names_of (library_of log))
  verdicts_same =
      map_same (verdict_part (sheet_of log loaded)) (λ (name : Name). part_about dependencies log name (module_line rules (load files) name)) (names_of (library_of log))
      (λ name. ap (part_about dependencies log name) (line_same name))

  modules_same : accepted_count rules (library_of log) + refused_count rules (library_of log) ≡ length (library_of log)
  modules_same =
      both_counts (λ (name : Name). is_refused (rules.judged (library_of log) name)) (names_of (library_of log)) ∙ length-map (library_of log) (λ (own : Module). own.name)

  counts_same : count_part (sheet_of log loaded)
      ≡ silent_part (files_line (length (module_files files)) (length (library_of log)) (accepted_count rules (library_of log)) (refused_count rules (library_of log)))
  counts_same =
      ap₂ (λ (count modules : ℕ). silent_part (files_line count modules (accepted_count rules (library_of log)) (refused_count rules (library_of log)))) to.count modules_same

  log_parts : sheet_parts (sheet_of log loaded) ≡ folder_parts rules files
  log_parts = ap₂ (λ (front : List Part) (last : Part). front ++ last ∷ []) (ap₂ (λ (front behind : List Part). front ++ behind) faults_same verdicts_same) counts_same

  pub parts_same : (board : Log) → board ≡ log → sheet_parts (sheet_of board loaded) ≡ folder_parts rules files
  parts_same board same = ap (λ (l : Log). sheet_parts (sheet_of l loaded)) same ∙ log_parts

  log_refused : has_refused (sheet_of log loaded) (tally_of (sheet_of log loaded) (names_in (sheet_of log loaded))) ≡ has_refusal rules files
  unfolding has_refusal
  log_refused =
      ap (λ (count : ℕ). not (nat_eq (refused_count rules (library_of log)) 0) || not (nat_eq count 0)) (ap length to.faults ∙ length-map (load files).damaged shown_damaged)

  pub refused_same : (board : Log) → board ≡ log → has_refused (sheet_of board loaded) (tally_of (sheet_of board loaded) (names_in (sheet_of board loaded))) ≡ has_refusal rules files
  refused_same board same = ap (λ (l : Log). has_refused (sheet_of l loaded) (tally_of (sheet_of l loaded) (names_in (sheet_of l loaded)))) same ∙ log_refused
