-- The log that a script leaves, and of which modules its lines tell.
use Rattle.std.proofs.Common.{◌≡◌, ℕ, zero, suc, ◌-◌, ◌<◌, ◌≤◌, Bool, true, false, cond, List, [], ◌∷◌, ◌++◌, length, take, filter, nat_eq, nat_le, refl, sym, ap, ◌∙◌, subst, true≢false, arith, eqb-true, ⊎_elim, le-leb, append-nil, append_assoc, length-append}
use Rattle.std.specs.Prelude.{Option, Some, None, map, option_to_list}
use Rattle.std.specs.List.{list_all, cons_option}
use Rattle.std.proofs.lemmas.Bool.{cases_Bool, and_from, and_parts}
use Rattle.std.proofs.lemmas.List.Folds.{list_all-append}
use Rattle.std.proofs.lemmas.List.Sums.{fold-append}
use Rattle.std.proofs.lemmas.List.Elements.{filter_map-append}
use Rattle.name_meaning.specs.Names.{Name}
use Rattle.edit_log_meaning.specs.Log.{Edit, Log, names_of, library_of, version_of}
use Rattle.edit_log_meaning.specs.Append.{Edited, Made, Same, Absent, Full, TooLong, TooMany, append_answer, log_after as left_by, appended, appended_all}
use Rattle.list_laws.proofs.Places.{take_front, take_length}
use Rattle.module_graph_meaning.specs.Walks.{Dependencies, is_grounded}
use Rattle.run_meaning.specs.ScriptCommands.{Command, EditCommand, ReportCommand, CheckCommand, FlatCommand, CarryCommand, LogCommand, BlankCommand}
use Rattle.run_meaning.specs.ScriptItems.{Item, Spoken, script_of}
use Rattle.run_meaning.specs.ScriptOutput.{report_text, command_parts, command_text, command_told, log_after}
use Rattle.run_meaning.specs.Judging.{Judging}
use Rattle.run_meaning.specs.Parts.{Telling, Part, telling_of, silent_part, part_about, parts_told}
use Rattle.run_meaning.specs.Files.{File, Damaged, Loading, load}
use Rattle.run_meaning.specs.Folders.{damaged_line, module_line, folder_told}
use Rattle.run_meaning.specs.ScriptLogs.{command_of, commands_of, edits_of, log_through, script_log, told_from, told_within, script_told, is_told_of}
use Rattle.run_laws.specs.RunLaws.{Fault, BadLine, UnendedText, fault_items, spoken_text, all_grounded, TellsAll, IsToldWithin}

-- ---- a log grows at its end

edit_more : (log : Log) (edit : Edit) → (more : Log) × (appended log edit ≡ log ++ more)
unfolding appended
edit_more log edit = by (append_answer log edit)
  where
    by : (answer : Edited) → (more : Log) × (left_by log edit answer ≡ log ++ more)
    by (Made version) = (edit ∷ [], refl)
    by (Same version) = ([], sym (append-nil log))
    by (Absent version) = ([], sym (append-nil log))
    by Full = ([], sym (append-nil log))
    by TooLong = ([], sym (append-nil log))
    by TooMany = ([], sym (append-nil log))

command_more : (log : Log) (command : Command) → (more : Log) × (log_after log command ≡ log ++ more)
unfolding log_after
command_more log (EditCommand edit) = edit_more log edit
command_more log (ReportCommand name) = ([], sym (append-nil log))
command_more log CheckCommand = ([], sym (append-nil log))
command_more log (FlatCommand name) = ([], sym (append-nil log))
command_more log (CarryCommand view judgement) = ([], sym (append-nil log))
command_more log LogCommand = ([], sym (append-nil log))
command_more log BlankCommand = ([], sym (append-nil log))

pub through_more : (log : Log) (commands : List Command) → (more : Log) × (log_through log commands ≡ log ++ more)
through_more log [] = ([], sym (append-nil log))
through_more log (command ∷ commands) =
    let first = command_more log command in
    let later = through_more (log_after log command) commands in
    (first.0 ++ later.0, later.1 ∙ ap (λ (z : Log). z ++ later.0) first.1 ∙ append_assoc log first.0 later.0)

-- ---- the commands of a script and their edits

commands_shape : (commands : List Command) (fault : Option Fault) → commands_of (map Spoken commands ++ fault_items fault) ≡ commands
commands_shape [] None = refl
commands_shape [] (Some (BadLine line)) = refl
commands_shape [] (Some (UnendedText line)) = refl
commands_shape (command ∷ commands) fault = ap (λ (others : List Command). command ∷ others) (commands_shape commands fault)

through_edits : (log : Log) (commands : List Command) → log_through log commands ≡ appended_all log (edits_of commands)
unfolding log_after appended_all
through_edits log [] = refl
through_edits log (EditCommand edit ∷ commands) = through_edits (appended log edit) commands
through_edits log (ReportCommand name ∷ commands) = through_edits log commands
through_edits log (CheckCommand ∷ commands) = through_edits log commands
through_edits log (FlatCommand name ∷ commands) = through_edits log commands
through_edits log (CarryCommand view judgement ∷ commands) = through_edits log commands
through_edits log (LogCommand ∷ commands) = through_edits log commands
through_edits log (BlankCommand ∷ commands) = through_edits log commands

module _ (bytes : List ℕ) (commands : List Command) (fault : Option Fault) (is : script_of bytes ≡ map Spoken commands ++ fault_items fault) where
  spoken : commands_of (script_of bytes) ≡ commands
  spoken = ap commands_of is ∙ commands_shape commands fault

  pub log_of_edits : script_log bytes ≡ appended_all [] (edits_of commands)
  unfolding script_log
  log_of_edits = ap (log_through []) spoken ∙ through_edits [] commands

  pub told_of_commands : (judging : Judging) → script_told judging bytes ≡ told_from judging [] commands
  unfolding script_told
  told_of_commands judging = ap (told_from judging []) spoken

-- a script that goes on makes further edits
pub log_goes_on : (bytes longer : List ℕ) (items : List Item) → script_of longer ≡ script_of bytes ++ items → (more : Log) × (script_log longer ≡ script_log bytes ++ more)
unfolding script_log
log_goes_on bytes longer items is =
    let later = through_more (log_through [] (commands_of (script_of bytes))) (commands_of items) in (
      later.0,
      ap (λ (all : List Item). log_through [] (commands_of all)) is
          ∙ ap (log_through []) (filter_map-append command_of (script_of bytes) items)
          ∙ fold-append log_after [] (commands_of (script_of bytes)) (commands_of items)
          ∙ later.1,
    )

-- ---- what is told is grounded at its version

option_all : (p : Telling → Bool) (o : Option Telling) (tellings : List Telling) → list_all p (cons_option o []) ≡ true → list_all p tellings ≡ true → list_all p (cons_option o tellings) ≡ true
option_all p None tellings h g = g
option_all p (Some t) tellings h g = and_from (p t) (list_all p tellings) (and_parts (p t) true h).0 g

module _ (dependencies : Dependencies) where
  told_at : (log more : Log) (name : Name) → list_all (is_told_of dependencies (log ++ more)) (cons_option (telling_of dependencies log name) []) ≡ true
  told_at log more name = by (is_grounded dependencies (library_of log) name) refl
    where
      past : nat_le (length log) (length (log ++ more)) ≡ true
      past = let e = length-append log more in le-leb (length log) (length (log ++ more)) (omega (arith, e))

      then : is_grounded dependencies (library_of (take (length log) (log ++ more))) name ≡ is_grounded dependencies (library_of log) name
      then = ap (λ (l : Log). is_grounded dependencies (library_of l) name) (take_front log more (length log) (omega arith) ∙ take_length log)

      by : (b : Bool) → is_grounded dependencies (library_of log) name ≡ b
          → list_all (is_told_of dependencies (log ++ more)) (cons_option (cond b (Some (record { name = name; version = length log })) None) []) ≡ true
      by true e =
          and_from (is_told_of dependencies (log ++ more) (record { name = name; version = length log })) true
          (and_from (nat_le (length log) (length (log ++ more))) (is_grounded dependencies (library_of (take (length log) (log ++ more))) name) past (then ∙ e)) refl
      by false e = refl

  parts_at : (log more : Log) (text : Name → List ℕ) (names : List Name)
      → list_all (is_told_of dependencies (log ++ more)) (parts_told (map (λ (name : Name). part_about dependencies log name (text name)) names)) ≡ true
  parts_at log more text [] = refl
  parts_at log more text (name ∷ names) = option_all (is_told_of dependencies (log ++ more)) (telling_of dependencies log name) _ (told_at log more name) (parts_at log more text names)

module _ (judging : Judging) where
  command_at : (log more : Log) (command : Command) → list_all (is_told_of judging.dependencies (log ++ more)) (command_told judging log command) ≡ true
  unfolding command_parts
  command_at log more (EditCommand edit) = refl
  command_at log more (ReportCommand name) = told_at judging.dependencies log more name
  command_at log more CheckCommand = parts_at judging.dependencies log more (report_text judging log) (names_of (library_of log))
  command_at log more (FlatCommand name) = told_at judging.dependencies log more name
  command_at log more (CarryCommand view judgement) = told_at judging.dependencies log more view
  command_at log more LogCommand = refl
  command_at log more BlankCommand = refl

  from_at : (log : Log) (commands : List Command) → list_all (is_told_of judging.dependencies (log_through log commands)) (told_from judging log commands) ≡ true
  unfolding told_from
  from_at log [] = refl
  from_at log (command ∷ commands) =
      let more = through_more log (command ∷ commands) in
      let is_told : Telling → Bool = is_told_of judging.dependencies (log_through log (command ∷ commands)) in
      list_all-append is_told (command_told judging log command) (told_from judging (log_after log command) commands)
      ∙ and_from (list_all is_told (command_told judging log command)) (list_all is_told (told_from judging (log_after log command) commands))
      (subst (λ (l : Log). list_all (is_told_of judging.dependencies l) (command_told judging log command) ≡ true) (sym more.1) (command_at log more.0 command))
      (from_at (log_after log command) commands)

  pub tellings_are_grounded : (bytes : List ℕ) → list_all (is_told_of judging.dependencies (script_log bytes)) (script_told judging bytes) ≡ true
  unfolding script_log script_told
  tellings_are_grounded bytes = from_at [] (commands_of (script_of bytes))

-- ---- all grounded modules are told

all_parts : (judging : Judging) (log : Log) (text : Name → List ℕ) (names : List Name)
    → parts_told (map (λ (name : Name). part_about judging.dependencies log name (text name)) names)
    ≡ map (λ (name : Name). record { name = name; version = version_of log }) (filter (is_grounded judging.dependencies (library_of log)) names)
all_parts judging log text [] = refl
all_parts judging log text (name ∷ names) = by (is_grounded judging.dependencies (library_of log) name) _ _ (all_parts judging log text names)
  where
    by : (b : Bool) (tellings : List Telling) (others : List Name) → tellings ≡ map (λ (other : Name). record { name = other; version = version_of log }) others
        → cons_option (cond b (Some (record { name = name; version = version_of log })) None) tellings
        ≡ map (λ (other : Name). record { name = other; version = version_of log }) (cond b (name ∷ others) others)
    by true tellings others e = ap (λ (ts : List Telling). record { name = name; version = version_of log } ∷ ts) e
    by false tellings others e = e

one_option : (o : Option Telling) → cons_option o [] ≡ option_to_list o
one_option None = refl
one_option (Some t) = refl

pub commands_tell_all : (judging : Judging) (log : Log) → TellsAll judging log
unfolding command_parts
commands_tell_all judging log = record {
  report = λ name. one_option (telling_of judging.dependencies log name);
  flat = λ name. one_option (telling_of judging.dependencies log name);
  carry = λ view judgement. one_option (telling_of judging.dependencies log view);
  check = all_parts judging log (report_text judging log) (names_of (library_of log));
}

-- ---- folders

abbrev pub module_parts : Judging → Loading → List Part
module_parts judging loading = map (λ (name : Name). part_about judging.dependencies loading.log name (module_line judging loading name)) (names_of (library_of loading.log))

silent_told : (damaged : List Damaged) (parts : List Part) → parts_told (map (λ (d : Damaged). silent_part (damaged_line d)) damaged ++ parts) ≡ parts_told parts
silent_told [] parts = refl
silent_told (d ∷ damaged) parts = silent_told damaged parts

last_told : (parts : List Part) (text : List ℕ) → parts_told (parts ++ silent_part text ∷ []) ≡ parts_told parts
last_told parts text = filter_map-append (λ (part : Part). part.telling) parts (silent_part text ∷ []) ∙ append-nil (parts_told parts)

loading_told : (judging : Judging) (loading : Loading) (damaged : List Damaged) (counts : List ℕ)
    → parts_told (map (λ (d : Damaged). silent_part (damaged_line d)) damaged ++ module_parts judging loading ++ silent_part counts ∷ []) ≡ parts_told (module_parts judging loading)
loading_told judging loading damaged counts =
    last_told (map (λ (d : Damaged). silent_part (damaged_line d)) damaged ++ module_parts judging loading) counts ∙ silent_told damaged (module_parts judging loading)

module _ (judging : Judging) (files : List File) where
  folder_parts_told : folder_told judging files ≡ parts_told (module_parts judging (load files))
  unfolding folder_told
  folder_parts_told = loading_told judging (load files) (load files).damaged _

  pub folders_tell_all : folder_told judging files ≡ all_grounded judging (load files).log
  folders_tell_all = folder_parts_told ∙ all_parts judging (load files).log (module_line judging (load files)) (names_of (library_of (load files).log))

  pub folder_tellings_are_grounded : list_all (is_told_of judging.dependencies (load files).log) (folder_told judging files) ≡ true
  folder_tellings_are_grounded =
      ap (list_all (is_told_of judging.dependencies (load files).log)) folder_parts_told
      ∙ subst (λ (l : Log). list_all (is_told_of judging.dependencies l) (parts_told (module_parts judging (load files))) ≡ true) (append-nil (load files).log)
      (parts_at judging.dependencies (load files).log [] (module_line judging (load files)) (names_of (library_of (load files).log)))

-- ---- what is told where so many bytes are written

past_by : (b : Bool) (tellings : List Telling) → b ≡ false → cond b [] tellings ≡ tellings
past_by true tellings e = absurd (true≢false e)
past_by false tellings e = refl

same_either : (b : Bool) (one other : List Telling) → (b ≡ false → one ≡ other) → cond b [] one ≡ cond b [] other
same_either true one other f = refl
same_either false one other f = f refl

not_zero : (count low : ℕ) → low < count → nat_eq count 0 ≡ false
not_zero count low h = ⊎_elim (λ e. let z = eqb-true count 0 e in absurd (omega (arith, h, z))) (λ e. e) (cases_Bool (nat_eq count 0))

module _ (judging : Judging) where
  pub told_past : (count : ℕ) (log : Log) (commands more : List Command) → length (spoken_text judging log commands) < count
      → told_within judging count log (commands ++ more)
      ≡ told_from judging log commands ++ told_within judging (count - length (spoken_text judging log commands)) (log_through log commands) more
  unfolding told_within told_from spoken_text
  told_past count log [] more h = ap (λ (k : ℕ). told_within judging k log more) (omega arith)
  told_past count log (command ∷ commands) more h =
      let own : ℕ = length (command_text judging log command) in
      let rest : ℕ = length (spoken_text judging (log_after log command) commands) in
      let both = length-append (command_text judging log command) (spoken_text judging (log_after log command) commands) in
      past_by (nat_eq count 0) _ (not_zero count _ h)
      ∙ ap (λ (ts : List Telling). command_told judging log command ++ ts)
      (told_past (count - own) (log_after log command) commands more (omega (arith, h, both))
      ∙ ap (λ (k : ℕ). told_from judging (log_after log command) commands ++ told_within judging k (log_through (log_after log command) commands) more) (omega (arith, both)))
      ∙ sym (append_assoc (command_told judging log command) _ _)

  pub told_inside : (count : ℕ) (log : Log) (commands more : List Command) → count ≤ length (spoken_text judging log commands)
      → told_within judging count log (commands ++ more) ≡ told_within judging count log commands
  unfolding told_within spoken_text
  told_inside count log [] more h = none more count h
    where
      none : (others : List Command) (k : ℕ) → k ≤ 0 → told_within judging k log others ≡ []
      none [] k g = refl
      none (command ∷ others) zero g = refl
      none (command ∷ others) (suc k) g = absurd (omega (arith, g))
  told_inside count log (command ∷ commands) more h =
      let both = length-append (command_text judging log command) (spoken_text judging (log_after log command) commands) in
      same_either (nat_eq count 0) _ _
      (λ e. ap (λ (ts : List Telling). command_told judging log command ++ ts) (told_inside (count - length (command_text judging log command)) (log_after log command) commands more (omega (arith, h, both))))

pub beginnings_tell : (judging : Judging) (count : ℕ) (log : Log) (commands more : List Command) → IsToldWithin judging count log commands more
beginnings_tell judging count log commands more = record { past = told_past judging count log commands more; within = told_inside judging count log commands more }
