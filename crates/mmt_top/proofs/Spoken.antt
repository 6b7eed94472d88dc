-- What playing a command comes to, from what the front's calls leave.
use Rattle.std.proofs.Common.{◌≡◌, ℕ, Bool, true, false, cond, List, [], ◌++◌, append-nil, map, Option, Some, None, Result, Ok, Err, inl, inr, refl, sym, ap, ◌∙◌, subst}
use Rattle.std.specs.Prelude.{IfOk, IfSome, OnOk, OnErr}
use Rattle.std.specs.List.{cons_option}
use Rattle.std.proofs.lemmas.Option.{same_Some}
use Rattle.name_meaning.specs.Names.{Name, Text}
use Rattle.list_laws.proofs.Members.{Member, in_map, in_filter_map, place_member}
use Rattle.edit_log_meaning.specs.Log.{Edit, Log, library_of, names_of, version_of}
use Rattle.edit_log_meaning.specs.Append.{appended}
use Rattle.module_graph_meaning.specs.Walks.{is_grounded}
use Rattle.text_meaning.specs.Dependencies.{dependencies}
use Rattle.board_meaning.specs.Events.{History, log_of}
use Rattle.board_meaning.specs.Standing.{stands}
use Rattle.board_meaning.specs.Legal.{IsLegal}
use Rattle.printing_meaning.specs.EditLines.{edited_line, log_text}
use Rattle.run_meaning.specs.ScriptCommands.{Command, EditCommand, ReportCommand, CheckCommand, FlatCommand, CarryCommand, LogCommand, BlankCommand}
use Rattle.run_meaning.specs.ScriptOutput.{report_text, flat_text, carry_text, report_part, command_parts, command_text, command_told, log_after}
use Rattle.run_meaning.specs.Parts.{Telling, Part, telling_of, parts_text}
use Rattle.install_laws.specs.ScriptBacking.{StandsAt}
use Rattle.judged_meaning.specs.JudgingByRules.{rules}
use Rattle.board_front.specs.Staying.{AllStand, Edits, IsFront, MayEdit, StandsIfGrounded, Stays}
use Rattle.board_front.proofs.Histories.{stays_same}
use Rattle.mmt_top.specs.Plays.{Plays}
use Rattle.mmt_top.specs.Answered.{Answers, IsAnswered}

-- ---- what stands

-- A command that tells nothing.
silent_stood : (before later after : History) (command : Command) → after ≡ before ++ later → command_told rules (log_of before) command ≡ []
    → StandsAt rules after (log_of before) command
silent_stood before later after command begins none = record {
  beginning = before;
  later = later;
  goes_on = begins;
  log_is = refl;
  stand = λ place telling s. absurd (subst (λ tellings. Member telling tellings) none (place_member (command_told rules (log_of before) command) place telling s));
}

-- A command that tells of names that stand at its end.
told_stood : (after : History) (log : Log) (command : Command) → log_of after ≡ log
    → ((telling : Telling) → Member telling (command_told rules log command) → stands dependencies after telling.name ≡ true) → StandsAt rules after log command
told_stood after log command logged all = record {
  beginning = after;
  later = [];
  goes_on = sym (append-nil after);
  log_is = logged;
  stand = λ place telling s. all telling (place_member (command_told rules log command) place telling s);
}

-- What is told of a name that stands if it is grounded.
name_told : (after : History) (log : Log) (name : Name) (telling : Telling) → log_of after ≡ log → StandsIfGrounded after name → telling_of dependencies log name ≡ Some telling
    → stands dependencies after telling.name ≡ true
name_told after log name telling logged s h = by (is_grounded dependencies (library_of log) name) refl h
  where
    by : (b : Bool) → is_grounded dependencies (library_of log) name ≡ b → cond b (Some (record { name = name; version = version_of log })) None ≡ Some telling
        → stands dependencies after telling.name ≡ true
    by true g e =
        subst (λ (t : Telling). stands dependencies after t.name ≡ true) (same_Some _ _ e)
        (s (subst (λ (l : Log). is_grounded dependencies (library_of l) name ≡ true) (sym logged) g))
    by false g e = absurd (cc)

option_member : (o : Option Telling) (telling : Telling) → Member telling (cons_option o []) → o ≡ Some telling
option_member None telling m = absurd m
option_member (Some t) telling (inl e) = ap Some (sym e)
option_member (Some t) telling (inr m) = absurd m

name_stood : (before after : History) (name : Name) (command : Command) → Stays before after → StandsIfGrounded after name
    → command_told rules (log_of before) command ≡ cons_option (telling_of dependencies (log_of before) name) [] → StandsAt rules after (log_of before) command
name_stood before after name command stays s told =
    told_stood after (log_of before) command stays.logged
    (λ telling m. name_told after (log_of before) name telling stays.logged s
    (option_member (telling_of dependencies (log_of before) name) telling (subst (λ tellings. Member telling tellings) told m)))

names_stood : (before after : History) → Stays before after → AllStand after (names_of (library_of (log_of before))) → StandsAt rules after (log_of before) CheckCommand
unfolding command_parts
names_stood before after stays all =
    told_stood after (log_of before) CheckCommand stays.logged
    (λ telling m.
    let part = in_filter_map (λ (part : Part). part.telling) (map (report_part rules (log_of before)) (names_of (library_of (log_of before)))) telling m in
    let name = in_map (report_part rules (log_of before)) (names_of (library_of (log_of before))) part.0 part.1 in
    name_told after (log_of before) name.0 telling stays.logged (all name.0 name.1) (sym (ap (λ (part : Part). part.telling) name.2) ∙ part.2))

-- ---- commands without an edit

stays_played : (before after : History) (command : Command) → log_after (log_of before) command ≡ log_of before → Stays before after
    → StandsAt rules after (log_of before) command → Plays command before after
stays_played before after command same stays stood = record {
  goes_on = record { legal = stays.legal; later = stays.later; begins = stays.begins; logged = stays.logged ∙ sym same };
  stood = stood;
}

module _ {E : Type 0} (log : Log) (before after : History) (front : IsFront log before) where
  -- One part, about a name.
  about_name : (name : Name) (text : List ℕ) (command : Command) (result : Result (List ℕ) E)
      → log_after (log_of before) command ≡ log_of before → log_after log command ≡ log
      → command_told rules (log_of before) command ≡ cons_option (telling_of dependencies (log_of before) name) []
      → command_text rules log command ≡ text ++ [] → Stays before after
      → IfOk result (λ line. line ≡ text) → OnOk result (StandsIfGrounded after name) → Answers command log log before after result
  about_name name text command (Ok line) same kept told is stays lines stand = record {
    plays = stays_played before after command same stays (name_stood before after name command stays stand told);
    logged = sym kept;
    printed = lines ∙ sym (append-nil text) ∙ sym is;
  }
  about_name name text command (Err fault) same kept told is stays lines stand = inl stays

  pub report_answers : (name : Name) (result : Result (List ℕ) E) → Stays before after → IfOk result (λ line. line ≡ report_text rules log name)
      → OnOk result (StandsIfGrounded after name) → Answers (ReportCommand name) log log before after result
  unfolding log_after command_parts
  report_answers name result stays lines stand = about_name name (report_text rules log name) (ReportCommand name) result refl refl refl refl stays lines stand

  pub flat_answers : (name : Name) (result : Result (List ℕ) E) → Stays before after → IfOk result (λ line. line ≡ flat_text rules log name)
      → OnOk result (StandsIfGrounded after name) → Answers (FlatCommand name) log log before after result
  unfolding log_after command_parts
  flat_answers name result stays lines stand = about_name name (flat_text rules log name) (FlatCommand name) result refl refl refl refl stays lines stand

  pub carry_answers : (view : Name) (judgement : Text) (result : Result (List ℕ) E) → Stays before after → IfOk result (λ line. line ≡ carry_text rules log view judgement)
      → OnOk result (StandsIfGrounded after view) → Answers (CarryCommand view judgement) log log before after result
  unfolding log_after command_parts
  carry_answers view judgement result stays lines stand =
      about_name view (carry_text rules log view judgement) (CarryCommand view judgement) result refl refl refl refl stays lines stand

  pub check_answers : (result : Result (List ℕ) E) → Stays before after
      → IfOk result (λ lines. lines ≡ parts_text (map (report_part rules log) (names_of (library_of log))))
      → OnOk result (AllStand after (names_of (library_of log))) → Answers CheckCommand log log before after result
  unfolding log_after command_parts
  check_answers (Ok line) stays lines stand = record {
    plays = stays_played before after CheckCommand refl stays
        (names_stood before after stays (subst (λ (l : Log). AllStand after (names_of (library_of l))) front.logged stand));
    logged = refl;
    printed = lines;
  }
  check_answers (Err fault) stays lines stand = inl stays

-- ---- commands that leave the board

module _ (log : Log) (history : History) (front : IsFront log history) where
  at_rest : Stays history history
  at_rest = stays_same history front.legal

  pub log_answers : {E : Type 0} (result : Result (List ℕ) E) → IfOk result (λ text. text ≡ log_text log) → Answers LogCommand log log history history result
  unfolding log_after command_parts
  log_answers (Ok text) is = record {
    plays = stays_played history history LogCommand refl at_rest (silent_stood history at_rest.later history LogCommand at_rest.begins refl);
    logged = refl;
    printed = is ∙ sym (append-nil (log_text log));
  }
  log_answers (Err fault) is = inl at_rest

  pub blank_answered : (lines : List ℕ) → lines ≡ [] → IsAnswered BlankCommand log log history history lines
  unfolding log_after command_parts
  blank_answered lines is = record {
    plays = stays_played history history BlankCommand refl at_rest (silent_stood history at_rest.later history BlankCommand at_rest.begins refl);
    logged = refl;
    printed = is;
  }

-- ---- edits

pub edit_answers : {E : Type 0} (edit : Edit) (log next : Log) (before after : History) (result : Result (List ℕ) E)
    → OnOk result (Edits edit before after) → OnOk result (next ≡ appended log edit) → IfOk result (λ line. line ≡ edited_line log edit)
    → OnErr result (MayEdit edit before after) → Answers (EditCommand edit) log next before after result
unfolding log_after command_parts
edit_answers edit log next before after (Ok line) edits logged lines so_far = record {
  plays = record { goes_on = edits; stood = silent_stood before edits.later after (EditCommand edit) edits.begins refl };
  logged = logged;
  printed = lines ∙ sym (append-nil (edited_line log edit));
}
edit_answers edit log next before after (Err fault) edits logged lines so_far = so_far

pub edit_legal : {E : Type 0} (edit : Edit) (before after : History) (result : Result (List ℕ) E) → OnOk result (Edits edit before after) → OnErr result (MayEdit edit before after)
    → IsLegal dependencies after
edit_legal edit before after (Ok line) made so_far = made.legal
edit_legal edit before after (Err fault) made (inl stays) = stays.legal
edit_legal edit before after (Err fault) made (inr edits) = edits.legal

-- What is said of a command, where there is one.
pub command_map : {P Q : Command → Type 0} (o : Option Command) → ((command : Command) → P command → Q command) → IfSome o P → IfSome o Q
command_map None f h = tt
command_map (Some command) f h = f command h
