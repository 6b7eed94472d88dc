-- A whole session, from what its turns did.
use Rattle.std.proofs.Common.{◌≡◌, ℕ, false, List, [], ◌∷◌, ◌++◌, ◌-◌, length, map, refl, sym, ap, ◌∙◌, subst, append_assoc, length-append, arith}
use Rattle.std.proofs.lemmas.List.{map-append}
use Rattle.std.specs.Prelude.{Option, Some, None, IfSome, IsSome}
use Rattle.mmt_outside.specs.Bytes.{Taken, appended, preceded}
use Rattle.mmt_outside.proofs.Bytes.{appended-nil, appended-appended}
use Rattle.text_meaning.specs.Dependencies.{dependencies}
use Rattle.board_meaning.specs.Events.{History, log_of}
use Rattle.board_meaning.specs.Legal.{IsLegal}
use Rattle.run_meaning.specs.ScriptItems.{Spoken, script_of}
use Rattle.run_meaning.specs.ScriptOutput.{command_text, has_fault, output_of}
use Rattle.run_meaning.specs.ScriptLogs.{commands_of, log_through, script_log}
use Rattle.run_meaning.specs.Backing.{BacksScript}
use Rattle.run_laws.specs.RunLaws.{spoken_text}
use Rattle.install_laws.proofs.Played.{played_is_backed}
use Rattle.judged_meaning.specs.JudgingByRules.{rules}
use Rattle.judged_meaning.specs.Outputs.{play_output}
use Rattle.board_front.specs.Staying.{GoesOn, Stays}
use Rattle.script_reader.specs.Reading.{Reading, to_come}
use Rattle.run_status.specs.declared.status.Status.{Status}
use Rattle.run_status.specs.declared.status.Status.TheVariants.{Done, Memory}
use Rattle.folder_front.specs.Checked.{Begins}
use Rattle.mmt_top.specs.Session.{BacksWritten, EditsAre, EndsAs, Leaves, SessionEnds, SessionGoesOn, TurnGoesOn, TurnTells, items_to_come}
use Rattle.mmt_top.proofs.Commands.{spoken_append, spoken_one}
use Rattle.mmt_top.proofs.Played.{begins_through, ends_behind, leaves_later, memory_fails, plays_more, plays_none}
use Rattle.script_reader.proofs.TextSoFar.{if_some_map}
use Rattle.script_reader.proofs.Puts.{not_told}

-- the session so far: where the bytes to come were told, they are, and what was written is what goes before their output
abbrev pub Played : Option Taken → Option Taken → Option (List ℕ) → Option (List ℕ) → History → History → Reading → Reading → Type 0
Played before now come after first second reading later =
    IfSome come (λ bytes. IfSome after (λ rest. SessionGoesOn before now bytes first second reading later rest) × IsSome after)

pub played_nothing : (before : Option Taken) (come : Option (List ℕ)) (history : History) (reading : Reading) → IsLegal dependencies history
    → Played before before come come history history reading reading
unfolding spoken_text
played_nothing before None history reading legal = tt
played_nothing before (Some bytes) history reading legal = (
  record { commands = []; items = refl; took = sym (appended-nil before); plays = plays_none history legal },
  refl,
)

goes_further : (before now new : Option Taken) (bytes rest left : List ℕ) (first second third : History) (reading later last : Reading)
    → SessionGoesOn before now bytes first second reading later rest → TurnGoesOn now new rest second third later last left
    → SessionGoesOn before new bytes first third reading last left
goes_further before now new bytes rest left first second third reading later last all one = record {
  commands = all.commands ++ one.command ∷ [];
  items = all.items ∙ ap (λ items. map Spoken all.commands ++ items) one.items
      ∙ sym (append_assoc (map Spoken all.commands) (Spoken one.command ∷ []) (items_to_come last left))
      ∙ ap (λ items. items ++ items_to_come last left) (sym (map-append Spoken all.commands (one.command ∷ [])));
  took = one.took ∙ ap (λ t. appended t (command_text rules (log_of second) one.command)) all.took
      ∙ appended-appended before (spoken_text rules (log_of first) all.commands) (command_text rules (log_of second) one.command)
      ∙ ap (λ text. appended before (spoken_text rules (log_of first) all.commands ++ text))
      (sym (spoken_one rules (log_of second) one.command) ∙ ap (λ l. spoken_text rules l (one.command ∷ [])) all.plays.goes_on.logged)
      ∙ ap (appended before) (sym (spoken_append rules (log_of first) all.commands (one.command ∷ [])));
  plays = plays_more all.commands one.command first second third all.plays one.plays;
}

-- one more turn
pub played_more : (before now new : Option Taken) (come after left : Option (List ℕ)) (first second third : History) (reading later last : Reading)
    → Played before now come after first second reading later
    → IfSome after (λ bytes. TurnTells None now new bytes left second third later last)
    → Played before new come left first third reading last
played_more before now new None after left first second third reading later last played tells = tt
played_more before now new (Some bytes) None left first second third reading later last played tells = absurd (not_told played.1)
played_more before now new (Some bytes) (Some rest) None first second third reading later last played tells = absurd (not_told tells.1)
played_more before now new (Some bytes) (Some rest) (Some left) first second third reading later last played tells =
    (goes_further before now new bytes rest left first second third reading later last played.0 tells.0, refl)

-- the last turn
pub played_end : (status : Status) (before now new : Option Taken) (come after left : Option (List ℕ)) (first second third : History) (reading later last : Reading)
    → Played before now come after first second reading later
    → IfSome after (λ bytes. TurnTells (Some status) now new bytes left second third later last)
    → IfSome come (λ bytes. SessionEnds status before new (items_to_come reading bytes) first third)
played_end status before now new None after left first second third reading later last played tells = tt
played_end status before now new (Some bytes) None left first second third reading later last played tells = absurd (not_told played.1)
played_end status before now new (Some bytes) (Some rest) left first second third reading later last played tells =
    subst (λ items. SessionEnds status before new items first third) (sym played.0.items)
    (ends_behind status before now new played.0.commands (items_to_come later rest) first second third played.0.plays played.0.took tells.0)

append_empty : (xs ys : List ℕ) → xs ++ ys ≡ [] → ys ≡ []
append_empty [] ys e = e
append_empty (x ∷ xs) ys e = absurd cc

-- at the end of the input nothing is left of the source
nothing_left : (buffered : List ℕ) (left : Option (List ℕ)) → IsSome (preceded buffered left) → IfSome (preceded buffered left) (λ rest. rest ≡ []) → left ≡ Some []
nothing_left buffered None told none = absurd (not_told told)
nothing_left buffered (Some left) told none = ap (λ (bs : List ℕ). Some bs) (append_empty buffered left none)

played_all : (before now new : Option Taken) (come after left : Option (List ℕ)) (first second third : History) (reading later last : Reading)
    → Played before now come after first second reading later
    → IfSome after (λ bytes. TurnTells (Some Done) now new bytes left second third later last)
    → IfSome come (λ bytes. IfSome left (λ rest. rest ≡ []) × IsSome left)
played_all before now new None after left first second third reading later last played tells = tt
played_all before now new (Some bytes) None left first second third reading later last played tells = absurd (not_told played.1)
played_all before now new (Some bytes) (Some rest) left first second third reading later last played tells = tells.1 refl

-- the script before anything was read
abbrev pub start : Reading
start = record { buffered = []; line = 1; is_spent = false }

pub played_done : (before now new : Option Taken) (come after : Option (List ℕ)) (buffered : List ℕ) (left : Option (List ℕ)) (first second third : History) (reading later last : Reading)
    → Played before now come after first second reading later
    → IfSome after (λ bytes. TurnTells (Some Done) now new bytes (preceded buffered left) second third later last)
    → IfSome come (λ bytes. left ≡ Some [])
played_done before now new come after buffered left first second third reading later last played tells =
    if_some_map come (λ bytes. IfSome (preceded buffered left) (λ rest. rest ≡ []) × IsSome (preceded buffered left)) (λ bytes. left ≡ Some [])
    (λ bytes all. nothing_left buffered left all.1 all.0)
    (played_all before now new come after (preceded buffered left) first second third reading later last played tells)

pub played_start : (before : Option Taken) (left : Option (List ℕ)) (history : History) (script : Reading) → IsLegal dependencies history → script ≡ start
    → Played before before (to_come start left) (to_come script left) history history start script
played_start before left history script legal is =
    subst (λ reading. Played before before (to_come start left) (to_come reading left) history history start reading) (sym is)
    (played_nothing before (to_come start left) history start legal)

-- ---- the board that is handed back

-- The items of the whole script.
pub whole_script : (bytes : List ℕ) → items_to_come start bytes ≡ script_of bytes
unfolding script_of
whole_script bytes = refl

pub whole_log : (bytes : List ℕ) → log_through [] (commands_of (script_of bytes)) ≡ script_log bytes
unfolding script_log
whole_log bytes = refl

count_of : (old new written : List ℕ) → new ≡ old ++ written → length new - length old ≡ length written
count_of old new written e = omega (arith, ap length e, length-append old written)

-- What was written is backed.
pub backs_written : (status : Status) (before now : Option Taken) (bytes : List ℕ) (history : History) → Leaves status before now (script_of bytes) [] history
    → BacksWritten before now bytes history
unfolding log_of
backs_written status None now bytes history board = tt
backs_written status (Some old) None bytes history board = tt
backs_written status (Some old) (Some new) bytes history board =
    subst (λ count. BacksScript rules history count bytes) (sym (count_of old.bytes new.bytes board.written (same board.took)))
    (played_is_backed rules history (length board.written) bytes board.stood)
  where
    same : {x y : List ℕ} → Some x ≡ Some y → x ≡ y
    same e = cc

-- The whole script, from the bytes to come at its start, on a board without an entry.
pub ended_whole : (status : Status) (before new : Option Taken) (left : Option (List ℕ)) (first last : History) → first ≡ []
    → IfSome (preceded [] left) (λ bytes. SessionEnds status before new (items_to_come start bytes) first last)
    → IfSome left (λ bytes. SessionEnds status before new (script_of bytes) [] last)
ended_whole status before new None first last empty ends = tt
ended_whole status before new (Some bytes) first last empty ends =
    subst (λ h. SessionEnds status before new (script_of bytes) h last) empty (subst (λ items. SessionEnds status before new items first last) (whole_script bytes) ends)

-- ---- what a session says at its end

module _ (status : Status) (before now : Option Taken) (left : Option (List ℕ)) (last : History) where
  -- The whole script was played, or a beginning of it.
  abbrev pub IsEnded : Type 0
  IsEnded = IfSome left (λ bytes. SessionEnds status before now (script_of bytes) [] last)

  pub ended_output : IsEnded → IfSome left (λ bytes. EndsAs status before now (play_output bytes) (has_fault (script_of bytes)))
  unfolding log_of output_of
  ended_output ends = if_some_map left (λ bytes. SessionEnds status before now (script_of bytes) [] last) (λ bytes. EndsAs status before now (play_output bytes) (has_fault (script_of bytes))) (λ bytes e. e.output) ends

  pub ended_edits : IsEnded → IfSome left (λ bytes. EditsAre status (script_log bytes) (log_of last))
  unfolding log_of script_log
  ended_edits ends = if_some_map left (λ bytes. SessionEnds status before now (script_of bytes) [] last) (λ bytes. EditsAre status (script_log bytes) (log_of last)) (λ bytes e. e.board.edits) ends

  pub ended_backs : IsEnded → IfSome left (λ bytes. BacksWritten before now bytes last)
  ended_backs ends =
      if_some_map left (λ bytes. SessionEnds status before now (script_of bytes) [] last) (λ bytes. BacksWritten before now bytes last)
      (λ bytes e. backs_written status before now bytes last e.board) ends

  pub ended_later : (after : History) → Stays last after → IsEnded → IfSome left (λ bytes. SessionEnds status before now (script_of bytes) [] after)
  ended_later after stays ends =
      if_some_map left (λ bytes. SessionEnds status before now (script_of bytes) [] last) (λ bytes. SessionEnds status before now (script_of bytes) [] after)
      (λ bytes e. record { output = e.output; board = leaves_later status before now (script_of bytes) [] last after e.board stays }) ends

-- Where nothing was read or written there is no edit on the board.
pub none_played : (before : Option Taken) (left : Option (List ℕ)) (last : History) → GoesOn [] [] last → IfSome left (λ bytes. SessionEnds Memory before before (script_of bytes) [] last)
unfolding log_of
none_played before None last goes_on = tt
none_played before (Some bytes) last goes_on =
    memory_fails before before (script_of bytes) [] last
    (record { legal = goes_on.legal; later = goes_on.later; begins = goes_on.begins; logged = refl })
    (subst (λ l. Begins l (log_through [] (commands_of (script_of bytes)))) (sym goes_on.logged) (begins_through [] (commands_of (script_of bytes)))) refl
