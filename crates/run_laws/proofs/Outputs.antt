-- The output of a script, and of a longer one.
use Rattle.std.proofs.Common.{◌≡◌, ℕ, false, true, List, [], ◌∷◌, ◌++◌, length, refl, sym, ap, ◌∙◌, arith, append_assoc}
use Rattle.std.specs.Prelude.{Option, Some, None, map}
use Rattle.edit_log_meaning.specs.Log.{Log}
use Rattle.printing_meaning.specs.Lines.{lines_of}
use Rattle.run_meaning.specs.Judging.{Judging}
use Rattle.run_meaning.specs.ScriptCommands.{Command}
use Rattle.run_meaning.specs.ScriptItems.{Item, Spoken, BadAt, UnendedAt, items_of, script_of}
use Rattle.run_meaning.specs.ScriptOutput.{command_text, log_after, output_from, output_of, has_fault}
use Rattle.run_laws.specs.RunLaws.{Fault, BadLine, UnendedText, fault_items, fault_text, spoken_text, IsPlayed, ends_in_feed, GoesOn}
use Rattle.run_laws.proofs.Lines.{lines_of-append}
use Rattle.run_laws.proofs.Items.{shape_within, items_of-append}
use Rattle.run_laws.proofs.Logs.{log_of_edits, told_of_commands, log_goes_on}

fault_output : (judging : Judging) (log : Log) (fault : Option Fault) → output_from judging log (fault_items fault) ≡ fault_text fault
unfolding output_from
fault_output judging log None = refl
fault_output judging log (Some (BadLine line)) = refl
fault_output judging log (Some (UnendedText line)) = refl

spoken_output : (judging : Judging) (log : Log) (commands : List Command) (fault : Option Fault)
    → output_from judging log (map Spoken commands ++ fault_items fault) ≡ spoken_text judging log commands ++ fault_text fault
unfolding output_from spoken_text
spoken_output judging log [] fault = fault_output judging log fault
spoken_output judging log (command ∷ commands) fault =
    ap (λ (text : List ℕ). command_text judging log command ++ text) (spoken_output judging (log_after log command) commands fault)
    ∙ sym (append_assoc (command_text judging log command) (spoken_text judging (log_after log command) commands) (fault_text fault))

pub output_is_in_order : (judging : Judging) (bytes : List ℕ) → IsPlayed judging bytes
unfolding script_of output_of
output_is_in_order judging bytes =
    let shape = shape_within (length (lines_of bytes)) 1 (lines_of bytes) in
    record {
      commands = shape.commands;
      fault = shape.fault;
      script = shape.is;
      output = ap (λ (items : List Item). output_from judging [] items) shape.is ∙ spoken_output judging [] shape.commands shape.fault;
      log = log_of_edits bytes shape.commands shape.fault shape.is;
      told = told_of_commands bytes shape.commands shape.fault shape.is judging;
    }

-- without a fault, what follows prints behind
pub record Behind (judging : Judging) (log : Log) (items more : List Item) : Type 0 where
  pub rest : List ℕ
  pub is : output_from judging log (items ++ more) ≡ output_from judging log items ++ rest

printed_behind : (judging : Judging) (log : Log) (items more : List Item) → has_fault items ≡ false → Behind judging log items more
unfolding output_from has_fault
printed_behind judging log [] more h = record { rest = output_from judging log more; is = refl }
printed_behind judging log (Spoken command ∷ items) more h =
    let later = printed_behind judging (log_after log command) items more h in
    record {
      rest = later.rest;
      is = ap (λ (text : List ℕ). command_text judging log command ++ text) later.is
          ∙ sym (append_assoc (command_text judging log command) (output_from judging (log_after log command) items) later.rest);
    }
printed_behind judging log (BadAt line ∷ items) more h = absurd cc
printed_behind judging log (UnendedAt line ∷ items) more h = absurd cc

pub longer_begins_with_it : (judging : Judging) (bytes more : List ℕ) → ends_in_feed bytes ≡ true → has_fault (script_of bytes) ≡ false → GoesOn judging bytes (bytes ++ more)
unfolding script_of output_of
longer_begins_with_it judging bytes more whole h =
    let follow = items_of-append (length (lines_of bytes)) 1 (lines_of bytes) (lines_of more) (omega arith) h in
    let script : items_of 1 (lines_of (bytes ++ more)) ≡ items_of 1 (lines_of bytes) ++ items_of follow.line (lines_of more) =
    ap (λ (lines : List (List ℕ)). items_of 1 lines) (lines_of-append bytes more whole) ∙ follow.is in
    let behind = printed_behind judging [] (items_of 1 (lines_of bytes)) (items_of follow.line (lines_of more)) h in
    let further = log_goes_on bytes (bytes ++ more) (items_of follow.line (lines_of more)) script in
    record {
      items = items_of follow.line (lines_of more);
      script = script;
      rest = behind.rest;
      output = ap (λ (items : List Item). output_from judging [] items) script ∙ behind.is;
      edits = further.0;
      log = further.1;
    }
