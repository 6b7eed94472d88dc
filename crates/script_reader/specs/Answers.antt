-- What a call for the next command answers.
use Rattle.std.specs.Prelude.{◌≡◌, ℕ, List, [], ◌∷◌, IfSome, Result, Ok, Err, Some, None}
use Rattle.std.specs.declared.option.Option.{Option}
use Rattle.mmt_outside.specs.Faults.{Rose}
use Rattle.printing_meaning.specs.Lines.{lines_of}
use Rattle.printing_meaning.specs.ScriptLines.{line_after}
use Rattle.run_meaning.specs.ScriptCommands as meant
use Rattle.script_reader.specs.Commands.{read_command}
use Rattle.script_reader.specs.Texts.{StaysTold}
use Rattle.script_reader.specs.declared.command.Command.{Command}
use Rattle.script_reader.specs.declared.fault.ScriptFault.{ScriptFault}
use Rattle.script_reader.specs.declared.fault.ScriptFault.TheVariants.{Bad, Unended, Failed, Spent, Memory}
use Rattle.script_reader.specs.declared.next.FirstLine.{FirstLine}
use Rattle.script_reader.specs.declared.next.FirstLine.TheVariants.{Whole, TooLong, Missing}

-- A line was read, which is the first of the lines to come; or that line is too long for a script; or there is none.
abbrev pub IsFirstLine : FirstLine → Option (List ℕ) → Option (List ℕ) → Type 0
IsFirstLine (Whole line) before after =
    IfSome before (λ bytes. IfSome after (λ rest. lines_of bytes ≡ line.items ∷ lines_of rest)) × StaysTold before after
IsFirstLine TooLong before after = IfSome before (λ bytes. meant.next_of (lines_of bytes) ≡ meant.Bad)
IsFirstLine Missing before after =
    IfSome before (λ bytes. bytes ≡ []) × IfSome after (λ bytes. bytes ≡ []) × StaysTold before after

-- What is left after a command is what the definitions leave, and the count of lines went on over what it took.
abbrev pub Leaves : meant.Next → meant.Command → List (List ℕ) → Option (List ℕ) → ℕ → ℕ → Type 0
Leaves next spoken lines after line now =
    IfSome after (λ rest. (next ≡ meant.Gives spoken (lines_of rest)) × (now ≡ line_after line lines (lines_of rest)))

-- This is what the lines to come give next; where it is no command, nothing is left of the script.
abbrev pub IsNext : Option meant.Command → meant.Next → List (List ℕ) → Option (List ℕ) → ℕ → ℕ → Type 0
IsNext (Some spoken) next lines after line now = Leaves next spoken lines after line now
IsNext None next lines after line now = (next ≡ meant.Ends) × IfSome after (λ rest. rest ≡ [])

-- This fault is what the lines to come give next, on the line with this number. Other errors say nothing of them.
abbrev pub IsFault : ScriptFault → meant.Next → ℕ → Type 0
IsFault (Bad line) next first = (next ≡ meant.Bad) × (line ≡ first)
IsFault (Unended line) next first = (next ≡ meant.Unended) × (line ≡ first)
IsFault Failed next first = Unit {0}
IsFault Spent next first = Unit {0}
IsFault Memory next first = Unit {0}

-- The answer is what these lines give next, the first of which has the number.
abbrev pub IsAnswer : Result Command ScriptFault → meant.Next → List (List ℕ) → Option (List ℕ) → ℕ → ℕ → ℕ → Type 0
IsAnswer (Ok command) next lines after first line now = IsNext (read_command command) next lines after line now
IsAnswer (Err fault) next lines after first line now = IsFault fault next first

-- The source is blamed only where its count of faults rose.
abbrev pub HasCause : ℕ → ℕ → ScriptFault → Type 0
HasCause before now (Bad line) = Unit {0}
HasCause before now (Unended line) = Unit {0}
HasCause before now Failed = Rose before now
HasCause before now Spent = ⊥
HasCause before now Memory = Unit {0}
