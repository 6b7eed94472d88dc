-- How the lines of a script are cut into commands, all of them (this profile).
use Rattle.name_meaning.specs.Limits.{put_limit, line_limit, text_limit}
use Rattle.std.specs.Prelude.{ℕ, suc, List, [], ◌∷◌, ◌==◌, length, take, drop, nat_eq, nat_lt, Option, Some, None, option_map, if◌then◌else◌, codes}
use Rattle.std.specs.List.{starts_with}
use Rattle.std.specs.Str.{bytes_eq}
use Rattle.printing_meaning.specs.Lines.{content_of}
use Rattle.printing_meaning.specs.ScriptLines.{is_name, is_silent, text_before, behind_end}
use Rattle.name_meaning.specs.Names.{Name, Text}
use Rattle.edit_log_meaning.specs.Log.{Edit, Put, Drop}

-- What is kept of a text that is put: all of it, or as many bytes as show that it is longer than the limit of a text.
abbrev pub kept : Text → Text
kept text = take (suc text_limit) text

-- An edit; the report of a name; the verdicts of all modules; the flat text of a name; the judgement of this text,
-- carried along a view; the log; or nothing, by a blank line or a comment.
pub data Command : Type 0 where
  EditCommand : Edit → Command
  ReportCommand : Name → Command
  CheckCommand : Command
  FlatCommand : Name → Command
  CarryCommand : (view : Name) → (judgement : Text) → Command
  LogCommand : Command
  BlankCommand : Command

-- A line begins the text that is put under a name, is a command by itself, or is no line of a script.
pub data Said : Type 0 where
  Puts : Name → Said
  Says : Command → Said
  Wrong : Said

-- What the line says of the name, where it is one.
abbrev pub of_name : (Name → Said) → List ℕ → Said
of_name said name = if is_name name then said name else Wrong

-- Some bytes, and those behind the first space that follows them.
pub record Parted : Type 0 where
  pub front : List ℕ
  pub behind : List ℕ

abbrev pub with_byte : ℕ → Parted → Parted
with_byte byte parted = record { front = byte ∷ parted.front; behind = parted.behind }

-- The bytes in front of the first space, and those behind it, if there is a space.
unfoldable pub parted_at_space : List ℕ → Option Parted
parted_at_space [] = None
parted_at_space (byte ∷ bytes) =
    if byte == 32 then Some (record { front = []; behind = bytes }) else option_map (with_byte byte) (parted_at_space bytes)

-- A name, one space, and a judgement that is not empty.
abbrev pub carry_of : Name → Text → Said
carry_of view [] = Wrong
carry_of view (byte ∷ bytes) = Says (CarryCommand view (byte ∷ bytes))

abbrev pub carry_by : Option Parted → Said
carry_by None = Wrong
carry_by (Some parted) = of_name (λ (view : Name). carry_of view parted.behind) parted.front

-- What the content of a command line says. The word of a command and its name are parted by one space.
abbrev pub command_by : List ℕ → Said
command_by content =
    if starts_with nat_eq content (codes "put ") then of_name Puts (drop 4 content)
    else (if starts_with nat_eq content (codes "drop ") then of_name (λ (name : Name). Says (EditCommand (Drop name))) (drop 5 content)
    else (if starts_with nat_eq content (codes "report ") then of_name (λ (name : Name). Says (ReportCommand name)) (drop 7 content)
    else (if bytes_eq content (codes "check") then Says CheckCommand
    else (if starts_with nat_eq content (codes "flat ") then of_name (λ (name : Name). Says (FlatCommand name)) (drop 5 content)
    else (if starts_with nat_eq content (codes "carry ") then carry_by (parted_at_space (drop 6 content))
    else (if bytes_eq content (codes "log") then Says LogCommand else Wrong))))))

-- What the content of a line says. A longer line than the limit is wrong whatever it holds.
abbrev pub said_by : List ℕ → Said
said_by content =
    if nat_lt line_limit (length content) then Wrong else (if is_silent content then Says BlankCommand else command_by content)

-- Nothing is left; or a command, with the lines behind it; or a bad line; or a `put` line whose text has no end.
pub data Next : Type 0 where
  Ends : Next
  Gives : Command → List (List ℕ) → Next
  Bad : Next
  Unended : Next

-- The `put` of what is kept of a text that stands in front of these lines, or unended where there is no end line.
abbrev pub ended : Name → Text → Option (List (List ℕ)) → Next
ended name text None = Unended
ended name text (Some rest) = Gives (EditCommand (Put name (kept text))) rest

-- The `put` of the text that the lines begin with. A longer text than the limit of a `put` is bad, ended or not.
abbrev pub put_of : Name → List (List ℕ) → Next
put_of name lines =
    if nat_lt put_limit (length (text_before lines)) then Bad else ended name (text_before lines) (behind_end lines)

-- What a line that says this gives in front of these lines.
abbrev pub next_by : Said → List (List ℕ) → Next
next_by (Puts name) lines = put_of name lines
next_by (Says command) lines = Gives command lines
next_by Wrong lines = Bad

-- What the lines that are left say next.
abbrev pub next_of : List (List ℕ) → Next
next_of [] = Ends
next_of (line ∷ lines) = next_by (said_by (content_of line)) lines
