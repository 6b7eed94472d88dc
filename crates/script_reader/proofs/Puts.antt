-- The answer of a command from that of its parts.
use Rattle.std.proofs.Common.{◌≡◌, ℕ, ◌+◌, ◌-◌, ◌^◌, ◌≤◌, List, [], ◌∷◌, length, refl, sym, ap, subst, ◌∙◌, arith}
use Rattle.std.specs.Prelude.{Some, None, IfSome, IsSome, min, Result, Ok, Err}
use Rattle.std.specs.declared.option.Option.{Option}
use Rattle.printing_meaning.specs.Lines.{lines_of, content_of}
use Rattle.run_meaning.specs.ScriptCommands as meant
use Rattle.run_laws.proofs.Items.{next_of-shorter}
use Rattle.script_reader.specs.Commands.{read_command}
use Rattle.script_reader.specs.Texts.{StaysTold}
use Rattle.script_reader.specs.Answers.{IsNext, IsAnswer}
use Rattle.script_reader.specs.declared.command.Command.{Command}
use Rattle.script_reader.specs.declared.fault.ScriptFault.{ScriptFault}

no_lines : (bytes : List ℕ) → bytes ≡ [] → meant.next_of (lines_of bytes) ≡ meant.Ends
unfolding lines_of
no_lines bytes none = rw none refl

pub missing_answer : (before after : Option (List ℕ)) → IfSome before (λ bytes. bytes ≡ []) → IfSome after (λ bytes. bytes ≡ [])
    → IfSome before (λ bytes. (meant.next_of (lines_of bytes) ≡ meant.Ends) × IfSome after (λ rest. rest ≡ []))
missing_answer None after none left = tt
missing_answer (Some bytes) after none left = (no_lines bytes none, left)

-- what a line and a put leave, counted from the line of the put
next_more : (spoken : Option meant.Command) (line : List ℕ) (lines : List (List ℕ)) (next : meant.Next) (after : Option (List ℕ)) (first counted now : ℕ)
    → counted ≡ min (first + 1) (2 ^ 64 - 1) → meant.next_of (line ∷ lines) ≡ next → IsNext spoken next lines after counted now
    → IsNext spoken next (line ∷ lines) after first now
next_more None line lines next after first counted now e same h = h
next_more (Some spoken) line lines next None first counted now e same h = tt
next_more (Some spoken) line lines next (Some rest) first counted now e same h =
    let shorter : length (lines_of rest) ≤ length lines = omega (arith, next_of-shorter (line ∷ lines) spoken (lines_of rest) (same ∙ h.0)) in
    (h.0, omega (arith, h.1, e))

answer_more : (result : Result Command ScriptFault) (line : List ℕ) (lines : List (List ℕ)) (next : meant.Next) (after : Option (List ℕ)) (first counted now : ℕ)
    → counted ≡ min (first + 1) (2 ^ 64 - 1) → meant.next_of (line ∷ lines) ≡ next → IsAnswer result next lines after first counted now
    → IsAnswer result next (line ∷ lines) after first first now
answer_more (Ok command) line lines next after first counted now e same h = next_more (read_command command) line lines next after first counted now e same h
answer_more (Err fault) line lines next after first counted now e same h = h

pub not_told : IsSome {T = List ℕ} None → ⊥
not_told told = cc

-- from the lines behind the first to all
behind_first : (result : Result Command ScriptFault) (line : List ℕ) (before between after : Option (List ℕ)) (first now : ℕ)
    → IfSome before (λ bytes. IfSome between (λ rest. lines_of bytes ≡ line ∷ lines_of rest)) × StaysTold before between
    → ((rest : List ℕ) → between ≡ Some rest → IsAnswer result (meant.next_of (line ∷ lines_of rest)) (line ∷ lines_of rest) after first first now)
    → IfSome before (λ bytes. IsAnswer result (meant.next_of (lines_of bytes)) (lines_of bytes) after first first now)
behind_first result line None between after first now begins answers = tt
behind_first result line (Some bytes) None after first now begins answers = absurd (not_told (begins.1 refl))
behind_first result line (Some bytes) (Some rest) after first now begins answers =
    subst (λ (lines : List (List ℕ)). IsAnswer result (meant.next_of lines) lines after first first now) (sym begins.0) (answers rest refl)

next_is : (line : List ℕ) (said : meant.Said) (lines : List (List ℕ)) → meant.said_by (content_of line) ≡ said → meant.next_of (line ∷ lines) ≡ meant.next_by said lines
next_is line said lines e = ap (λ (s : meant.Said). meant.next_by s lines) e

if_some_at : (o : Option (List ℕ)) (P : List ℕ → Type 0) (bytes : List ℕ) → o ≡ Some bytes → IfSome o P → P bytes
if_some_at None P bytes e h = absurd cc
if_some_at (Some other) P bytes e h = let same : other ≡ bytes = cc in subst P same h

-- the answer of a put is the answer of the lines that begin with its line
pub put_answer : (result : Result Command ScriptFault) (name line : List ℕ) (before between after : Option (List ℕ)) (first counted now : ℕ)
    → Some (meant.Puts name) ≡ Some (meant.said_by (content_of line)) → counted ≡ min (first + 1) (2 ^ 64 - 1)
    → IfSome before (λ bytes. IfSome between (λ rest. lines_of bytes ≡ line ∷ lines_of rest)) × StaysTold before between
    → IfSome between (λ bytes. IsAnswer result (meant.put_of name (lines_of bytes)) (lines_of bytes) after first counted now)
    → IfSome before (λ bytes. IsAnswer result (meant.next_of (lines_of bytes)) (lines_of bytes) after first first now)
put_answer result name line before between after first counted now said counts begins answers =
    behind_first result line before between after first now begins each
  where
    each : (rest : List ℕ) → between ≡ Some rest → IsAnswer result (meant.next_of (line ∷ lines_of rest)) (line ∷ lines_of rest) after first first now
    each rest e =
        let says : meant.said_by (content_of line) ≡ meant.Puts name = cc in
        let same : meant.next_of (line ∷ lines_of rest) ≡ meant.put_of name (lines_of rest) = next_is line (meant.Puts name) (lines_of rest) says in
        subst (λ (next : meant.Next). IsAnswer result next (line ∷ lines_of rest) after first first now) (sym same)
        (answer_more result line (lines_of rest) (meant.put_of name (lines_of rest)) after first counted now counts same
        (if_some_at between (λ bytes. IsAnswer result (meant.put_of name (lines_of bytes)) (lines_of bytes) after first counted now) rest e answers))
