-- What is read of the text of a `put`.
use Rattle.std.specs.Prelude.{◌≡◌, ◌<◌, ◌≤◌, ℕ, suc, Bool, false, true, List, [], ◌⊎◌, length, IfSome, IsSome, Some, None}
use Rattle.std.specs.declared.option.Option.{Option}
use Rattle.mmt_outside.specs.Bytes.{preceded}
use Rattle.printing_meaning.specs.Lines.{lines_of, NoFeed}
use Rattle.printing_meaning.specs.ScriptLines.{is_end_line, text_before, behind_end, line_after}
use Rattle.name_meaning.specs.Limits.{put_limit, text_limit}
use Rattle.run_meaning.specs.ScriptCommands.{kept}
use Rattle.script_reader.specs.HeldTexts.{Held, more}
use Rattle.script_reader.specs.Pieces.{EndsInFeed}
use Rattle.script_reader.specs.declared.text.TextPiece.{TextPiece}
use Rattle.script_reader.specs.declared.text.TextPiece.TheVariants.{Line, Part, End, Last}
use Rattle.script_reader.specs.declared.text.Ending.{Ending}
use Rattle.script_reader.specs.declared.text.Ending.TheVariants.{Whole, TooLong, Unended}

-- Where no part of the line was read before, the piece is no end line.
abbrev pub IsNoEnd : Bool → List ℕ → Type 0
IsNoEnd is_begun piece = is_begun ≡ false → is_end_line piece ≡ false

-- The rest of a line went to the text; or a part of a line, so long that the line is no end line; or the piece was the
-- end line, and the text is as before; or the input ended in a line that is not.
abbrev pub IsTextPiece : TextPiece → Bool → Held → Held → List ℕ → Option (List ℕ) → Type 0
IsTextPiece Line is_begun text now piece after = EndsInFeed piece × IsNoEnd is_begun piece × (now ≡ more text piece)
IsTextPiece Part is_begun text now piece after = NoFeed piece × (8 ≤ length piece) × (now ≡ more text piece)
IsTextPiece End is_begun text now piece after =
    (EndsInFeed piece ⊎ (NoFeed piece × IfSome after (λ bytes. bytes ≡ []))) × (is_begun ≡ false) × (is_end_line piece ≡ true) × (now ≡ text)
IsTextPiece Last is_begun text now piece after =
    NoFeed piece × IfSome after (λ bytes. bytes ≡ []) × IsNoEnd is_begun piece × (now ≡ more text piece)

pub record ReadsPiece (before after : Option (List ℕ)) (is_begun : Bool) (text now : Held) (read : TextPiece) : Type 0 where
  pub piece : List ℕ
  pub bytes : before ≡ preceded piece after
  pub is : IsTextPiece read is_begun text now piece after

-- A text was read, with its end line; or the text is too long; or it has no end line.
abbrev pub TextGives : Ending → List (List ℕ) → Option (List ℕ) → ℕ → ℕ → Type 0
TextGives (Whole text) lines after line now =
    (length (text_before lines) ≤ put_limit) × (text.items ≡ kept (text_before lines))
    × IfSome after (λ rest. (behind_end lines ≡ Some (lines_of rest)) × (now ≡ line_after line lines (lines_of rest)))
TextGives TooLong lines after line now = put_limit < length (text_before lines)
TextGives Unended lines after line now = (length (text_before lines) ≤ put_limit) × (behind_end lines ≡ None)

-- Where the bytes to come were told, they still are.
abbrev pub StaysTold : Option (List ℕ) → Option (List ℕ) → Type 0
StaysTold before after = IsSome before → IsSome after

-- Of a text that was read no more is kept than shows that it is longer than the limit of a text.
abbrev pub IsWithinLimit : Ending → Type 0
IsWithinLimit (Whole text) = length text.items ≤ suc text_limit
IsWithinLimit TooLong = Unit {0}
IsWithinLimit Unended = Unit {0}
