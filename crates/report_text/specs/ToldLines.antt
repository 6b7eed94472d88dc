-- The line of what is told of a name, where its places are counted, and which numbers it has (this profile).
use Rattle.std.specs.Prelude.{◌≡◌, ℕ, List, [], ◌++◌, ◌+◌, ◌-◌, ◌≤◌, ◌^◌, ◌==◌, length, take, drop, Option, Some, None, ⊤, if◌then◌else◌, codes}
use Rattle.std.specs.Fmt.{decimal}
use Rattle.name_meaning.specs.Names.{Name}
use Rattle.text_meaning.specs.Places.{line_at, column_at}
use Rattle.library_meaning.specs.Faces.{Environment, flat_signature, flat_of}
use Rattle.printing_meaning.specs.Printed.{absent_line}
use Rattle.printing_meaning.specs.VerdictLines.{judged_line}
use Rattle.printing_meaning.specs.FolderLines.{place_in_file}
use Rattle.judged_meaning.specs.JudgingByRules.{judged_by}
use Rattle.mmt_syntax.specs.declared.origin.Origin.{Origin}
use Rattle.mmt_interface.specs.Readings.{read_theory, read_verdict}
use Rattle.mmt_interface.specs.declared.verdict.Interface.TheVariants.{Theory, View}
use Rattle.mmt_interface.specs.declared.verdict.Verdict as verdict
use Rattle.mmt_interface.specs.declared.verdict.Verdict.TheVariants.{Accepted, Refused}
use Rattle.verdict_board.specs.declared.replies.Told as told
use Rattle.verdict_board.specs.declared.replies.Told.TheVariants.{Verdict, Pending, Absent}

-- The line of a place: that in the text or, where the text stands in a file, that in the file.
abbrev pub shown_line : Option Origin → List ℕ → ℕ → ℕ
shown_line None text at = line_at text at
shown_line (Some origin) text at = origin.first.line + line_at text at - 1

-- The column of a place. On the text's first line it is counted on from the text's first byte in the file.
abbrev pub shown_column : Option Origin → List ℕ → ℕ → ℕ
shown_column None text at = column_at text at
shown_column (Some origin) text at = if line_at text at == 1 then origin.first.column + column_at text at - 1 else column_at text at

-- `FILE:`, where there is a file.
abbrev pub file_text : Option Origin → List ℕ
file_text None = []
file_text (Some origin) = origin.file ++ codes ":"

-- `L:C`, or `FILE:L:C`.
abbrev pub shown_place : Option Origin → List ℕ → ℕ → List ℕ
shown_place origin text at = file_text origin ++ (decimal (shown_line origin text at) ++ codes ":" ++ decimal (shown_column origin text at))

-- The text of a module; of one that is absent the empty one, which is not looked at.
abbrev pub text_or_none : Option (List ℕ) → List ℕ
text_or_none None = []
text_or_none (Some text) = text

-- The line of what is told, over an environment, with these places.
abbrev pub told_text : Environment → Name → (ℕ → List ℕ) → told.Told verdict.Verdict → List ℕ
told_text environment name place (Verdict answer version) = judged_line environment name version place (judged_by (read_verdict answer))
told_text environment name place (Pending version) = []
told_text environment name place (Absent version) = absent_line name version

-- The number of an accepted module is the one that the environment gives: a theory's size is the length of its flat signature, and
-- a view's map is as long as the flat signature of its domain.
abbrev pub VerdictCounts : Environment → verdict.Verdict → Type 0
VerdictCounts environment (Accepted (Theory face size)) = size ≡ length (flat_signature environment (read_theory face))
VerdictCounts environment (Accepted (View face)) = length face.map ≡ length (flat_of environment face.domain)
VerdictCounts environment (Refused refusal) = ⊤

abbrev pub Counts : Environment → told.Told verdict.Verdict → Type 0
Counts environment (Verdict answer version) = VerdictCounts environment answer
Counts environment (Pending version) = ⊤
Counts environment (Absent version) = ⊤

-- There is something to tell, and a refusal has its text, which is not longer than a file may be; it stands within it.
abbrev pub RefusalHasPlace : ℕ → Option (List ℕ) → Type 0
RefusalHasPlace at None = ⊥
RefusalHasPlace at (Some text) = (length text ≤ 2 ^ 26) × (at ≤ length text)

abbrev pub VerdictHasPlace : verdict.Verdict → Option (List ℕ) → Type 0
VerdictHasPlace (Accepted interface) text = ⊤
VerdictHasPlace (Refused refusal) text = RefusalHasPlace refusal.span.from text

abbrev pub CanBeTold : told.Told verdict.Verdict → Option (List ℕ) → Type 0
CanBeTold (Verdict answer version) text = VerdictHasPlace answer text
CanBeTold (Pending version) text = ⊥
CanBeTold (Absent version) text = ⊤

-- The text stands in the file from this byte on, and the origin has the place of that byte.
pub record StandsIn (origin : Origin) (file : List ℕ) (first size : ℕ) : Type 0 where
  pub inside : first ≤ length file
  pub line : origin.first.line ≡ line_at file first
  pub column : origin.first.column ≡ column_at file first

-- So a place that is shown is the place in the file.
abbrev pub PlacesInFiles : Type 0
PlacesInFiles =
    (origin : Origin) (file : List ℕ) (first size at : ℕ) → StandsIn origin file first size → at ≤ size
    → shown_place (Some origin) (take size (drop first file)) at ≡ place_in_file origin.file file (first + at)
