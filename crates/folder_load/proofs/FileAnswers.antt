-- The answer to a file, by its length and its division.
use Rattle.std.proofs.Common.{◌≡◌, ℕ, ◌<◌, ◌≤◌, ◌^◌, true, false, List, length, cond, nat_lt, sym, ap, ◌∙◌, arith}
use Rattle.std.proofs.lemmas.Bool.Decides.{nat_tests}
use Rattle.name_meaning.specs.Limits.{file_limit}
use Rattle.edit_log_meaning.specs.Log.{Log}
use Rattle.text_meaning.specs.Cutting.{lex}
use Rattle.text_meaning.specs.Places.{line_at, column_at}
use Rattle.text_meaning.specs.Splitting.{Division, FileDivides}
use Rattle.text_meaning.specs.Dividing.{divide}
use Rattle.printing_meaning.specs.FolderLines.{LongFile}
use Rattle.run_meaning.specs.Files.{File, bare_fault, division_answer, file_answer}
use Rattle.file_laws.proofs.OneDivision.{one_division}
use Rattle.mmt_syntax.specs.declared.place.Place.{Place}
use Rattle.folder_load.specs.Shown.{place_in}

not_long : (count : ℕ) → count ≤ 2 ^ 26 → nat_lt file_limit count ≡ false
not_long count h = grind (arith, nat_tests)

is_long : (count : ℕ) → 2 ^ 26 < count → nat_lt file_limit count ≡ true
is_long count h = grind (arith, nat_tests)

pub short_answer : (log : Log) (file : File) (division : Division) → length file.bytes ≤ 2 ^ 26 → FileDivides file.bytes division → file_answer log file ≡ division_answer file log division
unfolding file_answer
short_answer log file division short divides =
    ap (λ b. cond b (bare_fault 0 LongFile) (division_answer file log (divide (lex file.bytes)))) (not_long (length file.bytes) short)
    ∙ ap (division_answer file log) (sym ((one_division file.bytes).only division divides))

pub long_answer : (log : Log) (file : File) → 2 ^ 26 < length file.bytes → file_answer log file ≡ bare_fault 0 LongFile
unfolding file_answer
long_answer log file long = ap (λ b. cond b (bare_fault 0 LongFile) (division_answer file log (divide (lex file.bytes)))) (is_long (length file.bytes) long)

pub place_is : (place : Place) (text : List ℕ) (at : ℕ) → place.line ≡ line_at text at → place.column ≡ column_at text at → place ≡ place_in text at
place_is place text at line column = λ i. record { line = line i; column = column i }
