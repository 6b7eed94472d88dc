-- Places that are shown of a text that stands in a file.
use Rattle.std.specs.Prelude.{◌==◌, codes, if◌then◌else◌}
use Rattle.std.specs.Fmt.{decimal}
use Rattle.std.proofs.Common.{◌≡◌, ℕ, ◌+◌, ◌-◌, ◌<◌, ◌≤◌, Bool, true, false, List, ◌++◌, take, drop, Some, refl, sym, ap, ap₂, ◌∙◌, arith}
use Rattle.std.proofs.lemmas.Bool.Decides.{nat_tests}
use Rattle.text_meaning.specs.Places.{line_at, column_at}
use Rattle.printing_meaning.specs.FolderLines.{place_in_file}
use Rattle.place_laws.proofs.FilePlaces.{lines_on, columns_on, columns_same}
use Rattle.mmt_syntax.specs.declared.origin.Origin.{Origin}
use Rattle.report_text.specs.ToldLines.{shown_line, shown_column, shown_place, StandsIn, PlacesInFiles}

module _ (origin : Origin) (file : List ℕ) (first size at : ℕ) (stands : StandsIn origin file first size) (within : at ≤ size) where
  abbrev text : List ℕ
  text = take size (drop first file)

  line_is : shown_line (Some origin) text at ≡ line_at file (first + at)
  line_is = let on = lines_on file first size at stands.inside within in let begins = stands.line in omega (arith, on, begins)

  column_by : (b : Bool) → (line_at text at == 1) ≡ b → shown_column (Some origin) text at ≡ column_at file (first + at)
  column_by true e =
      let one : line_at text at ≡ 1 = grind (arith, nat_tests) in
      let on = columns_on file first size at stands.inside within one in
      let begins = stands.column in
      ap (λ b. if b then origin.first.column + column_at text at - 1 else column_at text at) e ∙ omega (arith, on, begins)
  column_by false e =
      let more : 1 < line_at text at = grind (arith, nat_tests) in
      ap (λ b. if b then origin.first.column + column_at text at - 1 else column_at text at) e ∙ sym (columns_same file first size at stands.inside within more)

  pub place_is : shown_place (Some origin) text at ≡ place_in_file origin.file file (first + at)
  place_is = ap₂ (λ l c. (origin.file ++ codes ":") ++ (decimal l ++ codes ":" ++ decimal c)) line_is (column_by (line_at text at == 1) refl)

pub places_in_files : PlacesInFiles
places_in_files origin file first size at stands within = place_is origin file first size at stands within
