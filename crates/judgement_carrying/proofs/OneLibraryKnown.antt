-- What is known from verdicts of one library.
use Rattle.std.proofs.Common.{◌≡◌, true, false, Option, Some, None, is_some, refl, sym, ap, ◌∙◌}
use Rattle.std.specs.Prelude.{option_map}
use Rattle.name_meaning.specs.Names.{Name, is_among}
use Rattle.name_meaning.specs.Rows.{Rows, row_names, row_of}
use Rattle.name_laws.proofs.Rows.{row_among}
use Rattle.name_laws.proofs.RowLookups.{row_mapped}
use Rattle.edit_log_meaning.specs.Log.{Library}
use Rattle.library_meaning.specs.Environments.{known_or_absent}
use Rattle.verdict_meaning.specs.Verdicts as meaning
use Rattle.verdict_meaning.specs.Verdicts.{known_by}
use Rattle.verdict_meaning.specs.Rounds.{known_if, known_of, verdicts, verdict_of}
use Rattle.carried_typing.proofs.Below.LibrariesHold.{known_in, told_under}
use Rattle.mmt_interface.specs.Readings.{read_verdict, read_faces, environment_of}
use Rattle.mmt_interface.specs.declared.verdict.Verdict.{Verdict}

some_alike : (o : Option Verdict) → is_some (option_map read_verdict o) ≡ is_some o
some_alike None = refl
some_alike (Some verdict) = refl

module _ (library : Library) (rows : Rows Verdict) (known : (name : Name) (verdict : meaning.Verdict) → row_of (read_faces rows) name ≡ Some verdict → verdict_of library name ≡ Some verdict) where
  among : (n : Name) → is_among (row_names rows) n ≡ is_some (row_of (read_faces rows) n)
  among n = sym (row_among rows n) ∙ sym (some_alike (row_of rows n)) ∙ ap is_some (sym (row_mapped read_verdict rows n))

  told_alone : (n : Name) (o : Option meaning.Verdict) → row_of (read_faces rows) n ≡ o → environment_of rows n ≡ known_of (row_names rows) (verdicts library) n
  told_alone n None e = ap (λ o. known_or_absent (option_map known_by o)) e ∙ sym (known_in library (row_names rows) n false (among n ∙ ap is_some e))
  told_alone n (Some verdict) e =
      ap (λ o. known_or_absent (option_map known_by o)) e ∙ sym (ap known_if (known n verdict e)) ∙ told_under library n
      ∙ sym (known_in library (row_names rows) n true (among n ∙ ap is_some e))

  -- It is what the library tells of their names.
  pub known_alone : environment_of rows ≡ known_of (row_names rows) (verdicts library)
  known_alone = λ i n. (told_alone n (row_of (read_faces rows) n) refl) i
