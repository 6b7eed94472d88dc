-- Faces and the environment that they stand for: what is found in the one is what is known in the other.
use Rattle.std.proofs.Common.{◌≡◌, [], ◌∷◌, ◌++◌, cond, Option, Some, None, refl, sym, ap, ◌∙◌}
use Rattle.std.specs.Prelude.{option_map}
use Rattle.std.specs.Option.{option_and_then}
use Rattle.name_meaning.specs.Names.{Name, same_name}
use Rattle.name_meaning.specs.Rows.{Rows, row_of}
use Rattle.name_laws.proofs.RowLookups.{row_mapped}
use Rattle.library_meaning.specs.Faces.{Known, IsAbsent, theory_of, view_of, theory_face, view_face}
use Rattle.library_meaning.specs.Environments.{known_or_absent, environment_from}
use Rattle.library_laws.proofs.KnownRows.{known_pushed, known_mapped}
use Rattle.judged_meaning.specs.Below.Verdicts.{known_by}
use Rattle.mmt_interface.specs.Readings.{read_theory, read_view, read_verdict, read_faces, environment_of, theory_in, view_in, theory_under, view_under}
use Rattle.mmt_interface.specs.declared.verdict.Interface.TheVariants.{Theory, View}
use Rattle.mmt_interface.specs.declared.verdict.Verdict.{Verdict}
use Rattle.mmt_interface.specs.declared.verdict.Verdict.TheVariants.{Accepted, Refused}

-- What a verdict tells.
abbrev pub told : Verdict → Known
told verdict = known_by (read_verdict verdict)

-- What is known of a name is told by the verdict under it.
pub known_is : (rows : Rows Verdict) (name : Name) → environment_of rows name ≡ environment_from told rows name
known_is rows name = known_mapped known_by read_verdict rows name

-- The verdict under a name, read, is that under the name among the verdicts read.
pub verdict_read : (rows : Rows Verdict) (name : Name) → row_of (read_faces rows) name ≡ option_map read_verdict (row_of rows name)
verdict_read rows name = row_mapped read_verdict rows name

theory_told : (o : Option Verdict) → option_map read_theory (option_and_then theory_in o) ≡ theory_face (known_or_absent (option_map told o))
theory_told None = refl
theory_told (Some (Accepted (Theory face size))) = refl
theory_told (Some (Accepted (View face))) = refl
theory_told (Some (Refused refusal)) = refl

view_told : (o : Option Verdict) → option_map read_view (option_and_then view_in o) ≡ view_face (known_or_absent (option_map told o))
view_told None = refl
view_told (Some (Accepted (Theory face size))) = refl
view_told (Some (Accepted (View face))) = refl
view_told (Some (Refused refusal)) = refl

-- The theory under a name is the one that is known.
pub theory_known : (rows : Rows Verdict) (name : Name) → option_map read_theory (theory_under rows name) ≡ theory_of (environment_of rows) name
theory_known rows name = theory_told (row_of rows name) ∙ ap theory_face (sym (known_is rows name))

-- So is the view.
pub view_known : (rows : Rows Verdict) (name : Name) → option_map read_view (view_under rows name) ≡ view_of (environment_of rows) name
view_known rows name = view_told (row_of rows name) ∙ ap view_face (sym (known_is rows name))

-- One more verdict extends what is known at its name alone.
pub known_with : (rows : Rows Verdict) (name : Name) (verdict : Verdict) (other : Name) → row_of rows name ≡ None
    → environment_of (rows ++ (name, verdict) ∷ []) other ≡ cond (same_name other name) (told verdict) (environment_of rows other)
known_with rows name verdict other absent =
    known_is (rows ++ (name, verdict) ∷ []) other ∙ known_pushed told rows name verdict other absent ∙ ap (cond (same_name other name) (told verdict)) (sym (known_is rows other))

-- A name that the faces lack is absent.
pub lacked_is_absent : (rows : Rows Verdict) (name : Name) → row_of rows name ≡ None → environment_of rows name ≡ IsAbsent
lacked_is_absent rows name h = known_is rows name ∙ ap (λ o. known_or_absent (option_map told o)) h
