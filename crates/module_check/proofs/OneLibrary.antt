-- Faces of one library that have whole reaches are coherent.
use Rattle.std.proofs.Common.{◌≡◌, true, length, Some, is_some, sym, ap, ◌∙◌, subst}
use Rattle.list_laws.proofs.Options.{some_mapped}
use Rattle.name_meaning.specs.Names.{Name, is_among}
use Rattle.name_meaning.specs.Rows.{Rows, row_names, row_of}
use Rattle.name_laws.proofs.Rows.{row_among}
use Rattle.name_laws.proofs.RowLookups.{row_mapped}
use Rattle.library_meaning.specs.Faces.{Environment, flat_signature}
use Rattle.library_meaning.specs.Coherence.{IsCoherent}
use Rattle.verdict_meaning.specs.Verdicts as verdicts
use Rattle.coherence_laws.proofs.LibrariesHold.{closed_are_coherent}
use Rattle.coherence_laws.proofs.SizesHold.{closed_have_sizes}
use Rattle.mmt_interface.specs.Readings.{read_faces, read_verdict}
use Rattle.mmt_interface.specs.declared.verdict.Verdict.{Verdict}
use Rattle.judgement_carrying.proofs.OneLibraryKnown.{known_alone}
use Rattle.module_check.specs.OneLibrary.{AreCoherentTogether}

-- A name with a verdict is among the names.
pub row_there : (rows : Rows Verdict) (name : Name) (verdict : verdicts.Verdict) → row_of (read_faces rows) name ≡ Some verdict → is_among (row_names rows) name ≡ true
row_there rows name verdict h =
    sym (row_among rows name) ∙ sym (some_mapped read_verdict (row_of rows name)) ∙ ap is_some (sym (row_mapped read_verdict rows name) ∙ h)

pub coherent_together : (rows : Rows Verdict) → AreCoherentTogether rows
coherent_together rows library held =
    let alone = known_alone library rows held.verdicts in
    record {
      known = subst IsCoherent (sym alone) (closed_are_coherent library (row_names rows) held.reach);
      sizes = λ name face size h. closed_have_sizes library (row_names rows) name face size held.reach
          (row_there rows name (verdicts.Accepted (verdicts.Theory face size)) h) (held.verdicts name (verdicts.Accepted (verdicts.Theory face size)) h)
          ∙ ap (λ (z : Environment). length (flat_signature z face)) (sym alone);
    }
