-- Verdicts of a library are typed.
use Rattle.std.proofs.Common.{◌≡◌, Some, ap}
use Rattle.name_meaning.specs.Names.{Name}
use Rattle.edit_log_meaning.specs.Log.{Library}
use Rattle.verdict_meaning.specs.Verdicts.{Verdict, Accepted, Refused, Theory, View}
use Rattle.verdict_meaning.specs.Rounds.{known_if, told_by, verdict_of}
use Rattle.coherence_laws.proofs.LibrariesHold.{library_coherent}
use Rattle.judgement_carrying.proofs.Below.LinksTyped.{links_are_typed}
use Rattle.judgement_carrying.proofs.Below.LibrariesTyped.{faces_are_typed}
use Rattle.judgement_carrying.proofs.Below.MapsCarry.{typed_theories_flatten, typed_views_carry}
use Rattle.module_check.specs.TypedVerdicts.{IsTypedVerdict}

pub verdict_is_typed : (library : Library) (name : Name) (verdict : Verdict) → verdict_of library name ≡ Some verdict → IsTypedVerdict library verdict
verdict_is_typed library name (Accepted (Theory face size)) is =
    let known = faces_are_typed links_are_typed library in
    let told = ap known_if is in
    typed_theories_flatten (told_by library) name face known ((library_coherent library).theories name face told) (known.theories name face told)
verdict_is_typed library name (Accepted (View face)) is =
    let known = faces_are_typed links_are_typed library in
    let told = ap known_if is in
    typed_views_carry (told_by library) name face known ((library_coherent library).views name face told) (known.views name face told)
verdict_is_typed library name (Refused refusal) is = tt
