-- What a module is accepted as is well typed over all that the verdicts of its library tell (this profile).
use Rattle.std.specs.Prelude.{⊤}
use Rattle.edit_log_meaning.specs.Log.{Library}
use Rattle.verdict_meaning.specs.Verdicts.{Verdict, Accepted, Refused, Theory, View}
use Rattle.verdict_meaning.specs.Rounds.{told_by}
use Rattle.judgement_carrying.specs.Below.CarryingMaps.{FlattensTyped, ViewCarriesTyping}

-- An accepted theory flattens to a well-typed signature, and each of its structures carries typing to it; an accepted view carries
-- typing from its domain to its codomain. Of a refused module nothing is said.
abbrev pub IsTypedVerdict : Library → Verdict → Type 0
IsTypedVerdict library (Accepted (Theory face size)) = FlattensTyped (told_by library) face
IsTypedVerdict library (Accepted (View face)) = ViewCarriesTyping (told_by library) face
IsTypedVerdict library (Refused refusal) = ⊤
