-- The size that an accepted theory shows is the length of its flat signature.
use Rattle.std.proofs.Common.{◌≡◌, ℕ, length, ◌++◌, Some, refl, sym, ap, ◌∙◌}
use Rattle.name_meaning.specs.Names.{Name}
use Rattle.edit_log_meaning.specs.Log.{Library}
use Rattle.library_meaning.specs.Faces.{TheoryFace, Environment, flat_signature, flat_of}
use Rattle.verdict_meaning.specs.Verdicts.{Theory, Accepted}
use Rattle.verdict_meaning.specs.Rounds.{verdicts, known_of, verdict_of, told_by, known_to}
use Rattle.coherence_laws.specs.CoherenceLaws.{SizesAreLengths, GroundedKnowSizes, ClosedHaveSizes, MapsHaveLengths}
use Rattle.coherence_laws.proofs.Transfer.{Extends, parts_same}
use Rattle.coherence_laws.proofs.LibrariesHold.{extends_to, theory_shown, sound, tells_more, accepted_theory, closed_extends, grounded_short}
use Rattle.coherence_laws.proofs.AcceptedTrees.{from_declarations, from_library}
use Rattle.link_laws.proofs.Listing.{same_length}

-- over all that knows what the theory knows
size_over : (library : Library) (name : Name) (face : TheoryFace) (size : ℕ) (more : Environment) → Extends (known_to library name) more
    → verdict_of library name ≡ Some (Accepted (Theory face size)) → size ≡ length (flat_signature more face)
size_over library name face size more x h =
    let l = from_library library name (Theory face size) h in
    let d = from_declarations (known_to library name) l.from.tree face size l.from.passes in
    let s = sound library (length library) name (accepted_theory library name (Accepted (Theory face size)) face h refl) in
    let c = theory_shown library (known_to library name) name (Accepted (Theory face size)) face refl (s.holds (Accepted (Theory face size)) h) in
    d.counted ∙ sym (ap (λ z. length (z ++ face.own)) (parts_same (known_to library name) more s.coherent x face.includes c.includes))

pub sizes_are_lengths : SizesAreLengths
sizes_are_lengths library name face size h = size_over library name face size (told_by library) (tells_more library name) h

pub grounded_know_sizes : GroundedKnowSizes
grounded_know_sizes library name other face size g m h =
    size_over library other face size (known_to library name) (extends_to library (length library) name other (grounded_short library name g) m) h

pub closed_have_sizes : ClosedHaveSizes
closed_have_sizes library names name face size c m h = size_over library name face size (known_of names (verdicts library)) (closed_extends library names c name m) h

pub maps_have_lengths : MapsHaveLengths
maps_have_lengths environment name face coherent e = same_length face.map (flat_of environment face.domain) (coherent.views name face e).map_is.names
