-- Modules that are told of keep typing.
use Rattle.std.specs.Prelude.{ℕ, take}
use Rattle.name_meaning.specs.Names.{Name}
use Rattle.edit_log_meaning.specs.Log.{Library, library_of}
use Rattle.verdict_meaning.specs.Rounds.{told_by}
use Rattle.coherence_laws.proofs.LibrariesHold.{library_coherent}
use Rattle.face_typing.proofs.LinksTyped.{links_are_typed}
use Rattle.face_typing.proofs.LibrariesTyped.{faces_are_typed}
use Rattle.face_typing.proofs.MapsCarry.{typed_theories_flatten, typed_views_carry}
use Rattle.output_typing.specs.ToldTyping.{AllAreTyped, KeepsTyping}

pub keeps_typing : (library : Library) (name : Name) → KeepsTyping library name
keeps_typing library name =
    let known = faces_are_typed links_are_typed library in
    let coherent = library_coherent library in
    record {
      theory = λ face is. typed_theories_flatten (told_by library) name face known (coherent.theories name face is) (known.theories name face is);
      view = λ face is. typed_views_carry (told_by library) name face known (coherent.views name face is) (known.views name face is);
    }

pub all_are_typed : AllAreTyped
all_are_typed log tellings place telling at = keeps_typing (library_of (take telling.version log)) telling.name
