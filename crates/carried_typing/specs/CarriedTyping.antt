-- What is carried along an accepted view (Rabe and Kohlhase 2013, section 4: morphisms preserve judgements).
use Rattle.std.specs.Prelude.{◌≡◌, ◌↔◌, true, List, []}
use Rattle.lf_meaning.specs.Terms.{Object, Family}
use Rattle.lf_meaning.specs.Judgements.{IsTyping}
use Rattle.name_meaning.specs.Names.{Name, Text, is_among}
use Rattle.edit_log_meaning.specs.Log.{Library, is_present}
use Rattle.module_graph_meaning.specs.Reach.{reach}
use Rattle.library_meaning.specs.Faces.{Environment, flat_of}
use Rattle.library_meaning.specs.Coherence.{IsCoherent}
use Rattle.text_meaning.specs.Dependencies.{dependencies}
use Rattle.verdict_meaning.specs.Rounds.{known_of, verdicts, told_by}
use Rattle.face_typing.specs.Below.TypedFaces.{IsTypedEnvironment}
use Rattle.judged_meaning.specs.Carrying.{CarriedTo, carry}
use Rattle.judged_laws.specs.CarryingLaws.{IsTranslated}

-- The object and the family are the translation, along the view of the name, of what the text stands for over the view's
-- whole domain. That is a typing judgement of the domain, and the translation is one of the codomain.
pub record IsCarried (environment : Environment) (name : Name) (text : Text) (object : Object) (family : Family) : Type 0 where
  pub translated : IsTranslated environment name text object family
  pub is_typing : IsTyping (flat_of environment translated.view.domain) [] translated.from_object translated.from_family
  pub carried_typing : IsTyping (flat_of environment translated.view.codomain) [] object family

-- So it is with all that is carried, where all that is known is coherent and well typed.
abbrev pub CarriedIsTyping : Type 0
CarriedIsTyping =
    (environment : Environment) (name : Name) (text : Text) (object : Object) (family : Family)
    → IsCoherent environment → IsTypedEnvironment environment
    → carry environment name text ≡ CarriedTo object family → IsCarried environment name text object family

-- So it is over the verdicts of a library.
abbrev pub LibrariesCarryTyping : Type 0
LibrariesCarryTyping =
    (library : Library) (name : Name) (text : Text) (object : Object) (family : Family)
    → carry (told_by library) name text ≡ CarriedTo object family → IsCarried (told_by library) name text object family

-- These are names with every present name of the reach of this one.
abbrev pub HaveReachOf : Library → List Name → Name → Type 0
HaveReachOf library names name =
    (other : Name) → is_among (reach dependencies library name) other ≡ true → is_present library other ≡ true → is_among names other ≡ true

-- So it is where the verdicts of a library are known of such names, whatever other names are among them, and of all
-- others nothing is known.
abbrev pub FacesCarryTyping : Type 0
FacesCarryTyping =
    (library : Library) (names : List Name) (name : Name) (text : Text) (object : Object) (family : Family) → HaveReachOf library names name
    → carry (known_of names (verdicts library)) name text ≡ CarriedTo object family → IsCarried (known_of names (verdicts library)) name text object family

-- What is carried over such names is what is carried over all that the verdicts tell.
abbrev pub FacesCarryAlike : Type 0
FacesCarryAlike =
    (library : Library) (names : List Name) (name : Name) (text : Text) (object : Object) (family : Family) → HaveReachOf library names name
    → (carry (known_of names (verdicts library)) name text ≡ CarriedTo object family) ↔ (carry (told_by library) name text ≡ CarriedTo object family)
