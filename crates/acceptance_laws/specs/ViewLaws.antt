-- What makes a view accepted, with no order of tests (Rabe and Kohlhase 2013, section 3: views; the rest is this profile).
use Rattle.std.specs.Prelude.{◌≡◌, ◌↔◌, true, List, Some, IsSome}
use Rattle.name_meaning.specs.Names.{Name, Text}
use Rattle.edit_log_meaning.specs.Log.{Library, text_of}
use Rattle.module_graph_meaning.specs.Walks.{is_grounded}
use Rattle.text_meaning.specs.Trees.{Written, Assign, Module, ViewModule, first_name}
use Rattle.text_meaning.specs.Reading.{ModuleText, ModuleTree, Read}
use Rattle.text_meaning.specs.TextAnswers.{read}
use Rattle.lf_meaning.specs.HeadMaps.{HeadMap}
use Rattle.library_meaning.specs.Faces.{TheoryFace, ViewFace, Environment, theory_of}
use Rattle.link_meaning.specs.LinkMaps.{IsMapOfLink}
use Rattle.text_meaning.specs.Dependencies.{dependencies}
use Rattle.verdict_meaning.specs.Modules.{view_setting}
use Rattle.verdict_meaning.specs.Verdicts.{View, Accepted, written_name}
use Rattle.verdict_meaning.specs.Rounds.{verdict_of, told_by, known_to}

-- The name is grounded, and its text is read as this module, which is written with the name.
pub record IsModule (library : Library) (name : Name) (tree : Module) : Type 0 where
  pub text : Text
  pub has : text_of library name ≡ Some text
  pub is_read : read ModuleText text ≡ Read (ModuleTree tree)
  pub grounded : is_grounded dependencies library name ≡ true
  pub named : first_name (written_name tree).path ≡ name

-- Over what is known, both ends of the written view are accepted theories, and the map is that of the link between them:
-- the assignments have a reading, and the map meets its equations.
pub record IsViewBetween (environment : Environment) (written domain codomain : Written) (assigns : List Assign) (along : HeadMap) : Type 0 where
  pub from : IsSome (theory_of environment (first_name domain.path))
  pub target : TheoryFace
  pub to : theory_of environment (first_name codomain.path) ≡ Some target
  pub map_is : IsMapOfLink (view_setting environment written (first_name domain.path) target (first_name codomain.path)) assigns along

-- The module under this name is a view, and over what is known its ends and its map are those of the face.
pub record IsAcceptedView (library : Library) (environment : Environment) (name : Name) (face : ViewFace) : Type 0 where
  pub written : Written
  pub domain : Written
  pub codomain : Written
  pub assigns : List Assign
  pub module_is : IsModule library name (ViewModule written domain codomain assigns)
  pub named : face.name ≡ name
  pub from : face.domain ≡ first_name domain.path
  pub to : face.codomain ≡ first_name codomain.path
  pub view_is : IsViewBetween environment written domain codomain assigns face.map

-- The face of a written view with this map.
abbrev pub face_between : Name → Written → Written → HeadMap → ViewFace
face_between name domain codomain along =
    record { name = name; domain = first_name domain.path; codomain = first_name codomain.path; map = along }

-- A view is accepted with a face exactly where its text is such a view, over what it knows of others.
abbrev pub AcceptedViews : Type 0
AcceptedViews =
    (library : Library) (name : Name) (face : ViewFace)
    → (verdict_of library name ≡ Some (Accepted (View face))) ↔ IsAcceptedView library (known_to library name) name face

-- So a written view is accepted with a map exactly where its ends are accepted theories, and the map is that of the link
-- between them.
abbrev pub WrittenViews : Type 0
WrittenViews =
    (library : Library) (name : Name) (written domain codomain : Written) (assigns : List Assign) (along : HeadMap)
    → IsModule library name (ViewModule written domain codomain assigns)
    → (verdict_of library name ≡ Some (Accepted (View (face_between name domain codomain along)))) ↔ IsViewBetween (known_to library name) written domain codomain assigns along

-- It is all one whether this is over what the module knows, or over all that the library's verdicts tell.
abbrev pub AcceptedViewsTold : Type 0
AcceptedViewsTold =
    (library : Library) (name : Name) (face : ViewFace)
    → (verdict_of library name ≡ Some (Accepted (View face))) ↔ IsAcceptedView library (told_by library) name face

-- So it is of a written view.
abbrev pub WrittenViewsTold : Type 0
WrittenViewsTold =
    (library : Library) (name : Name) (written domain codomain : Written) (assigns : List Assign) (along : HeadMap)
    → IsModule library name (ViewModule written domain codomain assigns)
    → (verdict_of library name ≡ Some (Accepted (View (face_between name domain codomain along)))) ↔ IsViewBetween (told_by library) written domain codomain assigns along
