-- What checking a view answers, in the words of the definitions.
use Rattle.std.specs.Prelude.{[]}
use Rattle.std.specs.Prelude.{Option, Some, None}
use Rattle.lf_meaning.specs.HeadMaps.{HeadMap}
use Rattle.text_meaning.specs.Trees.{first_name}
use Rattle.library_meaning.specs.Faces as faces
use Rattle.link_meaning.specs.Assignments.{Setting}
use Rattle.verdict_meaning.specs.Modules.{empty_theory, view_setting}
use Rattle.mmt_syntax.specs.Readings.{read_written}
use Rattle.mmt_syntax.specs.declared.module.ViewDecl.{ViewDecl}

-- The theory, or one without declarations where there is none.
abbrev pub theory_or_empty : Option faces.TheoryFace → faces.TheoryFace
theory_or_empty None = empty_theory []
theory_or_empty (Some face) = face

-- Where the link of a view stands, whose codomain is an accepted theory.
abbrev pub setting_of : faces.Environment → ViewDecl → Setting
setting_of environment view =
    view_setting environment (read_written view.name) (first_name view.domain.path) (theory_or_empty (faces.theory_of environment (first_name view.codomain.path))) (first_name view.codomain.path)

-- The face of a view with this map.
abbrev pub face_with : ViewDecl → HeadMap → faces.ViewFace
face_with view along = record { name = first_name view.name.path; domain = first_name view.domain.path; codomain = first_name view.codomain.path; map = along }
