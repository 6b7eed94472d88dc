-- What is judged of the modules of a library, for what prints it (this profile). The definitions of output are over any
-- judging; the one of the rules is given where verdicts are defined.
use Rattle.std.specs.Prelude.{if◌then◌else◌}
use Rattle.name_meaning.specs.Names.{Name, Text}
use Rattle.edit_log_meaning.specs.Log.{Library, is_present}
use Rattle.module_graph_meaning.specs.Walks.{Dependencies}
use Rattle.library_meaning.specs.Faces.{Known, IsAbsent, IsRefused, IsTheory, IsView, Environment}
use Rattle.printing_meaning.specs.VerdictLines.{Judged, known_by}
use Rattle.printing_meaning.specs.CarriedLines.{Carried}
use Rattle.printing_meaning.specs.Constants.{Seen}
use Rattle.printing_meaning.specs.PrintedTables.{seen_from}

-- The direct dependencies of a module, the verdict of each present module of a library, and what carrying a judgement
-- along a module gives.
pub record Judging : Type 0 where
  pub dependencies : Dependencies
  pub judged : Library → Name → Judged
  pub carried : Library → Name → Text → Carried

-- What is known of each module of the library.
abbrev pub environment_of : Judging → Library → Environment
environment_of judging library name = if is_present library name then known_by (judging.judged library name) else IsAbsent

-- The codomain of a view, and of another module that module itself.
abbrev pub codomain_of : Name → Known → Name
codomain_of name IsAbsent = name
codomain_of name IsRefused = name
codomain_of name (IsTheory face) = name
codomain_of name (IsView face) = face.codomain

-- What is carried along a view is seen from its codomain.
abbrev pub seen_along : Environment → Name → Seen
seen_along environment view = seen_from environment (codomain_of view (environment view))
