-- The law of what a job's answers tell (this profile).
use Rattle.std.specs.Prelude.{◌≡◌}
use Rattle.name_meaning.specs.Names.{Name}
use Rattle.edit_log_meaning.specs.Log.{Library}
use Rattle.module_graph_meaning.specs.Subject.{answers_of}
use Rattle.library_meaning.specs.Environments.{environment_from}
use Rattle.verdict_meaning.specs.Rounds.{known_if, known_to, modules}

-- What is known from the answers of what a name reaches is what the definition lets the module know.
abbrev pub AnswersAreKnown : Type 0
AnswersAreKnown = (library : Library) (name : Name) → environment_from known_if (answers_of modules library name) ≡ known_to library name
