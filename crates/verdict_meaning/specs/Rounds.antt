-- The verdicts of a library, by rounds (this profile). Each round judges every module over the verdicts of the round before,
-- restricted to what the module reaches. A grounded module has its verdict as soon as there are as many rounds as its longest
-- walk has names.
use Rattle.name_meaning.specs.Names.{Name, same_name, is_among}
use Rattle.edit_log_meaning.specs.Log.{Library, Module}
use Rattle.library_meaning.specs.Faces.{Environment, Known, IsAbsent}
use Rattle.std.specs.Prelude.{ℕ, zero, suc, List, [], ◌∷◌, map, filter, not, length, Option, Some, None, if◌then◌else◌}
use Rattle.module_graph_meaning.specs.Walks.{ungrounded_names}
use Rattle.module_graph_meaning.specs.Reach.{reach}
use Rattle.module_graph_meaning.specs.Subject.{Subject}
use Rattle.text_meaning.specs.Dependencies.{dependencies}
use Rattle.verdict_meaning.specs.Verdicts.{Verdict, known_by, judge}

-- A module with its verdict.
pub record Judged : Type 0 where
  pub name : Name
  pub verdict : Verdict

-- The verdict under this name, if there is one.
unfoldable pub verdict_under : List Judged → Name → Option Verdict
verdict_under [] name = None
verdict_under (first ∷ judged) name = if same_name name first.name then Some first.verdict else verdict_under judged name

-- What a verdict tells, if there is one.
abbrev pub known_if : Option Verdict → Known
known_if None = IsAbsent
known_if (Some verdict) = known_by verdict

-- What is known of these names from these verdicts; of all others, nothing.
abbrev pub known_of : List Name → List Judged → Environment
known_of names judged name = if is_among names name then known_if (verdict_under judged name) else IsAbsent

-- What the name reaches, without itself.
unfoldable pub others_reached : Library → Name → List Name
others_reached library name = filter (λ (other : Name). not (same_name name other)) (reach dependencies library name)

-- A module judged over the verdicts of a round.
abbrev pub judge_module : Library → List Name → List Judged → Module → Judged
judge_module library ungrounded judged own =
    record { name = own.name; verdict = judge (known_of (others_reached library own.name) judged) (is_among ungrounded) own.name own.text }

-- The verdicts after so many rounds, the ungrounded names being these.
unfoldable pub rounds : Library → List Name → ℕ → List Judged
rounds library ungrounded zero = []
rounds library ungrounded (suc before) = map (judge_module library ungrounded (rounds library ungrounded before)) library

-- The verdicts of a library, in the order of its names: as many rounds as it has names, and one more.
unfoldable pub verdicts : Library → List Judged
verdicts library = rounds library (ungrounded_names dependencies library) (suc (length library))

-- The verdict of a present name.
unfoldable pub verdict_of : Library → Name → Option Verdict
verdict_of library name = verdict_under (verdicts library) name

-- What the verdicts of a library tell of each name.
abbrev pub told_by : Library → Environment
told_by library name = known_if (verdict_of library name)

-- The subject that the board is over: modules, with these dependencies and verdicts.
abbrev pub modules : Subject Verdict
modules = record { dependencies = dependencies; answer = verdict_of }

-- What is known to a module: the verdicts of the library on all that it reaches, without itself.
abbrev pub known_to : Library → Name → Environment
known_to library name = known_of (others_reached library name) (verdicts library)
