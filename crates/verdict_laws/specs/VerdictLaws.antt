-- Laws of verdicts (this profile).
use Rattle.verdict_meaning.specs.Rounds.{known_to, others_reached, verdict_of, modules}
use Rattle.std.specs.Prelude.{◌≡◌, ℕ, ◌<◌, true, false, slice_get, Some}
use Rattle.name_meaning.specs.Names.{Name, Text, is_among}
use Rattle.edit_log_meaning.specs.Log.{Library, text_of}
use Rattle.module_graph_meaning.specs.Walks.{is_ungrounded, is_grounded, ungrounded_names}
use Rattle.module_graph_meaning.specs.Reach.{reach}
use Rattle.module_graph_meaning.specs.Subject.{AnswersPresent, KeepsToReach}
use Rattle.text_meaning.specs.Trees.{Module}
use Rattle.text_meaning.specs.Reading.{ModuleText, ModuleTree, Read}
use Rattle.text_meaning.specs.TextAnswers.{read}
use Rattle.elaborate_meaning.specs.Rules.{Rule}
use Rattle.text_meaning.specs.Dependencies.{Dependency, module_dependencies, dependencies}
use Rattle.verdict_meaning.specs.Verdicts.{Refused, judge}

-- There is a verdict on each present name, and on no other.
abbrev pub PresentNamesHaveVerdicts : Type 0
PresentNamesHaveVerdicts = AnswersPresent modules

-- The verdict on a present name is that on its text, over the verdicts of what it reaches.
abbrev pub VerdictIsJudged : Type 0
VerdictIsJudged =
    (library : Library) (name : Name) (text : Text) → text_of library name ≡ Some text
    → verdict_of library name ≡ Some (judge (known_to library name) (is_among (ungrounded_names dependencies library)) name text)

-- The verdict on a grounded name is equal in any two libraries that agree on its reach.
abbrev pub VerdictKeepsToReach : Type 0
VerdictKeepsToReach = KeepsToReach modules

-- The verdict on a grounded name depends on its text and the verdicts of its reach alone.
abbrev pub VerdictRestsOnVerdicts : Type 0
VerdictRestsOnVerdicts =
    (library other : Library) (name : Name) (text : Text) → text_of library name ≡ Some text → text_of other name ≡ Some text
    → is_grounded dependencies library name ≡ true → is_grounded dependencies other name ≡ true
    → reach dependencies library name ≡ reach dependencies other name
    → ((reached : Name) → is_among (others_reached library name) reached ≡ true → verdict_of library reached ≡ verdict_of other reached)
    → verdict_of library name ≡ verdict_of other name

-- The module is refused as a cycle, at the first of its dependencies in the order of the text that is ungrounded itself.
pub record IsCycle (library : Library) (name : Name) : Type 0 where
  pub text : Text
  pub has : text_of library name ≡ Some text
  pub tree : Module
  pub is_read : read ModuleText text ≡ Read (ModuleTree tree)
  pub dependency : Dependency
  pub place : ℕ
  pub found : slice_get (module_dependencies tree) place ≡ Some dependency
  pub ungrounded : is_ungrounded dependencies library dependency.name ≡ true
  pub first : (earlier : ℕ) (other : Dependency) → earlier < place → slice_get (module_dependencies tree) earlier ≡ Some other
      → is_ungrounded dependencies library other.name ≡ false
  pub refused : verdict_of library name ≡ Some (Refused (record { span = dependency.span; rule = Rule.Cycle; label = dependency.label }))

-- An ungrounded module is refused so, and never accepted.
abbrev pub UngroundedIsCycle : Type 0
UngroundedIsCycle = (library : Library) (name : Name) → is_ungrounded dependencies library name ≡ true → IsCycle library name
