-- What is answered of the modules of a library (this profile).
use Rattle.std.specs.Prelude.{List, not, map, filter, Option, None, if◌then◌else◌, ◌≡◌, true, is_some}
use Rattle.name_meaning.specs.Names.{Name, same_name}
use Rattle.edit_log_meaning.specs.Log.{Library, is_present, IsLibrary}
use Rattle.module_graph_meaning.specs.Reach.{reach, AgreesOn}
use Rattle.module_graph_meaning.specs.Walks.{Dependencies, is_grounded}

-- A subject has direct dependencies, and a definition of its answers, by a library and a name of it.
pub record Subject (Answer : Type 0) : Type 0 where
  pub dependencies : Dependencies
  pub answer : Library → Name → Option Answer

-- The subject answers of the present names and of no others.
abbrev pub AnswersPresent : {Answer : Type 0} → Subject Answer → Type 0
AnswersPresent subject =
    (library : Library) (name : Name) → IsLibrary library → is_some (subject.answer library name) ≡ is_present library name

-- The answer of a grounded name depends on the texts of its reach alone.
abbrev pub KeepsToReach : {Answer : Type 0} → Subject Answer → Type 0
KeepsToReach subject =
    (library other : Library) (name : Name) → IsLibrary library → IsLibrary other
    → is_grounded subject.dependencies library name ≡ true
    → AgreesOn library other (reach subject.dependencies library name)
    → subject.answer library name ≡ subject.answer other name

-- The subject's answer of a name, if the library has the name.
abbrev pub present_answer : {Answer : Type 0} → Subject Answer → Library → Name → Option Answer
present_answer subject library name = if is_present library name then subject.answer library name else None

-- The subject's answers of the reach of a name, the name itself left out, in byte order. A name that is absent has
-- none.
unfoldable pub answers_of : {Answer : Type 0} → Subject Answer → Library → Name → List (Name × Option Answer)
answers_of subject library name =
    map (λ (other : Name). (other, present_answer subject library other)) (filter (λ (other : Name). not (same_name name other)) (reach subject.dependencies library name))
