-- What a subject is given when it judges, and its law (this profile).
use Rattle.std.specs.Prelude.{◌≡◌, true, List, map, Option, Some}
use Rattle.std.specs.Option.{option_map}
use Rattle.name_meaning.specs.Names.{Name, Text}
use Rattle.edit_log_meaning.specs.Log.{Library, IsLibrary, text_of}
use Rattle.module_graph_meaning.specs.Walks.{is_grounded, is_ungrounded, ungrounded_names}
use Rattle.module_graph_meaning.specs.Subject.{Subject, AnswersPresent, KeepsToReach, answers_of}

-- What answers under names stand for.
abbrev pub read_answers : {Answer Meaning : Type 0} → (Answer → Meaning) → List (Name × Option Answer) → List (Name × Option Meaning)
read_answers {Answer} {Meaning} meaning answers = map (λ (row : Name × Option Answer). (row.0, option_map meaning row.1)) answers

-- The subject answers of the present names and of no others, and its answer of a grounded name depends on the texts of the
-- name's reach alone.
pub record IsLawful {Meaning : Type 0} (subject : Subject Meaning) : Type 0 where
  pub present : AnswersPresent subject
  pub reach : KeepsToReach subject

-- The library has this text under this name, the name is grounded, and these are the subject's answers of what it reaches, the
-- name itself left out.
pub record IsGiven {Meaning : Type 0} (subject : Subject Meaning) (name : Name) (text : Text) (answers : List (Name × Option Meaning)) (library : Library) : Type 0 where
  pub is_library : IsLibrary library
  pub has : text_of library name ≡ Some text
  pub grounded : is_grounded subject.dependencies library name ≡ true
  pub reached : answers_of subject library name ≡ answers

-- The library has this text under this name, the name is ungrounded, and these are the library's ungrounded names.
pub record IsCyclic {Meaning : Type 0} (subject : Subject Meaning) (name : Name) (text : Text) (bad : List Name) (library : Library) : Type 0 where
  pub is_library : IsLibrary library
  pub has : text_of library name ≡ Some text
  pub ungrounded : is_ungrounded subject.dependencies library name ≡ true
  pub others : ungrounded_names subject.dependencies library ≡ bad
