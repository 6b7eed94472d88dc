-- The verdict on a module, over what is known of the others (this profile).
use Rattle.std.specs.Prelude.{ℕ, Bool, true, false, [], ◌∷◌, find, length, Option, Some, None, Ok, Err}
use Rattle.name_meaning.specs.Names.{Name, same_name, Text}
use Rattle.library_meaning.specs.Faces.{TheoryFace, ViewFace, Known, IsRefused, IsTheory, IsView, Environment, flat_signature}
use Rattle.text_meaning.specs.Trees.{Written, Module, SigModule, ViewModule, first_name}
use Rattle.text_meaning.specs.Reading.{ModuleText, ModuleTree, JudgementTree, Answer, Read, Syntax, TooDeep, Unsupported}
use Rattle.text_meaning.specs.TextAnswers.{read}
use Rattle.link_meaning.specs.Below.Rules.{Rule}
use Rattle.answer_meaning.specs.Answers.{◌>>=◌}
use Rattle.link_meaning.specs.Refusals.{Refusal, Outcome, refused, demand}
use Rattle.text_meaning.specs.Dependencies.{Dependency, module_dependencies}
use Rattle.verdict_meaning.specs.Modules.{empty_theory, declare_all, checked_view}

-- What an accepted module shows: a theory's face, with the number of declarations of its flat signature, or a view's.
pub data Interface : Type 0 where
  Theory : (face : TheoryFace) → (size : ℕ) → Interface
  View : (face : ViewFace) → Interface

-- A module is accepted with what it shows, or refused.
pub data Verdict : Type 0 where
  Accepted : Interface → Verdict
  Refused : Refusal → Verdict

-- The verdict of an outcome.
abbrev pub verdict_by : Outcome Interface → Verdict
verdict_by (Ok interface) = Accepted interface
verdict_by (Err refusal) = Refused refusal

-- What a verdict tells of a module.
abbrev pub known_by : Verdict → Known
known_by (Accepted (Theory face size)) = IsTheory face
known_by (Accepted (View face)) = IsView face
known_by (Refused refusal) = IsRefused

-- An unread text is refused at a place, with the name of the module.
abbrev pub unread : {A : Type 0} → Name → Rule → ℕ → Outcome A
unread name rule at = refused (record { from = at; to = at }) rule (name ∷ [])

-- The name with which a module is written.
abbrev pub written_name : Module → Written
written_name (SigModule name decls) = name
written_name (ViewModule name domain codomain assigns) = name

-- The interface of a module whose name is the written one.
abbrev pub checked : Environment → Module → Outcome Interface
checked environment (SigModule name decls) = do
  face ← declare_all environment (empty_theory (first_name name.path)) decls
  Ok (Theory face (length (flat_signature environment face)))
checked environment (ViewModule name domain codomain assigns) = do
  face ← checked_view environment name domain codomain assigns
  Ok (View face)

-- The first dependency that is ungrounded, at its place; an ungrounded module has one.
abbrev pub cycle_at : Name → Option Dependency → Outcome Interface
cycle_at name None = unread name Rule.Cycle 0
cycle_at name (Some dependency) = refused dependency.span Rule.Cycle dependency.label

-- The verdict on a tree that is put under this name: a cycle, where the module is ungrounded; another name than the
-- written one; or the first test that fails.
abbrev pub judge_tree : Environment → (Name → Bool) → Name → Module → Bool → Outcome Interface
judge_tree environment ungrounded name tree true = cycle_at name (find (λ (dependency : Dependency). ungrounded dependency.name) (module_dependencies tree))
judge_tree environment ungrounded name tree false = do
  _ ← demand (same_name (first_name (written_name tree).path) name) (written_name tree).span Rule.WrongName (written_name tree).path
  checked environment tree

-- An unread text is refused where reading stops; else its tree decides.
abbrev pub judge_answer : Environment → (Name → Bool) → Name → Answer → Outcome Interface
judge_answer environment ungrounded name (Read (ModuleTree tree)) = judge_tree environment ungrounded name tree (ungrounded name)
judge_answer environment ungrounded name (Read (JudgementTree tree)) = unread name Rule.Syntax 0
judge_answer environment ungrounded name (Syntax at) = unread name Rule.Syntax at
judge_answer environment ungrounded name (TooDeep at) = unread name Rule.TooDeep at
judge_answer environment ungrounded name (Unsupported at) = unread name Rule.Unsupported at

-- The verdict on a text that is put under this name, over what is known of the other modules, and which present names
-- are ungrounded.
unfoldable pub judge : Environment → (Name → Bool) → Name → Text → Verdict
judge environment ungrounded name text = verdict_by (judge_answer environment ungrounded name (read ModuleText text))
