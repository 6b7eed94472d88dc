-- What is accepted comes from a text that reads as a tree, which has passed its tests.
use Rattle.std.proofs.Common.{◌≡◌, ℕ, Bool, true, false, List, length, Some, Ok, Err, refl, sym, ap, ◌∙◌}
use Rattle.name_meaning.specs.Names.{same_name as same_bytes, Name, Text, is_among}
use Rattle.edit_log_meaning.specs.Log.{Library, text_of}
use Rattle.text_meaning.specs.Trees.{Written, Decl, Module, SigModule, ViewModule, first_name}
use Rattle.text_meaning.specs.Reading.{ModuleText, ModuleTree, JudgementTree, Answer, Read, Syntax, TooDeep, Unsupported}
use Rattle.text_meaning.specs.TextAnswers.{read}
use Rattle.library_meaning.specs.Faces.{TheoryFace, ViewFace, IsTheory, Environment, flat_signature}
use Rattle.elaborate_meaning.specs.Rules.{Rule}
use Rattle.link_meaning.specs.Refusals.{Outcome, demand}
use Rattle.link_laws.proofs.Covered.{good_same}
use Rattle.link_laws.proofs.Valued.{demand_holds}
use Rattle.verdict_meaning.specs.Modules.{empty_theory, declare_all, checked_view}
use Rattle.verdict_meaning.specs.Verdicts.{Interface, Theory, View, Verdict, Accepted, Refused, verdict_by, known_by, written_name, checked, judge_tree, judge_answer, judge}
use Rattle.verdict_meaning.specs.Rounds.{verdict_of, known_to}
use Rattle.verdict_laws.proofs.Verdicts.{verdict_is_judged}
use Rattle.coherence_laws.proofs.LibrariesHold.{cycle_refuses, verdict_text}
use Rattle.std.proofs.lemmas.Option.{same_Some}
use Rattle.name_laws.proofs.Order.{same_sound}
use Rattle.list_laws.proofs.Answers.{came_by}
use Rattle.module_graph_meaning.specs.Walks.{ungrounded_names}
use Rattle.text_meaning.specs.Dependencies.{dependencies}

-- ---- a module that passes its tests

-- a theory's declarations, and the number of constants that they make
pub record FromDeclarations (environment : Environment) (tree : Module) (face : TheoryFace) (size : ℕ) : Type 0 where
  pub written : Written
  pub decls : List Decl
  pub is : tree ≡ SigModule written decls
  pub declared : declare_all environment (empty_theory (first_name written.path)) decls ≡ Ok face
  pub counted : size ≡ length (flat_signature environment face)

pub from_declarations : (environment : Environment) (tree : Module) (face : TheoryFace) (size : ℕ) → checked environment tree ≡ Ok (Theory face size) → FromDeclarations environment tree face size
from_declarations environment (SigModule written decls) face size h =
    let d = came_by (declare_all environment (empty_theory (first_name written.path)) decls) _ (Theory face size) h in
    let e : d.item ≡ face = faces_same (good_same d.goes) in
    record {
      written = written;
      decls = decls;
      is = refl;
      declared = d.came ∙ ap Ok e;
      counted = sym (sizes_same (good_same d.goes)) ∙ ap (λ z. length (flat_signature environment z)) e;
    }
  where
    faces_same : {x y : TheoryFace} {n m : ℕ} → Theory x n ≡ Theory y m → x ≡ y
    faces_same q = cc

    sizes_same : {x y : TheoryFace} {n m : ℕ} → Theory x n ≡ Theory y m → n ≡ m
    sizes_same q = cc
from_declarations environment (ViewModule written domain codomain assigns) face size h =
    let d = came_by (checked_view environment written domain codomain assigns) _ (Theory face size) h in
    absurd (no_view (good_same d.goes))
  where
    no_view : {x : ViewFace} {y : TheoryFace} {n : ℕ} → View x ≡ Theory y n → ⊥
    no_view q = absurd (cc)

-- a tree that is written with its name, and passes its tests
record TreePasses (environment : Environment) (name : Name) (tree : Module) (interface : Interface) : Type 0 where
  named : first_name (written_name tree).path ≡ name
  passes : checked environment tree ≡ Ok interface

tree_passes : (environment : Environment) (ungrounded : Name → Bool) (name : Name) (tree : Module) (b : Bool) (interface : Interface) → judge_tree environment ungrounded name tree b ≡ Ok interface → TreePasses environment name tree interface
tree_passes environment ungrounded name tree true interface h = absurd (cycle_refuses name _ interface h)
tree_passes environment ungrounded name tree false interface h =
    let n = came_by (demand (same_bytes (first_name (written_name tree).path) name) (written_name tree).span Rule.WrongName (written_name tree).path) _ interface h in
    record {
      named = same_sound (first_name (written_name tree).path) name (demand_holds (same_bytes (first_name (written_name tree).path) name) (written_name tree).span Rule.WrongName (written_name tree).path n.item n.came);
      passes = n.goes;
    }

-- ---- a text that is accepted

pub record FromText (environment : Environment) (name : Name) (text : Text) (interface : Interface) : Type 0 where
  pub tree : Module
  pub is_read : read ModuleText text ≡ Read (ModuleTree tree)
  pub named : first_name (written_name tree).path ≡ name
  pub passes : checked environment tree ≡ Ok interface

answer_passes : (environment : Environment) (ungrounded : Name → Bool) (name : Name) (text : Text) (answer : Answer) (interface : Interface)
    → read ModuleText text ≡ answer → judge_answer environment ungrounded name answer ≡ Ok interface → FromText environment name text interface
answer_passes environment ungrounded name text (Read (ModuleTree tree)) interface e h =
    let t = tree_passes environment ungrounded name tree (ungrounded name) interface h in
    record { tree = tree; is_read = e; named = t.named; passes = t.passes }
answer_passes environment ungrounded name text (Read (JudgementTree tree)) interface e h = absurd (cc)
answer_passes environment ungrounded name text (Syntax at) interface e h = absurd (cc)
answer_passes environment ungrounded name text (TooDeep at) interface e h = absurd (cc)
answer_passes environment ungrounded name text (Unsupported at) interface e h = absurd (cc)

-- The tree of an accepted verdict passes.
pub accepted_outcome : (outcome : Outcome Interface) (interface : Interface) → verdict_by outcome ≡ Accepted interface → outcome ≡ Ok interface
accepted_outcome (Ok found) interface h = ap Ok (same h)
  where
    same : {x y : Interface} → Accepted x ≡ Accepted y → x ≡ y
    same q = cc
accepted_outcome (Err refusal) interface h = absurd (cc)

from_text : (environment : Environment) (ungrounded : Name → Bool) (name : Name) (text : Text) (interface : Interface) → judge environment ungrounded name text ≡ Accepted interface → FromText environment name text interface
unfolding judge
from_text environment ungrounded name text interface h =
    answer_passes environment ungrounded name text (read ModuleText text) interface refl (accepted_outcome (judge_answer environment ungrounded name (read ModuleText text)) interface h)

-- ---- an accepted module of a library

pub record FromLibrary (library : Library) (name : Name) (interface : Interface) : Type 0 where
  pub text : Text
  pub has : text_of library name ≡ Some text
  pub from : FromText (known_to library name) name text interface

pub from_library : (library : Library) (name : Name) (interface : Interface) → verdict_of library name ≡ Some (Accepted interface) → FromLibrary library name interface
from_library library name interface h =
    let t = verdict_text library name (text_of library name) (Accepted interface) refl h in
    record {
      text = t.0;
      has = t.1;
      from = from_text (known_to library name) (is_among (ungrounded_names dependencies library)) name t.0 interface (same_Some _ _ (sym (verdict_is_judged library name t.0 t.1) ∙ h));
    }

-- what is known as a theory was accepted with a size
pub theory_verdict : (verdict : Verdict) (face : TheoryFace) → known_by verdict ≡ IsTheory face → (size : ℕ) × (verdict ≡ Accepted (Theory face size))
theory_verdict (Accepted (Theory found size)) face e = (size, ap (λ z. Accepted (Theory z size)) (same e))
  where
    same : {x y : TheoryFace} → IsTheory x ≡ IsTheory y → x ≡ y
    same q = cc
theory_verdict (Accepted (View found)) face e = absurd (cc)
theory_verdict (Refused refusal) face e = absurd (cc)
