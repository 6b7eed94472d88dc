-- A module of a library is accepted exactly where it is grounded, written with its name, and passes its tests.
use Rattle.std.proofs.Common.{◌≡◌, true, false, not, length, Some, is_some, Ok, sym, ap, ◌∙◌}
use Rattle.std.proofs.lemmas.Bool.{and_from}
use Rattle.name_meaning.specs.Names.{Path, same_name as same_bytes, Name, is_among}
use Rattle.edit_log_meaning.specs.Log.{Library, is_present}
use Rattle.module_graph_meaning.specs.Walks.{is_ungrounded, is_grounded, ungrounded_names}
use Rattle.text_meaning.specs.Trees.{Written, Module, first_name}
use Rattle.text_meaning.specs.Reading.{ModuleText, ModuleTree, Read}
use Rattle.text_meaning.specs.TextAnswers.{read}
use Rattle.library_meaning.specs.Faces.{TheoryFace, Environment, theory_of}
use Rattle.elaborate_meaning.specs.Rules.{Rule}
use Rattle.link_meaning.specs.Refusals.{demand}
use Rattle.link_laws.proofs.Linked.{known_theory}
use Rattle.link_laws.proofs.Valued.{demand_by}
use Rattle.text_meaning.specs.Dependencies.{dependencies}
use Rattle.verdict_meaning.specs.Modules.{known_theory as theory_known, module_test}
use Rattle.verdict_meaning.specs.Verdicts.{Interface, Accepted, verdict_by, written_name, checked, judge_tree, judge_answer, judge}
use Rattle.verdict_meaning.specs.Rounds.{verdict_of, known_to}
use Rattle.verdict_laws.proofs.Shortness.{short_grounded}
use Rattle.verdict_laws.proofs.Verdicts.{not_ungrounded, verdict_is_judged}
use Rattle.acceptance_laws.specs.ViewLaws.{IsModule}
use Rattle.coherence_laws.proofs.LibrariesHold.{accepted_short}
use Rattle.coherence_laws.proofs.AcceptedTrees.{from_library}
use Rattle.std.proofs.lemmas.Option.{same_Some}
use Rattle.name_laws.proofs.Order.{same_itself}
use Rattle.list_laws.proofs.Answers.{goes_by}
use Rattle.list_laws.proofs.Options.{some_of}

-- ---- tests that are passed

module _ (environment : Environment) (label : Path) (written : Written) where
  pub test_passed : (face : TheoryFace) → theory_of environment (first_name written.path) ≡ Some face → module_test environment label written ≡ Ok face
  test_passed face e = ap (theory_known written.span label) (known_theory (environment (first_name written.path)) face e)

  pub some_passes : is_some (theory_of environment (first_name written.path)) ≡ true → (face : TheoryFace) × (module_test environment label written ≡ Ok face)
  some_passes s = let f = some_of (theory_of environment (first_name written.path)) s in (f.0, test_passed f.0 f.1)

-- ---- from the verdict to the tests, and back

module _ (library : Library) (name : Name) where
  accepted_grounded : (interface : Interface) → verdict_of library name ≡ Some (Accepted interface) → is_grounded dependencies library name ≡ true
  unfolding is_ungrounded ungrounded_names
  accepted_grounded interface h =
      let l = from_library library name interface h in
      and_from (is_present library name) (not (is_ungrounded dependencies library name)) (ap is_some l.has)
      (ap not (short_grounded dependencies library (length library) name (accepted_short library name interface h)))

  pub record Passed (interface : Interface) : Type 0 where
    pub tree : Module
    pub module_is : IsModule library name tree
    pub passes : checked (known_to library name) tree ≡ Ok interface

  pub passed : (interface : Interface) → verdict_of library name ≡ Some (Accepted interface) → Passed interface
  passed interface h =
      let l = from_library library name interface h in
      record {
        tree = l.from.tree;
        module_is = record { text = l.text; has = l.has; is_read = l.from.is_read; grounded = accepted_grounded interface h; named = l.from.named };
        passes = l.from.passes;
      }

  pub accepted : (tree : Module) (interface : Interface) → IsModule library name tree → checked (known_to library name) tree ≡ Ok interface → verdict_of library name ≡ Some (Accepted interface)
  unfolding judge
  accepted tree interface m h =
      verdict_is_judged library name m.text m.has
      ∙ ap (λ a. Some (verdict_by (judge_answer (known_to library name) (is_among (ungrounded_names dependencies library)) name a))) m.is_read
      ∙ ap (λ b. Some (verdict_by (judge_tree (known_to library name) (is_among (ungrounded_names dependencies library)) name tree b))) (not_ungrounded library name m.grounded)
      ∙ ap (λ o. Some (verdict_by o)) outcome
    where
      outcome : judge_tree (known_to library name) (is_among (ungrounded_names dependencies library)) name tree false ≡ Ok interface
      outcome =
          goes_by (demand (same_bytes (first_name (written_name tree).path) name) (written_name tree).span Rule.WrongName (written_name tree).path) _ tt interface
          (demand_by (same_bytes (first_name (written_name tree).path) name) (written_name tree).span Rule.WrongName (written_name tree).path (ap (λ z. same_bytes z name) m.named ∙ same_itself name)) h

  -- a name has at most one tree
  pub one_tree : (tree other : Module) → IsModule library name tree → IsModule library name other → tree ≡ other
  one_tree tree other m n = trees_same (sym m.is_read ∙ ap (read ModuleText) (same_Some _ _ (sym m.has ∙ n.has)) ∙ n.is_read)
    where
      trees_same : {x y : Module} → Read (ModuleTree x) ≡ Read (ModuleTree y) → x ≡ y
      trees_same q = cc
