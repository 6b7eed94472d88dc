-- A theory is accepted exactly where its declarations lead from the empty theory to its face.
use Rattle.std.proofs.Common.{◌≡◌, List, ℕ, length, Some, Ok, refl, sym, ap, ◌∙◌, subst}
use Rattle.name_meaning.specs.Names.{Name}
use Rattle.edit_log_meaning.specs.Log.{Library}
use Rattle.text_meaning.specs.Trees.{Written, Decl, Module, SigModule, first_name}
use Rattle.library_meaning.specs.Faces.{TheoryFace, flat_signature}
use Rattle.verdict_meaning.specs.Modules.{empty_theory, declare_all}
use Rattle.verdict_meaning.specs.Verdicts.{Theory, Accepted, checked}
use Rattle.verdict_meaning.specs.Rounds.{verdict_of, known_to}
use Rattle.acceptance_laws.specs.ViewLaws.{IsModule}
use Rattle.acceptance_laws.specs.Declares.{DeclaresAll}
use Rattle.acceptance_laws.specs.TheoryLaws.{IsAcceptedTheory, AcceptedTheories, WrittenTheories}
use Rattle.coherence_laws.proofs.LibrariesHold.{grounded_know_coherent}
use Rattle.coherence_laws.proofs.AcceptedTrees.{from_declarations}
use Rattle.acceptance_laws.proofs.AcceptedModules.{passed, accepted, one_tree}
use Rattle.acceptance_laws.proofs.Declared.{declared_sound, declared_complete}
use Rattle.list_laws.proofs.Answers.{goes_by}

module _ (library : Library) (name : Name) where
  tree_declares : (tree : Module) (face : TheoryFace) (size : ℕ) → IsModule library name tree → checked (known_to library name) tree ≡ Ok (Theory face size) → IsAcceptedTheory library (known_to library name) name face size
  tree_declares tree face size m h =
      let d = from_declarations (known_to library name) tree face size h in
      let n : IsModule library name (SigModule d.written d.decls) = subst (IsModule library name) d.is m in
      record {
        written = d.written;
        decls = d.decls;
        module_is = n;
        declared = declared_sound (known_to library name) (grounded_know_coherent library name m.grounded) (empty_theory name) face d.decls (ap (λ z. declare_all (known_to library name) (empty_theory z) d.decls) (sym n.named) ∙ d.declared);
        counted = d.counted;
      }

  theory_accepted : (face : TheoryFace) (size : ℕ) → IsAcceptedTheory library (known_to library name) name face size → verdict_of library name ≡ Some (Accepted (Theory face size))
  theory_accepted face size t =
      accepted library name (SigModule t.written t.decls) (Theory face size) t.module_is
      (goes_by (declare_all (known_to library name) (empty_theory (first_name t.written.path)) t.decls) _ face (Theory face size)
      (ap (λ z. declare_all (known_to library name) (empty_theory z) t.decls) t.module_is.named
      ∙ declared_complete (known_to library name) (grounded_know_coherent library name t.module_is.grounded) (empty_theory name) face t.decls t.declared)
      (ap (λ z. Ok (Theory face z)) (sym t.counted)))

pub accepted_theories : AcceptedTheories
accepted_theories library name face size = (
  (λ h. let p = passed library name (Theory face size) h in tree_declares library name p.tree face size p.module_is p.passes),
  (λ t. theory_accepted library name face size t),
)

-- equal trees have equal declarations
pub decls_same : {a b : Written} {s t : List Decl} → SigModule a s ≡ SigModule b t → s ≡ t
decls_same e = cc

pub written_theories : WrittenTheories
written_theories library name written decls face m = (
  (λ h. let t = (accepted_theories library name face (length (flat_signature (known_to library name) face))).0 h in
      subst (λ z. DeclaresAll (known_to library name) (empty_theory name) z face)
      (decls_same (one_tree library name (SigModule t.written t.decls) (SigModule written decls) t.module_is m)) t.declared),
  (λ d. theory_accepted library name face (length (flat_signature (known_to library name) face))
      (record { written = written; decls = decls; module_is = m; declared = d; counted = refl })),
)
