-- What makes a theory accepted, with no order of tests (Rabe and Kohlhase 2013, section 3: theories; the rest is this profile).
use Rattle.std.specs.Prelude.{◌≡◌, ◌↔◌, ℕ, List, length, Some, Ok}
use Rattle.name_meaning.specs.Names.{Name}
use Rattle.edit_log_meaning.specs.Log.{Library}
use Rattle.text_meaning.specs.Trees.{Written, Decl, SigModule}
use Rattle.library_meaning.specs.Faces.{TheoryFace, Environment, flat_signature}
use Rattle.library_meaning.specs.Coherence.{IsCoherent}
use Rattle.verdict_meaning.specs.Modules.{empty_theory, declare_all}
use Rattle.verdict_meaning.specs.Verdicts.{Theory, Accepted}
use Rattle.verdict_meaning.specs.Rounds.{verdict_of, told_by, known_to}
use Rattle.acceptance_laws.specs.ViewLaws.{IsModule}
use Rattle.acceptance_laws.specs.Declares.{DeclaresAll}

-- Where what is known is coherent, the tests answer a face exactly where the declarations lead to it.
abbrev pub TestsAnswerDeclared : Type 0
TestsAnswerDeclared =
    (environment : Environment) (here face : TheoryFace) (decls : List Decl) → IsCoherent environment
    → (declare_all environment here decls ≡ Ok face) ↔ DeclaresAll environment here decls face

-- They lead to at most one.
abbrev pub OneFaceDeclared : Type 0
OneFaceDeclared =
    (environment : Environment) (here face other : TheoryFace) (decls : List Decl) → IsCoherent environment
    → DeclaresAll environment here decls face → DeclaresAll environment here decls other → face ≡ other

-- The module under this name is a theory, and over what is known its declarations lead from the empty theory to the face.
-- The size is the number of declarations of its flat signature.
pub record IsAcceptedTheory (library : Library) (environment : Environment) (name : Name) (face : TheoryFace) (size : ℕ) : Type 0 where
  pub written : Written
  pub decls : List Decl
  pub module_is : IsModule library name (SigModule written decls)
  pub declared : DeclaresAll environment (empty_theory name) decls face
  pub counted : size ≡ length (flat_signature environment face)

-- A theory is accepted with a face and a size exactly where its text is such a theory, over what it knows of others.
abbrev pub AcceptedTheories : Type 0
AcceptedTheories =
    (library : Library) (name : Name) (face : TheoryFace) (size : ℕ)
    → (verdict_of library name ≡ Some (Accepted (Theory face size))) ↔ IsAcceptedTheory library (known_to library name) name face size

-- So a written theory is accepted with a face exactly where its declarations lead to it from the empty theory.
abbrev pub WrittenTheories : Type 0
WrittenTheories =
    (library : Library) (name : Name) (written : Written) (decls : List Decl) (face : TheoryFace) → IsModule library name (SigModule written decls)
    → (verdict_of library name ≡ Some (Accepted (Theory face (length (flat_signature (known_to library name) face))))) ↔ DeclaresAll (known_to library name) (empty_theory name) decls face

-- It is all one whether this is over what the module knows, or over all that the library's verdicts tell.
abbrev pub AcceptedTheoriesTold : Type 0
AcceptedTheoriesTold =
    (library : Library) (name : Name) (face : TheoryFace) (size : ℕ)
    → (verdict_of library name ≡ Some (Accepted (Theory face size))) ↔ IsAcceptedTheory library (told_by library) name face size

-- So it is of a written theory.
abbrev pub WrittenTheoriesTold : Type 0
WrittenTheoriesTold =
    (library : Library) (name : Name) (written : Written) (decls : List Decl) (face : TheoryFace) → IsModule library name (SigModule written decls)
    → (verdict_of library name ≡ Some (Accepted (Theory face (length (flat_signature (told_by library) face))))) ↔ DeclaresAll (told_by library) (empty_theory name) decls face
