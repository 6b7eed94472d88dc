-- Names that a theory has already.
use Rattle.std.proofs.Common.{◌≡◌, ℕ, ◌+◌, ◌<◌, ◌≤◌, true, false, cond, List, [], ◌∷◌, length, get_or, drop, Option, Some, None, Ok, is_some, sym, ap, ◌∙◌, true≢false}
use Rattle.std.specs.Option.{option_map}
use Rattle.std.specs.Borrow.{Bor}
use Rattle.list_laws.proofs.Options.{none_of, some_mapped}
use Rattle.list_laws.proofs.Answers.{came_by, ok_same}
use Rattle.std.proofs.lemmas.Bool.{false_from_ne_true, or_left}
use Rattle.name_meaning.specs.Names.{Name, same_name}
use Rattle.lf_meaning.specs.Signatures.{Declaration, declaration_of}
use Rattle.library_meaning.specs.Faces.{structure_of}
use Rattle.library_meaning.specs.Resolution.{Scope, own_at}
use Rattle.text_meaning.specs.Trees.{Written, Expr, first_name}
use Rattle.elaborate_meaning.specs.Values.{expand_class}
use Rattle.link_meaning.specs.Refusals.{labelled}
use Rattle.verdict_meaning.specs.Modules.{declared_value, is_used}
use Rattle.library_laws.proofs.OwnConstants.{own_found}
use Rattle.base_types.specs.declared.qname.QName.{QName}
use Rattle.term_trees.specs.declared.flat_decl.FlatDecl.{FlatDecl}
use Rattle.term_trees.specs.Readings.{read_constant, read_declaration, read_signature}
use Rattle.mmt_interface.specs.Readings.{read_structure, read_structures, read_theory}
use Rattle.mmt_interface.proofs.StructureRows.{structure_next, structure_past}
use Rattle.mmt_interface.specs.declared.face.StructFace.{StructFace}
use Rattle.mmt_interface.specs.declared.face.TheoryFace.{TheoryFace}
use Rattle.module_verdicts.specs.Answers.{IsNamed}
use Rattle.module_verdicts.specs.Steps.{constant_answer}

-- The structure at a place has the name.
pub structure_found : (structures : List StructFace) (name : Name) (place : ℕ) (here : StructFace) → place < length structures → here ≡ get_or structures place here
    → structure_of (read_structures structures) name ≡ structure_of (read_structures (drop place structures)) name → same_name here.name name ≡ true → true ≡ is_some (structure_of (read_structures structures) name)
structure_found structures name place here within is so_far same =
    sym (ap is_some (so_far ∙ structure_next structures name place here within is
    ∙ ap (λ b. cond b (Some (read_structure here)) (structure_of (read_structures (drop (place + 1) structures)) name)) same))

-- That one has another name.
pub structure_passed : (structures : List StructFace) (name : Name) (place : ℕ) (here : StructFace) → place < length structures → here ≡ get_or structures place here
    → structure_of (read_structures structures) name ≡ structure_of (read_structures (drop place structures)) name → same_name here.name name ≡ false
    → structure_of (read_structures structures) name ≡ structure_of (read_structures (drop (place + 1) structures)) name
structure_passed structures name place here within is so_far same =
    so_far ∙ structure_next structures name place here within is
    ∙ ap (λ b. cond b (Some (read_structure here)) (structure_of (read_structures (drop (place + 1) structures)) name)) same

-- No structure is left.
pub structure_none : (structures : List StructFace) (name : Name) (place : ℕ) → length structures ≤ place
    → structure_of (read_structures structures) name ≡ structure_of (read_structures (drop place structures)) name → false ≡ is_some (structure_of (read_structures structures) name)
structure_none structures name place past so_far = sym (ap is_some (so_far ∙ structure_past structures name place past))

-- A constant that is looked up by its name is the own one at that path.
pub found_constant : (here : TheoryFace) (constant : QName) (name : Name) (found : Option (Bor FlatDecl)) → IsNamed (read_theory here) → constant ≡ record { theory = here.name; path = name ∷ [] }
    → option_map (λ (d : Bor FlatDecl). read_declaration d.now) found ≡ declaration_of (read_signature here.own) (read_constant constant)
    → is_some found ≡ is_some (own_at (read_signature here.own) (name ∷ []))
found_constant here constant name found named is looked =
    sym (some_mapped (λ (d : Bor FlatDecl). read_declaration d.now) found)
    ∙ ap is_some (looked ∙ ap (λ (z : QName). declaration_of (read_signature here.own) (read_constant z)) is ∙ own_found (read_signature here.own) here.name (name ∷ []) named)

-- Nothing is declared under an unused name.
pub unused_declared : (here : TheoryFace) (name : Name) → IsNamed (read_theory here) → is_used (read_theory here) name ≡ false → declaration_of (read_signature here.own) (record { theory = here.name; path = name ∷ [] }) ≡ None
unused_declared here name named unused =
    own_found (read_signature here.own) here.name (name ∷ []) named
    ∙ none_of (own_at (read_signature here.own) (name ∷ []))
    (false_from_ne_true (is_some (own_at (read_signature here.own) (name ∷ []))) (λ e. true≢false (sym (or_left (is_some (own_at (read_signature here.own) (name ∷ []))) (is_some (structure_of (read_structures here.structs) name)) e) ∙ unused)))

-- A constant that is declared has its written name in the theory.
pub constant_named : (scope : Scope) (theory : Name) (name : Written) (class : Expr) (value : Option Expr) (d : Declaration) → constant_answer scope theory name class value ≡ Ok d → d.name ≡ record { theory = theory; path = first_name name.path ∷ [] }
constant_named scope theory name class value d h =
    let c = came_by (labelled name.path (expand_class scope class)) _ d h in
    let v = came_by (declared_value scope name.path c.item value) _ d c.goes in
    ap (λ (z : Declaration). z.name) (sym (ok_same v.goes))
