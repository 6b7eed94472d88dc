-- The definition of a declaration, by the steps that the code takes.
use Rattle.std.proofs.Common.{◌≡◌, Bool, true, false, not, [], ◌∷◌, Option, Result, Ok, Err, refl, sym, ap, ◌∙◌, subst}
use Rattle.std.specs.Prelude.{⊤, IsSome}
use Rattle.name_meaning.specs.Names.{Path}
use Rattle.lf_meaning.specs.Signatures.{Declaration}
use Rattle.answer_meaning.specs.Answers.{◌>>=◌}
use Rattle.text_meaning.specs.Trees.{Written, Expr, StructDecl, ConstDecl, first_name}
use Rattle.library_meaning.specs.Faces.{TheoryFace, Known, IsAbsent, IsRefused, IsTheory, IsView, Environment, theory_of, theory_face}
use Rattle.elaborate_meaning.specs.Rules.{Rule}
use Rattle.elaborate_meaning.specs.Values.{expand_class}
use Rattle.link_meaning.specs.Refusals.{Outcome, labelled, demand}
use Rattle.link_meaning.specs.Passes.{link_map}
use Rattle.link_meaning.specs.Induced.{with_structure}
use Rattle.verdict_meaning.specs.Modules.{declare, declared_value, scope_in, unused_test, is_used, module_test, known_theory}
use Rattle.mmt_syntax.specs.Readings.{read_written, read_assigns}
use Rattle.mmt_syntax.specs.declared.decl.StructDecl as code
use Rattle.link_setting.specs.Answers.{IsFirstRefusal}
use Rattle.link_setting.specs.declared.fault.LinkFault.{LinkFault}
use Rattle.link_setting.proofs.FirstRefusals.{refuses_then}
use Rattle.struct_flatten.specs.Answers.{Flattens, setting_of}
use Rattle.module_verdicts.specs.Answers.{Declares}
use Rattle.module_verdicts.specs.Steps.{constant_answer, with_declaration}
use Rattle.module_verdicts.proofs.Built.{refused_next}

grouped : {A B C D E : Type 0} (x : Result A E) (y : A → Result B E) (g : A → B → C) (h : C → D) → (x >>= (λ a. y a >>= (λ b. Ok (h (g a b))))) ≡ ((x >>= (λ a. y a >>= (λ b. Ok (g a b)))) >>= (λ d. Ok (h d)))
grouped {A} {B} {C} {D} {E} (Err fault) y g h = refl
grouped {A} {B} {C} {D} {E} (Ok a) y g h = by (y a)
  where
    by : (o : Result B E) → (o >>= (λ b. Ok (h (g a b)))) ≡ ((o >>= (λ b. Ok (g a b))) >>= (λ d. Ok (h d)))
    by (Err fault) = refl
    by (Ok b) = refl

-- ---- a constant

module _ (environment : Environment) (here : TheoryFace) (name : Written) (class : Expr) (value : Option Expr) where
  answer : Outcome Declaration
  answer = constant_answer (scope_in environment here) here.name name class value

  constant_steps : declare environment here (ConstDecl name class value) ≡ unused_test here name >>= (λ done. constant_answer (scope_in environment here) here.name name class value >>= (λ d. Ok (with_declaration here d)))
  constant_steps =
      ap (λ z. unused_test here name >>= (λ done. z))
      (grouped (labelled name.path (expand_class (scope_in environment here) class)) (λ c. declared_value (scope_in environment here) name.path c value)
      (λ c v. record { name = record { theory = here.name; path = first_name name.path ∷ [] }; class = c; value = v }) (with_declaration here))

  pub constant_used : (fault : LinkFault) → IsFirstRefusal fault (unused_test here name) → IsFirstRefusal fault (declare environment here (ConstDecl name class value))
  constant_used fault h = subst (IsFirstRefusal fault) (sym constant_steps) (refuses_then fault (unused_test here name) _ h)

  pub constant_refused : (fault : LinkFault) → unused_test here name ≡ Ok tt → IsFirstRefusal fault (constant_answer (scope_in environment here) here.name name class value) → IsFirstRefusal fault (declare environment here (ConstDecl name class value))
  constant_refused fault u h =
      subst (IsFirstRefusal fault) (sym constant_steps)
      (refused_next fault (unused_test here name) tt (λ done. constant_answer (scope_in environment here) here.name name class value >>= (λ d. Ok (with_declaration here d))) u
      (refuses_then fault (constant_answer (scope_in environment here) here.name name class value) (λ d. Ok (with_declaration here d)) h))

  pub constant_declared : (d : Declaration) (next : TheoryFace) → unused_test here name ≡ Ok tt → constant_answer (scope_in environment here) here.name name class value ≡ Ok d → next ≡ with_declaration here d
      → declare environment here (ConstDecl name class value) ≡ Ok next
  constant_declared d next u h e =
      constant_steps
      ∙ ap (λ (z : Outcome ⊤). z >>= (λ done. constant_answer (scope_in environment here) here.name name class value >>= (λ k. Ok (with_declaration here k)))) u
      ∙ ap (λ (z : Outcome Declaration). z >>= (λ k. Ok (with_declaration here k))) h
      ∙ ap Ok (sym e)

-- ---- a structure

-- The name is unused where the test passes.
pub not_used : (here : TheoryFace) (name : Written) → unused_test here name ≡ Ok tt → is_used here (first_name name.path) ≡ false
not_used here name h = by (is_used here (first_name name.path)) h
  where
    by : (b : Bool) → demand (not b) name.span Rule.DuplicateName name.path ≡ Ok tt → b ≡ false
    by false e = refl
    by true e = absurd (cc)

-- The module is an accepted theory where the test passes.
pub is_theory : (environment : Environment) (label : Path) (written : Written) (face : TheoryFace) → module_test environment label written ≡ Ok face → IsSome (theory_of environment (first_name written.path))
is_theory environment label written face h = by (environment (first_name written.path)) h
  where
    by : (known : Known) → known_theory written.span label known ≡ Ok face → IsSome (theory_face known)
    by IsAbsent e = absurd (cc)
    by IsRefused e = absurd (cc)
    by (IsTheory f) e = refl
    by (IsView f) e = absurd (cc)

module _ (environment : Environment) (here : TheoryFace) (decl : code.StructDecl) where
  made : TheoryFace → Type 0
  made next = declare environment here (StructDecl (read_written decl.name) (read_written decl.domain) (read_assigns decl.assigns)) ≡ Ok next

  pub structure_used : (fault : LinkFault) → IsFirstRefusal fault (unused_test here (read_written decl.name)) → IsFirstRefusal fault (declare environment here (StructDecl (read_written decl.name) (read_written decl.domain) (read_assigns decl.assigns)))
  structure_used fault h = refuses_then fault (unused_test here (read_written decl.name)) _ h

  pub structure_unknown : (fault : LinkFault) → unused_test here (read_written decl.name) ≡ Ok tt → IsFirstRefusal fault (module_test environment decl.name.path (read_written decl.domain))
      → IsFirstRefusal fault (declare environment here (StructDecl (read_written decl.name) (read_written decl.domain) (read_assigns decl.assigns)))
  structure_unknown fault u h = refused_next fault (unused_test here (read_written decl.name)) tt _ u (refuses_then fault (module_test environment decl.name.path (read_written decl.domain)) _ h)

  pub structure_flattened : (result : Result ⊤ LinkFault) (next face : TheoryFace) → unused_test here (read_written decl.name) ≡ Ok tt → module_test environment decl.name.path (read_written decl.domain) ≡ Ok face
      → Flattens environment here decl next result (link_map (setting_of environment here decl) (read_assigns decl.assigns))
      → Declares result next (declare environment here (StructDecl (read_written decl.name) (read_written decl.domain) (read_assigns decl.assigns)))
  structure_flattened (Ok done) next face u t h =
      ap (λ (z : Outcome ⊤). z >>= (λ x. module_test environment decl.name.path (read_written decl.domain) >>= (λ y. link_map (setting_of environment here decl) (read_assigns decl.assigns) >>= (λ along. Ok (with_structure here (setting_of environment here decl) (first_name decl.name.path) along))))) u
      ∙ ap (λ (z : Outcome TheoryFace). z >>= (λ y. link_map (setting_of environment here decl) (read_assigns decl.assigns) >>= (λ along. Ok (with_structure here (setting_of environment here decl) (first_name decl.name.path) along)))) t
      ∙ ap (λ z. z >>= (λ along. Ok (with_structure here (setting_of environment here decl) (first_name decl.name.path) along))) h.1
      ∙ ap Ok (sym h.2)
  structure_flattened (Err fault) next face u t h =
      refused_next fault (unused_test here (read_written decl.name)) tt _ u
      (refused_next fault (module_test environment decl.name.path (read_written decl.domain)) face _ t
      (refuses_then fault (link_map (setting_of environment here decl) (read_assigns decl.assigns)) _ h))
