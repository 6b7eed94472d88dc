-- A theory that is being built over coherent faces stays coherent.
use Rattle.std.proofs.Common.{◌≡◌, ℕ, ◌+◌, ◌<◌, ◌≤◌, List, length, get_or, drop, None, Result, Ok, Err, sym, ap, ◌∙◌, subst}
use Rattle.std.specs.Prelude.{OnOk, ⊤}
use Rattle.std.proofs.lemmas.List.{at_drop_more, at_drop_all}
use Rattle.list_laws.proofs.Members.{member_place}
use Rattle.name_meaning.specs.Names.{Name}
use Rattle.name_meaning.specs.Rows.{Rows, row_of}
use Rattle.answer_meaning.specs.Answers.{◌>>=◌}
use Rattle.link_meaning.specs.Refusals.{Outcome}
use Rattle.text_meaning.specs.Trees as trees
use Rattle.library_meaning.specs.Faces as faces
use Rattle.library_meaning.specs.Faces.{Environment, flat_signature}
use Rattle.library_meaning.specs.Coherence.{IsCoherentTheory}
use Rattle.verdict_meaning.specs.Modules.{declare, declare_all, empty_theory}
use Rattle.verdict_meaning.specs.Verdicts as verdicts
use Rattle.struct_flatten.specs.Below.BuildingLaws.{IsBuiltOver}
use Rattle.struct_flatten.proofs.Below.BuildingHolds.{empty_is_built, declarations_keep_built}
use Rattle.term_trees.specs.Readings.{read_signature}
use Rattle.mmt_syntax.specs.Readings.{read_decl, read_decls}
use Rattle.mmt_syntax.specs.declared.decl.Decl.{Decl}
use Rattle.mmt_interface.specs.CoherentFaces.{AreCoherent, IsCoherentHere}
use Rattle.mmt_interface.specs.Readings.{environment_of, read_theory}
use Rattle.mmt_interface.specs.declared.face.TheoryFace.{TheoryFace}
use Rattle.mmt_interface.specs.declared.verdict.Verdict.{Verdict}
use Rattle.mmt_interface.proofs.Known.{lacked_is_absent}
use Rattle.link_setting.specs.Answers.{IsFirstRefusal}
use Rattle.link_setting.specs.declared.fault.LinkFault.{LinkFault}
use Rattle.link_setting.proofs.FirstRefusals.{refuses_then}
use Rattle.module_verdicts.specs.Answers.{Declares, IsNamed}

-- Its own constants have its name.
pub named_here : (rows : Rows Verdict) (here : TheoryFace) → IsCoherentHere rows here → IsNamed (read_theory here)
named_here rows here h = λ d m. (let p = member_place (read_signature here.own) d m in h.theory.own_named p.0 d p.1)

-- The empty theory is coherent.
pub empty_coherent : (rows : Rows Verdict) (here : TheoryFace) (name : Name) → AreCoherent rows → row_of rows name ≡ None → read_theory here ≡ empty_theory name → IsCoherentHere rows here
empty_coherent rows here name k a e =
    let n : here.name ≡ name = ap (λ (z : faces.TheoryFace). z.name) e in
    let b = empty_is_built (environment_of rows) name k.known (lacked_is_absent rows name a) in
    record {
      absent = ap (row_of rows) n ∙ a;
      theory = subst (λ z. IsCoherentTheory (environment_of rows) z (read_theory here)) (sym n) (subst (λ z. IsCoherentTheory (environment_of rows) name z) (sym e) b.so_far);
    }

-- A declaration that passes its tests leaves it coherent.
pub stays_coherent : (rows : Rows Verdict) (before after : TheoryFace) (decl : trees.Decl) (result : Result ⊤ LinkFault) → AreCoherent rows → IsCoherentHere rows before
    → Declares result (read_theory after) (declare (environment_of rows) (read_theory before) decl) → OnOk result (IsCoherentHere rows after)
stays_coherent rows before after decl (Err fault) k h e = tt
stays_coherent rows before after decl (Ok done) k h e =
    let b : IsBuiltOver (environment_of rows) (read_theory before) = record { known = k.known; absent = lacked_is_absent rows before.name h.absent; so_far = h.theory } in
    let n = declarations_keep_built (environment_of rows) (read_theory before) (read_theory after) decl b e in
    record { absent = ap (row_of rows) n.1 ∙ h.absent; theory = n.0.so_far }

-- So is that of what follows.
pub refused_next : {A B : Type 0} (fault : LinkFault) (first : Outcome A) (value : A) (next : A → Outcome B) → first ≡ Ok value → IsFirstRefusal fault (next value) → IsFirstRefusal fault (first >>= next)
refused_next {A} {B} fault first value next e h = subst (λ (z : Outcome A). IsFirstRefusal fault (z >>= next)) (sym e) h

-- The declarations from a place on, the first of which is there.
pub all_here : (environment : Environment) (here : faces.TheoryFace) (decls : List Decl) (place : ℕ) (decl : Decl) → place < length decls → decl ≡ get_or decls place decl
    → declare_all environment here (read_decls (drop place decls)) ≡ declare environment here (read_decl decl) >>= (λ next. declare_all environment next (read_decls (drop (place + 1) decls)))
unfolding declare_all
all_here environment here decls place decl within is =
    at_drop_more (λ z. declare_all environment here (read_decls z)) decls place decl within
    ∙ ap (λ (z : Decl). declare environment here (read_decl z) >>= (λ next. declare_all environment next (read_decls (drop (place + 1) decls)))) (sym is)

-- All declarations, from the first one on, as far as they are declared.
module _ (environment : Environment) (start here : faces.TheoryFace) (decls : List Decl) (place : ℕ) (so_far : declare_all environment start (read_decls decls) ≡ declare_all environment here (read_decls (drop place decls))) where
  pub all_next : (decl : Decl) (next : faces.TheoryFace) → place < length decls → decl ≡ get_or decls place decl → declare environment here (read_decl decl) ≡ Ok next
      → declare_all environment start (read_decls decls) ≡ declare_all environment next (read_decls (drop (place + 1) decls))
  all_next decl next within is h = so_far ∙ all_here environment here decls place decl within is ∙ ap (λ z. z >>= (λ n. declare_all environment n (read_decls (drop (place + 1) decls)))) h

  pub all_refused : (decl : Decl) (fault : LinkFault) → place < length decls → decl ≡ get_or decls place decl → IsFirstRefusal fault (declare environment here (read_decl decl)) → IsFirstRefusal fault (declare_all environment start (read_decls decls))
  all_refused decl fault within is h =
      subst (IsFirstRefusal fault) (sym (so_far ∙ all_here environment here decls place decl within is)) (refuses_then fault (declare environment here (read_decl decl)) (λ n. declare_all environment n (read_decls (drop (place + 1) decls))) h)

  pub all_done : length decls ≤ place → declare_all environment start (read_decls decls) ≡ Ok here
  unfolding declare_all
  all_done past = so_far ∙ at_drop_all (λ z. declare_all environment here (read_decls z)) decls place past

-- A theory is refused where one of its declarations is.
pub theory_refused : (fault : LinkFault) (environment : Environment) (name : Name) (given decls : List Decl) (here : faces.TheoryFace) → here ≡ empty_theory name → given ≡ decls
    → IsFirstRefusal fault (declare_all environment here (read_decls given))
    → IsFirstRefusal fault (declare_all environment (empty_theory name) (read_decls decls) >>= (λ face. Ok (verdicts.Theory face (length (flat_signature environment face)))))
theory_refused fault environment name given decls here begun same h =
    refuses_then fault (declare_all environment (empty_theory name) (read_decls decls)) (λ face. Ok (verdicts.Theory face (length (flat_signature environment face))))
    (subst (λ ds. IsFirstRefusal fault (declare_all environment (empty_theory name) (read_decls ds))) same
    (subst (λ face. IsFirstRefusal fault (declare_all environment face (read_decls given))) begun h))
