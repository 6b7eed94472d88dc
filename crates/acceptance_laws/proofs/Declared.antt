-- The tests of declarations answer a face exactly where the declarations lead to it.
use Rattle.std.proofs.Common.{◌≡◌, ◌↔◌, ℕ, true, not, ◌||◌, List, [], ◌∷◌, slice_get, Option, Some, None, is_some, Ok, refl, sym, ap, ap₂, ◌∙◌}
use Rattle.std.specs.Prelude.{⊤}
use Rattle.name_meaning.specs.Names.{Name, Path, same_name}
use Rattle.lf_meaning.specs.Signatures.{Class, Value, Declaration, Signature}
use Rattle.lf_term_laws.proofs.Equality.{pointwise_sound}
use Rattle.list_laws.proofs.Members.{find_found, place_member, member_place}
use Rattle.lf_meaning.specs.HeadMaps.{HeadMap}
use Rattle.library_meaning.specs.Faces.{StructureFace, TheoryFace, Environment, theory_of, structure_of}
use Rattle.library_meaning.specs.Resolution.{Scope, has_path, own_at}
use Rattle.library_meaning.specs.Coherence.{IsCoherent}
use Rattle.text_meaning.specs.Trees.{Expr, Written, Assign, Decl, IncludeDecl, StructDecl, ConstDecl, first_name}
use Rattle.elaborate_meaning.specs.Rules.{Rule}
use Rattle.elaborate_meaning.specs.Values.{expand_class, expand_value}
use Rattle.elaborate_laws.proofs.ValuesStand.{class_sound, class_complete, value_sound, value_complete}
use Rattle.link_meaning.specs.Refusals.{labelled}
use Rattle.link_meaning.specs.Passes.{link_map}
use Rattle.link_meaning.specs.LinkMaps.{IsMapOfLink}
use Rattle.link_laws.proofs.Covered.{good_same}
use Rattle.link_laws.proofs.Valued.{label_came, demand_by}
use Rattle.link_laws.proofs.Linked.{link_map_meets_equations}
use Rattle.verdict_meaning.specs.Modules.{module_test, scope_in, is_used, unused_test, declared_value, structure_setting, declare, declare_all}
use Rattle.acceptance_laws.specs.Declares.{IsNew, StandsIfWritten, Declares, DeclaresAll}
use Rattle.acceptance_laws.specs.TheoryLaws.{TestsAnswerDeclared, OneFaceDeclared}
use Rattle.coherence_laws.proofs.TheoriesHold.{not_at, no_structure, structure_found}
use Rattle.coherence_laws.proofs.ModulesHold.{known_by_test, theory_there, unused_by}
use Rattle.acceptance_laws.proofs.AcceptedModules.{some_passes}
use Rattle.name_laws.proofs.Order.{same_sound}
use Rattle.list_laws.proofs.Answers.{came_by, goes_by}

-- ---- new names

nobody_at : (own : Signature) (path : Path) → ((i : ℕ) (d : Declaration) → slice_get own i ≡ Some d → d.name.path ≡ path → ⊥) → own_at own path ≡ None
nobody_at own path f = by (own_at own path) refl
  where
    by : (o : Option Declaration) → own_at own path ≡ o → o ≡ None
    by None e = refl
    by (Some d) e =
        let m = find_found (has_path path) own d e in
        let p = member_place own d m.0 in
        absurd (f p.0 d p.1 (pointwise_sound same_name same_sound d.name.path path m.1))

no_structure_at : (structures : List StructureFace) (name : Name) → ((i : ℕ) (x : StructureFace) → slice_get structures i ≡ Some x → x.name ≡ name → ⊥) → structure_of structures name ≡ None
no_structure_at structures name f = by (structure_of structures name) refl
  where
    by : (o : Option StructureFace) → structure_of structures name ≡ o → o ≡ None
    by None e = refl
    by (Some x) e =
        let q = structure_found structures name x e in
        let p = member_place structures x q.0 in
        absurd (f p.0 x p.1 q.1)

new_sound : (here : TheoryFace) (name : Written) (done : ⊤) → unused_test here name ≡ Ok done → IsNew here (first_name name.path)
new_sound here name done h =
    let u = unused_by here name done h in
    record {
      constants = λ i d p e. not_at here.own (first_name name.path ∷ []) u.constant d (place_member here.own i d p) e;
      structures = λ i x p e. no_structure here.structures (first_name name.path) u.structure x (place_member here.structures i x p) e;
    }

new_complete : (here : TheoryFace) (name : Written) → IsNew here (first_name name.path) → unused_test here name ≡ Ok tt
new_complete here name n =
    demand_by (not (is_used here (first_name name.path))) name.span Rule.DuplicateName name.path
    (ap₂ (λ o q. not (is_some o || is_some q)) (nobody_at here.own (first_name name.path ∷ []) n.constants) (no_structure_at here.structures (first_name name.path) n.structures))

-- ---- a value, if there is one

if_written_sound : (scope : Scope) (label : Path) (class : Class) (o : Option Expr) (value : Option Value) → declared_value scope label class o ≡ Ok value → StandsIfWritten scope class o value
if_written_sound scope label class None value h = sym (good_same h)
if_written_sound scope label class (Some expression) value h =
    let v = came_by (labelled label (expand_value scope expression class)) _ value h in
    (v.item, value_sound scope expression class v.item (label_came label (expand_value scope expression class) v.item v.came), sym (good_same v.goes))

if_written_complete : (scope : Scope) (label : Path) (class : Class) (o : Option Expr) (value : Option Value) → StandsIfWritten scope class o value → declared_value scope label class o ≡ Ok value
if_written_complete scope label class None value h = ap Ok (sym h)
if_written_complete scope label class (Some expression) value h =
    goes_by (labelled label (expand_value scope expression class)) _ h.0 value (ap (labelled label) (value_complete scope expression class h.0 h.1)) (ap Ok (sym h.2))

module _ (environment : Environment) (coherent : IsCoherent environment) where
  -- ---- one declaration

  map_of_link : (here : TheoryFace) (name : Written) (domain : Name) (assigns : List Assign) (along : HeadMap) → is_some (theory_of environment domain) ≡ true
      → (link_map (structure_setting environment here name domain) assigns ≡ Ok along) ↔ IsMapOfLink (structure_setting environment here name domain) assigns along
  map_of_link here name domain assigns along s = link_map_meets_equations (structure_setting environment here name domain) assigns along (record { coherent = coherent; theory = s })

  declare_sound : (here next : TheoryFace) (decl : Decl) → declare environment here decl ≡ Ok next → Declares environment here decl next
  declare_sound here next (IncludeDecl included) h =
      let t = came_by (module_test environment included.path included) _ next h in
      let n : Name = first_name included.path in
      record {
        from = ap is_some (theory_there environment n t.item (known_by_test included.span included.path (environment n) t.item t.came));
        is = sym (good_same t.goes);
      }
  declare_sound here next (ConstDecl name class value) h =
      let u = came_by (unused_test here name) _ next h in
      let k = came_by (labelled name.path (expand_class (scope_in environment here) class)) _ next u.goes in
      let v = came_by (declared_value (scope_in environment here) name.path k.item value) _ next k.goes in
      record {
        is_new = new_sound here name u.item u.came;
        class = k.item;
        value = v.item;
        class_stands = class_sound (scope_in environment here) class k.item (label_came name.path (expand_class (scope_in environment here) class) k.item k.came);
        value_stands = if_written_sound (scope_in environment here) name.path k.item value v.item v.came;
        is = sym (good_same v.goes);
      }
  declare_sound here next (StructDecl name domain assigns) h =
      let u = came_by (unused_test here name) _ next h in
      let t = came_by (module_test environment name.path domain) _ next u.goes in
      let from : Name = first_name domain.path in
      let l = came_by (link_map (structure_setting environment here name from) assigns) _ next t.goes in
      let s : is_some (theory_of environment from) ≡ true = ap is_some (theory_there environment from t.item (known_by_test domain.span name.path (environment from) t.item t.came)) in
      record {
        is_new = new_sound here name u.item u.came;
        from = s;
        along = l.item;
        map_is = (map_of_link here name from assigns l.item s).0 l.came;
        is = sym (good_same l.goes);
      }

  declare_complete : (here next : TheoryFace) (decl : Decl) → Declares environment here decl next → declare environment here decl ≡ Ok next
  declare_complete here next (IncludeDecl included) d =
      let f = some_passes environment included.path included d.from in
      goes_by (module_test environment included.path included) _ f.0 next f.1 (ap Ok (sym d.is))
  declare_complete here next (ConstDecl name class value) d =
      goes_by (unused_test here name) _ tt next (new_complete here name d.is_new)
      (goes_by (labelled name.path (expand_class (scope_in environment here) class)) _ d.class next (ap (labelled name.path) (class_complete (scope_in environment here) class d.class d.class_stands))
      (goes_by (declared_value (scope_in environment here) name.path d.class value) _ d.value next (if_written_complete (scope_in environment here) name.path d.class value d.value d.value_stands) (ap Ok (sym d.is))))
  declare_complete here next (StructDecl name domain assigns) d =
      let f = some_passes environment name.path domain d.from in
      goes_by (unused_test here name) _ tt next (new_complete here name d.is_new)
      (goes_by (module_test environment name.path domain) _ f.0 next f.1
      (goes_by (link_map (structure_setting environment here name (first_name domain.path)) assigns) _ d.along next ((map_of_link here name (first_name domain.path) assigns d.along d.from).1 d.map_is) (ap Ok (sym d.is))))

  -- ---- one after another

  pub declared_sound : (here face : TheoryFace) (decls : List Decl) → declare_all environment here decls ≡ Ok face → DeclaresAll environment here decls face
  unfolding declare_all
  declared_sound here face [] h = good_same h
  declared_sound here face (decl ∷ decls) h =
      let d = came_by (declare environment here decl) _ face h in
      (d.item, declare_sound here d.item decl d.came, declared_sound d.item face decls d.goes)

  pub declared_complete : (here face : TheoryFace) (decls : List Decl) → DeclaresAll environment here decls face → declare_all environment here decls ≡ Ok face
  unfolding declare_all
  declared_complete here face [] d = ap Ok d
  declared_complete here face (decl ∷ decls) d = goes_by (declare environment here decl) _ d.0 face (declare_complete here d.0 decl d.1) (declared_complete d.0 face decls d.2)

pub tests_answer_declared : TestsAnswerDeclared
tests_answer_declared environment here face decls coherent = (declared_sound environment coherent here face decls, declared_complete environment coherent here face decls)

pub one_face_declared : OneFaceDeclared
one_face_declared environment here face other decls coherent d e =
    good_same (sym (declared_complete environment coherent here face decls d) ∙ declared_complete environment coherent here other decls e)
