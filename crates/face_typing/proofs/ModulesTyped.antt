-- What a module makes is well typed over what is known of others.
use Rattle.std.proofs.Common.{◌≡◌, ℕ, List, [], ◌∷◌, ◌++◌, slice_get, Option, Some, None, is_some, true, Ok, refl, ap, ◌∙◌, subst, append_assoc}
use Rattle.name_meaning.specs.Names.{Name, Path}
use Rattle.lf_meaning.specs.Signatures.{Class, Value, Signature}
use Rattle.lf_meaning.specs.Judgements.{IsClass, ValueFits, IsSignature}
use Rattle.lf_typing.proofs.Growing.{empty_signature}
use Rattle.lf_meaning.specs.HeadMaps.{HeadMap}
use Rattle.translation_meaning.specs.TypedMaps.{IsTypedMap}
use Rattle.library_meaning.specs.Faces.{StructureFace, TheoryFace, ViewFace, IsAbsent, Environment, theory_of, structure_of, own_parts, flat_signature, flat_of}
use Rattle.library_meaning.specs.Coherence.{IsCoherentTheory, IsCoherent}
use Rattle.text_meaning.specs.Trees.{Expr, Written, Assign, Decl, IncludeDecl, StructDecl, ConstDecl, first_name}
use Rattle.elaborate_meaning.specs.Values.{expand_class, expand_value}
use Rattle.elaborate_laws.proofs.ValuesStand.{class_sound, value_sound}
use Rattle.face_typing.specs.Below.TypingOfExpansion.{IsTypedScope}
use Rattle.face_typing.proofs.Below.Expanding.{standing_class_is_class, standing_value_fits}
use Rattle.link_meaning.specs.Refusals.{labelled}
use Rattle.link_meaning.specs.Passes.{link_map}
use Rattle.link_meaning.specs.Induced.{induced, with_structure}
use Rattle.link_laws.proofs.Covered.{good_same}
use Rattle.link_laws.proofs.Valued.{label_came}
use Rattle.verdict_meaning.specs.Modules.{module_test, scope_in, unused_test, declared_value, structure_setting, declare, declare_all, empty_theory, view_setting, checked_view}
use Rattle.face_typing.proofs.Below.LinksHold.{added_all}
use Rattle.face_typing.proofs.Below.InducedHold.{added_is_induced}
use Rattle.coherence_laws.proofs.TheoriesHold.{inclusion_step}
use Rattle.coherence_laws.proofs.ModulesHold.{known_by_test, theory_there, unused_by, link_holds, scope_ok, setting_ok, declare_holds, view_is_between}
use Rattle.face_typing.specs.Below.TypedFaces.{IsTypedTheory, IsTypedView, IsTypedEnvironment}
use Rattle.face_typing.specs.Below.TypedLinks.{HereTyped}
use Rattle.face_typing.proofs.LinkInterface.{LinksAreTyped}
use Rattle.face_typing.proofs.BetweenTyped.{between_typed}
use Rattle.face_typing.proofs.TheoriesTyped.{inclusion_typed, constant_typed, structure_typed}
use Rattle.std.proofs.lemmas.Option.{same_Some}
use Rattle.list_laws.proofs.Answers.{came_by}

module _ (links : LinksAreTyped) (environment : Environment) (coherent : IsCoherent environment) (typed : IsTypedEnvironment environment) where
  -- ---- a theory

  module _ (here : TheoryFace) (c : IsCoherentTheory environment here.name here) (absent : environment here.name ≡ IsAbsent) (t : IsTypedTheory environment here) where
    pub here_typed : HereTyped environment (Some here)
    here_typed =
        record {
          signature = λ face e. subst (λ (z : TheoryFace). IsSignature (flat_signature environment z)) (same_Some _ _ e) t.signature;
          structures = λ face e. subst (λ (z : TheoryFace). (i : ℕ) (x : StructureFace) → slice_get z.structures i ≡ Some x → IsTypedMap (flat_of environment x.domain) (flat_signature environment z) x.map) (same_Some _ _ e) t.maps;
        }

    pub scope_typed : IsTypedScope (scope_in environment here)
    scope_typed = record { typed = t.signature; once = (scope_ok environment coherent here c absent).once }

    value_typed : (label : Path) (class : Class) (o : Option Expr) (value : Option Value) → IsClass (flat_signature environment here) class → declared_value (scope_in environment here) label class o ≡ Ok value → ValueFits (flat_signature environment here) value class
    value_typed label class None value h e = subst (λ z. ValueFits (flat_signature environment here) z class) (good_same e) tt
    value_typed label class (Some expression) value h e =
        let v = came_by (labelled label (expand_value (scope_in environment here) expression class)) _ value e in
        subst (λ z. ValueFits (flat_signature environment here) z class) (good_same v.goes)
        (standing_value_fits (scope_in environment here) expression class v.item scope_typed h
        (value_sound (scope_in environment here) expression class v.item (label_came label (expand_value (scope_in environment here) expression class) v.item v.came)))

    -- a new structure, the link of which has a map
    pub structure_is_typed : (name : Written) (from : Name) (assigns : List Assign) (along : HeadMap) → is_some (theory_of environment from) ≡ true → structure_of here.structures (first_name name.path) ≡ None
        → link_map (structure_setting environment here name from) assigns ≡ Ok along
        → IsTypedTheory environment (with_structure here (structure_setting environment here name from) (first_name name.path) along)
        × IsTypedMap (flat_of environment from) (flat_signature environment (with_structure here (structure_setting environment here name from) (first_name name.path) along)) along
    structure_is_typed name from assigns along s unused l =
        let ok = setting_ok environment coherent here c absent name from s unused in
        let m = link_holds (structure_setting environment here name from) ok assigns along l in
        let e = added_is_induced (structure_setting environment here name from) ok (first_name name.path) (flat_signature environment here ++ added_all (structure_setting environment here name from) (flat_of environment from) along) along refl m.0 in
        let k = links (structure_setting environment here name from) ok (record { environment = typed; here = here_typed; scope = t.signature }) assigns along l in
        let more : Signature = induced (structure_setting environment here name from) (first_name name.path) along in
        let map_is : IsTypedMap (flat_of environment from) (flat_signature environment here ++ more) along = subst (λ z. IsTypedMap (flat_of environment from) (flat_signature environment here ++ z) along) e k.map_is in (
          structure_typed environment coherent typed here absent t name from along (subst (λ z. IsSignature (flat_signature environment here ++ z)) e k.target) map_is k.included,
          subst (λ z. IsTypedMap (flat_of environment from) z along) (append_assoc (own_parts environment here.includes) here.own more) map_is,
        )

    pub declare_typed : (decl : Decl) (next : TheoryFace) → declare environment here decl ≡ Ok next → IsTypedTheory environment next
    declare_typed (IncludeDecl included) next h =
        let m = came_by (module_test environment included.path included) _ next h in
        let n : Name = first_name included.path in
        let e : theory_of environment n ≡ Some m.item = theory_there environment n m.item (known_by_test included.span included.path (environment n) m.item m.came) in
        subst (IsTypedTheory environment) (good_same m.goes) (inclusion_typed environment coherent typed here absent t n (inclusion_step environment coherent here c absent n (ap is_some e)))
    declare_typed (ConstDecl name class value) next h =
        let u = came_by (unused_test here name) _ next h in
        let k = came_by (labelled name.path (expand_class (scope_in environment here) class)) _ next u.goes in
        let v = came_by (declared_value (scope_in environment here) name.path k.item value) _ next k.goes in
        let is = standing_class_is_class (scope_in environment here) class k.item scope_typed (class_sound (scope_in environment here) class k.item (label_came name.path (expand_class (scope_in environment here) class) k.item k.came)) in
        subst (IsTypedTheory environment) (good_same v.goes) (constant_typed environment coherent typed here absent t (first_name name.path) k.item v.item is (value_typed name.path k.item value v.item is v.came))
    declare_typed (StructDecl name domain assigns) next h =
        let u = came_by (unused_test here name) _ next h in
        let m = came_by (module_test environment name.path domain) _ next u.goes in
        let from : Name = first_name domain.path in
        let l = came_by (link_map (structure_setting environment here name from) assigns) _ next m.goes in
        let s : is_some (theory_of environment from) ≡ true = ap is_some (theory_there environment from m.item (known_by_test domain.span name.path (environment from) m.item m.came)) in
        subst (IsTypedTheory environment) (good_same l.goes) (structure_is_typed name from assigns l.item s (unused_by here name u.item u.came).structure l.came).0

  pub declare_all_typed : (decls : List Decl) (name : Name) (here face : TheoryFace) → here.name ≡ name → environment name ≡ IsAbsent → IsCoherentTheory environment here.name here → IsTypedTheory environment here → declare_all environment here decls ≡ Ok face → IsTypedTheory environment face
  unfolding declare_all
  declare_all_typed [] name here face e a c t h = subst (IsTypedTheory environment) (good_same h) t
  declare_all_typed (decl ∷ decls) name here face e a c t h =
      let d = came_by (declare environment here decl) _ face h in
      let n = declare_holds environment coherent here c (ap environment e ∙ a) decl d.item d.came in
      declare_all_typed decls name d.item face (n.named ∙ e) a n.is (declare_typed here c (ap environment e ∙ a) t decl d.item d.came) d.goes

  pub empty_typed : (name : Name) → IsTypedTheory environment (empty_theory name)
  empty_typed name = record { signature = empty_signature; maps = λ i x h. absurd (cc); placed = λ i x h. absurd (cc) }

  -- ---- a view

  -- a view, the link of which has a map
  pub view_next : (name : Written) (from to : Name) (target : TheoryFace) (assigns : List Assign) (along : HeadMap) → is_some (theory_of environment from) ≡ true → theory_of environment to ≡ Some target → link_map (view_setting environment name from target to) assigns ≡ Ok along
      → IsTypedView environment (record { name = first_name name.path; domain = from; codomain = to; map = along })
  view_next name from to target assigns along s t l =
      between_typed links (view_setting environment name from target to) assigns along coherent typed
      (view_is_between environment coherent name from target to s t) l

  pub view_typed : (name domain codomain : Written) (assigns : List Assign) (face : ViewFace) → checked_view environment name domain codomain assigns ≡ Ok face → IsTypedView environment face
  view_typed name domain codomain assigns face h =
      let a = came_by (module_test environment name.path domain) _ face h in
      let b = came_by (module_test environment name.path codomain) _ face a.goes in
      let from : Name = first_name domain.path in
      let to : Name = first_name codomain.path in
      let l = came_by (link_map (view_setting environment name from b.item to) assigns) _ face b.goes in
      let s = theory_there environment from a.item (known_by_test domain.span name.path (environment from) a.item a.came) in
      let t = theory_there environment to b.item (known_by_test codomain.span name.path (environment to) b.item b.came) in
      subst (IsTypedView environment) (good_same l.goes) (view_next name from to b.item assigns l.item (ap is_some s) t l.came)
