-- What a module makes is coherent over what is known of others.
use Rattle.std.proofs.Common.{◌≡◌, ◌<◌, true, cond, List, [], ◌∷◌, ◌++◌, length, Option, Some, None, is_some, Ok, not, ◌||◌, ⊎_elim, refl, sym, ap, ◌∙◌, subst, append-nil, arith}
use Rattle.std.specs.Prelude.{⊤}
use Rattle.std.proofs.lemmas.Bool.{or_cases}
use Rattle.name_meaning.specs.Names.{Name, Path, same_name}
use Rattle.lf_meaning.specs.Signatures.{Class, Value, Declaration}
use Rattle.list_laws.proofs.Members.{Member, in_append, append_left, in_flat_map, place_member, member_place}
use Rattle.name_laws.proofs.Order.{among_member, member_among}
use Rattle.lf_meaning.specs.HeadMaps.{HeadMap}
use Rattle.library_meaning.specs.Faces.{TheoryFace, ViewFace, Known, IsAbsent, IsRefused, IsTheory, IsView, theory_face, Environment, theory_of, structure_of, includes_of, own_of, own_part, own_parts, flat_signature, flat_of}
use Rattle.library_meaning.specs.Closure.{sees}
use Rattle.library_meaning.specs.Resolution.{own_at}
use Rattle.library_meaning.specs.Holding.{ClassHolds, OptionalValueHolds}
use Rattle.library_meaning.specs.Coherence.{IsCoherentMap, IsCoherentTheory, IsCoherentView, IsCoherent}
use Rattle.text_meaning.specs.Tokens.{Span}
use Rattle.text_meaning.specs.Trees.{Expr, Written, Assign, Decl, IncludeDecl, StructDecl, ConstDecl, first_name}
use Rattle.elaborate_meaning.specs.Rules.{Rule}
use Rattle.elaborate_meaning.specs.Values.{expand_class, expand_value}
use Rattle.link_laws.proofs.Below.ValuesStand.{class_sound, value_sound}
use Rattle.link_meaning.specs.Refusals.{labelled, each}
use Rattle.link_meaning.specs.Assignments.{Setting, read_assigns}
use Rattle.link_meaning.specs.Coverings.{covered_tests}
use Rattle.link_meaning.specs.Passes.{map_all, shared_test, assigned_map, link_map}
use Rattle.link_meaning.specs.Induced.{with_structure}
use Rattle.link_laws.proofs.Covered.{good_same}
use Rattle.link_laws.proofs.Valued.{demand_holds, label_came}
use Rattle.link_laws.proofs.Reading.{assigns_sound}
use Rattle.link_laws.proofs.Linked.{own_named}
use Rattle.verdict_meaning.specs.Modules.{known_theory as theory_known, module_test, scope_in, is_used, unused_test, declared_value, structure_setting, declare, declare_all, empty_theory, view_setting, checked_view}
use Rattle.constant_laws.specs.HoldingLaws.{Grows}
use Rattle.constant_laws.specs.ExpansionHolds.{scope_signature, ScopeHolds}
use Rattle.constant_laws.proofs.Expanding.{standing_class_holds, standing_value_holds}
use Rattle.link_laws.proofs.Onces.{Once, once_names, member_grows, HoldAfter}
use Rattle.link_laws.specs.LinkTargets.{target_of, StructuresHold, HereHolds}
use Rattle.link_laws.specs.BetweenTheories.{IsBetweenTheories}
use Rattle.link_laws.proofs.WordsHold.{included_members, accepted_target}
use Rattle.link_laws.proofs.ImagesHold.{SettingHolds, between_holds}
use Rattle.link_laws.proofs.AssignedHold.{items_hold}
use Rattle.link_laws.proofs.LinksHold.{map_holds, added_all}
use Rattle.link_laws.proofs.InducedHold.{nothing_added, added_is_induced, induced_members}
use Rattle.coherence_laws.proofs.TheoriesHold.{no_structure, here_once, here_holds, inclusion_step, constant_step, structure_step}
use Rattle.std.proofs.lemmas.Option.{same_Some}
use Rattle.list_laws.proofs.Options.{none_of}
use Rattle.list_laws.proofs.Booleans.{neither}
use Rattle.list_laws.proofs.Answers.{came_by}

-- ---- tests

record KnownTheory (known : Known) : Type 0 where
  face : TheoryFace
  is : known ≡ IsTheory face

pub known_by_test : (span : Span) (label : Path) (known : Known) (face : TheoryFace) → theory_known span label known ≡ Ok face → known ≡ IsTheory face
known_by_test span label IsAbsent face h = absurd (cc)
known_by_test span label IsRefused face h = absurd (cc)
known_by_test span label (IsTheory found) face h = ap IsTheory (good_same h)
known_by_test span label (IsView found) face h = absurd (cc)

pub theory_there : (environment : Environment) (name : Name) (face : TheoryFace) → environment name ≡ IsTheory face → theory_of environment name ≡ Some face
theory_there environment name face e = ap theory_face e

pub record Unused (here : TheoryFace) (name : Name) : Type 0 where
  pub constant : own_at here.own (name ∷ []) ≡ None
  pub structure : structure_of here.structures name ≡ None

pub unused_where : (here : TheoryFace) (name : Name) → not (is_used here name) ≡ true → Unused here name
unused_where here name h =
    let q = neither (is_some (own_at here.own (name ∷ []))) (is_some (structure_of here.structures name)) h in
    record { constant = none_of (own_at here.own (name ∷ [])) q.0; structure = none_of (structure_of here.structures name) q.1 }

pub unused_by : (here : TheoryFace) (name : Written) (done : ⊤) → unused_test here name ≡ Ok done → Unused here (first_name name.path)
unused_by here name done h = unused_where here (first_name name.path) (demand_holds (not (is_used here (first_name name.path))) name.span Rule.DuplicateName name.path done h)

-- ---- the map of a link

pub link_holds : (setting : Setting) (ok : SettingHolds setting) (assigns : List Assign) (along : HeadMap) → link_map setting assigns ≡ Ok along
    → IsCoherentMap (flat_of setting.environment setting.domain) (scope_signature setting.scope ++ added_all setting (flat_of setting.environment setting.domain) along) along
    × Once (scope_signature setting.scope ++ added_all setting (flat_of setting.environment setting.domain) along)
    × HoldAfter (scope_signature setting.scope) (added_all setting (flat_of setting.environment setting.domain) along)
unfolding link_map assigned_map
link_holds setting ok assigns along h =
    let r = came_by (read_assigns setting [] assigns) _ along h in
    let t = came_by (covered_tests setting r.item) _ along r.goes in
    let w = came_by (map_all setting r.item [] (flat_of setting.environment setting.domain)) _ along t.goes in
    let s = came_by (each (shared_test setting w.item) r.item) _ along w.goes in
    let m = map_holds setting ok r.item (items_hold setting ok [] assigns r.item (assigns_sound setting [] assigns r.item r.came)) along (w.came ∙ ap Ok (good_same s.goes)) in
    (m.map_is, m.once, m.holds)

module _ (environment : Environment) (coherent : IsCoherent environment) where
  -- ---- a theory

  module _ (here : TheoryFace) (c : IsCoherentTheory environment here.name here) (absent : environment here.name ≡ IsAbsent) where
    pub here_ok : HereHolds environment (Some here)
    here_ok =
        record {
          absent = λ face e. subst (λ (z : TheoryFace). environment z.name ≡ IsAbsent) (same_Some _ _ e) absent;
          structures = λ face e. subst (λ (z : TheoryFace). StructuresHold environment z.structures (flat_signature environment z)) (same_Some _ _ e) (λ i x h. (c.domains i x h, c.maps i x h));
        }

    pub scope_ok : ScopeHolds (scope_in environment here)
    scope_ok = record { declarations = c.holds; once = once_names (flat_signature environment here) (here_once environment coherent here c absent) }

    own_of_here : (d : Declaration) → Member d (flat_signature environment here) → d.name.theory ≡ here.name → Member d here.own
    own_of_here d m e =
        ⊎_elim (λ n. let q = in_flat_map (own_part environment) here.includes d n in absurd (c.includes_others q.0 (member_among here.includes q.0 q.1) (sym (own_named environment coherent q.0 d q.2) ∙ e))) (λ n. n)
        (in_append (own_parts environment here.includes) here.own d m)

    here_reaches : (name : Name) → (same_name here.name name || sees here.includes name) ≡ true → Grows (target_of environment (Some here) name) (flat_signature environment here)
    here_reaches name h =
        ⊎_elim
        (λ e. subst (λ b. Grows (cond b (flat_signature environment here) (flat_of environment name)) (flat_signature environment here)) (sym e) (λ k class g. g))
        (λ e. subst (λ z. Grows z (flat_signature environment here)) (sym (accepted_target environment coherent (Some here) here_ok name (c.includes name e)))
        (member_grows (flat_of environment name) (flat_signature environment here) (here_once environment coherent here c absent)
        (λ d m. append_left (own_parts environment here.includes) here.own d (included_members environment coherent here.includes c.includes_closure name (among_member here.includes name e) d m))))
        (or_cases (same_name here.name name) (sees here.includes name) h)

    fresh_by : (name : Name) → structure_of here.structures name ≡ None → (d : Declaration) → Member d here.own → (rest : Path) → d.name.path ≡ name ∷ rest → 0 < length rest → ⊥
    fresh_by name v d m rest e l =
        let p = member_place here.own d m in
        let k = c.induced p.0 d p.1 (subst (λ z. 1 < length z) (sym e) (omega (arith, l))) in
        no_structure here.structures name v k.structure (place_member here.structures k.place k.structure k.found) (heads (sym k.path ∙ e))
      where
        heads : {x y : Name} {xs ys : Path} → x ∷ xs ≡ y ∷ ys → x ≡ y
        heads h = cc

    pub setting_ok : (name : Written) (domain : Name) → is_some (theory_of environment domain) ≡ true → structure_of here.structures (first_name name.path) ≡ None → SettingHolds (structure_setting environment here name domain)
    setting_ok name domain s v =
        record {
          coherent = coherent;
          here = here_ok;
          theory = s;
          once = here_once environment coherent here c absent;
          holds = here_holds environment coherent here c absent;
          reaches = here_reaches;
          own_named = own_of_here;
          fresh = λ structure e d m rest q l. fresh_by (first_name name.path) v d m rest (q ∙ ap (λ z. z ∷ rest) (same_Some _ _ (sym e))) l;
        }

    value_declared : (label : Path) (class : Class) (o : Option Expr) (value : Option Value) → ClassHolds (flat_signature environment here) class → declared_value (scope_in environment here) label class o ≡ Ok value → OptionalValueHolds (flat_signature environment here) class value
    value_declared label class None value h e = subst (OptionalValueHolds (flat_signature environment here) class) (good_same e) tt
    value_declared label class (Some expression) value h e =
        let v = came_by (labelled label (expand_value (scope_in environment here) expression class)) _ value e in
        subst (OptionalValueHolds (flat_signature environment here) class) (good_same v.goes)
        (standing_value_holds (scope_in environment here) expression class v.item scope_ok h
        (value_sound (scope_in environment here) expression class v.item (label_came label (expand_value (scope_in environment here) expression class) v.item v.came)))

    pub record Next (next : TheoryFace) : Type 0 where
      pub named : next.name ≡ here.name
      pub is : IsCoherentTheory environment next.name next

    -- a structure, the link of which has a map
    pub structure_next : (name : Written) (from : Name) (assigns : List Assign) (along : HeadMap) → is_some (theory_of environment from) ≡ true → Unused here (first_name name.path) → link_map (structure_setting environment here name from) assigns ≡ Ok along
        → Next (with_structure here (structure_setting environment here name from) (first_name name.path) along)
    structure_next name from assigns along s unused l =
        let ok = setting_ok name from s unused.structure in
        let m = link_holds (structure_setting environment here name from) ok assigns along l in
        let e = added_is_induced (structure_setting environment here name from) ok (first_name name.path) (flat_signature environment here ++ added_all (structure_setting environment here name from) (flat_of environment from) along) along refl m.0 in
        record {
          named = refl;
          is = structure_step environment coherent here c absent (structure_setting environment here name from) ok (first_name name.path) along refl refl unused.constant unused.structure
              (subst (λ z. IsCoherentMap (flat_of environment from) (flat_signature environment here ++ z) along) e m.0)
              (subst (λ z. Once (flat_signature environment here ++ z)) e m.1)
              (subst (HoldAfter (flat_signature environment here)) e m.2) s
              (induced_members (structure_setting environment here name from) ok (first_name name.path) (flat_signature environment here ++ added_all (structure_setting environment here name from) (flat_of environment from) along) along m.0);
        }

    pub declare_holds : (decl : Decl) (next : TheoryFace) → declare environment here decl ≡ Ok next → Next next
    declare_holds (IncludeDecl included) next h =
        let t = came_by (module_test environment included.path included) _ next h in
        let n : Name = first_name included.path in
        let e : theory_of environment n ≡ Some t.item = theory_there environment n t.item (known_by_test included.span included.path (environment n) t.item t.came) in
        subst Next (good_same t.goes) (record { named = refl; is = inclusion_step environment coherent here c absent n (ap is_some e) })
    declare_holds (ConstDecl name class value) next h =
        let u = came_by (unused_test here name) _ next h in
        let k = came_by (labelled name.path (expand_class (scope_in environment here) class)) _ next u.goes in
        let v = came_by (declared_value (scope_in environment here) name.path k.item value) _ next k.goes in
        let unused = unused_by here name u.item u.came in
        let holds = standing_class_holds (scope_in environment here) class k.item scope_ok (class_sound (scope_in environment here) class k.item (label_came name.path (expand_class (scope_in environment here) class) k.item k.came)) in
        subst Next (good_same v.goes)
        (record { named = refl; is = constant_step environment coherent here c absent (first_name name.path) k.item v.item unused.constant unused.structure holds (value_declared name.path k.item value v.item holds v.came) })
    declare_holds (StructDecl name domain assigns) next h =
        let u = came_by (unused_test here name) _ next h in
        let t = came_by (module_test environment name.path domain) _ next u.goes in
        let from : Name = first_name domain.path in
        let setting : Setting = structure_setting environment here name from in
        let l = came_by (link_map setting assigns) _ next t.goes in
        let unused = unused_by here name u.item u.came in
        let s : is_some (theory_of environment from) ≡ true = ap is_some (theory_there environment from t.item (known_by_test domain.span name.path (environment from) t.item t.came)) in
        subst Next (good_same l.goes) (structure_next name from assigns l.item s unused l.came)

  pub record Whole (name : Name) (face : TheoryFace) : Type 0 where
    pub named : face.name ≡ name
    pub is : IsCoherentTheory environment face.name face

  pub declare_all_holds : (decls : List Decl) (name : Name) (here face : TheoryFace) → here.name ≡ name → environment name ≡ IsAbsent → IsCoherentTheory environment here.name here → declare_all environment here decls ≡ Ok face → Whole name face
  unfolding declare_all
  declare_all_holds [] name here face e a c h = subst (Whole name) (good_same h) (record { named = e; is = c })
  declare_all_holds (decl ∷ decls) name here face e a c h =
      let d = came_by (declare environment here decl) _ face h in
      let n = declare_holds here c (ap environment e ∙ a) decl d.item d.came in
      declare_all_holds decls name d.item face (n.named ∙ e) a n.is d.goes

  pub empty_holds : (name : Name) → IsCoherentTheory environment name (empty_theory name)
  empty_holds name =
      record {
        named = refl;
        own_named = λ i d h. absurd (cc);
        own_paths = λ i d h. absurd (cc);
        own_once = λ i j d e h g n. absurd (cc);
        includes = λ other s. absurd (among_member [] other s);
        includes_closure = record { once = λ i j x h g. absurd (cc); behind = λ i x other h s. absurd (cc) };
        includes_others = λ other s. absurd (among_member [] other s);
        domains = λ i x h. absurd (cc);
        maps = λ i x h. absurd (cc);
        holds = λ i d h. absurd (cc);
        structures_once = λ i j x y h g n. absurd (cc);
        structures_free = λ i j x d h g. absurd (cc);
        induced = λ i d h l. absurd (cc);
      }

  -- ---- a view

  pub view_is_between : (name : Written) (domain : Name) (target : TheoryFace) (codomain : Name) → is_some (theory_of environment domain) ≡ true → theory_of environment codomain ≡ Some target → IsBetweenTheories (view_setting environment name domain target codomain)
  view_is_between name domain target codomain s e =
      record {
        here = refl;
        structure = refl;
        domain = s;
        codomain = ap is_some e;
        scope = ap (λ o. record { own = own_of o; includes = includes_of o; environment = environment }) (sym e);
      }

  pub view_ok : (name : Written) (domain : Name) (target : TheoryFace) (codomain : Name) → is_some (theory_of environment domain) ≡ true → theory_of environment codomain ≡ Some target → SettingHolds (view_setting environment name domain target codomain)
  view_ok name domain target codomain s e =
      between_holds (view_setting environment name domain target codomain) coherent (view_is_between name domain target codomain s e)

  -- a view, the link of which has a map
  pub view_next : (name : Written) (from to : Name) (target : TheoryFace) (assigns : List Assign) (along : HeadMap) → is_some (theory_of environment from) ≡ true → theory_of environment to ≡ Some target → link_map (view_setting environment name from target to) assigns ≡ Ok along
      → IsCoherentView environment (first_name name.path) (record { name = first_name name.path; domain = from; codomain = to; map = along })
  view_next name from to target assigns along s t l =
      let ok = view_ok name from target to s t in
      let m = link_holds (view_setting environment name from target to) ok assigns along l in
      let n = nothing_added (view_setting environment name from target to) (flat_of environment from) along refl in
      record {
        named = refl;
        domain = s;
        codomain = ap is_some t;
        map_is = subst (λ z. IsCoherentMap (flat_of environment from) z along) (append-nil (flat_signature environment target) ∙ ap (λ o. own_parts environment (includes_of o) ++ own_of o) (sym t))
            (subst (λ z. IsCoherentMap (flat_of environment from) (flat_signature environment target ++ z) along) n m.0);
      }

  pub view_holds : (name domain codomain : Written) (assigns : List Assign) (face : ViewFace) → checked_view environment name domain codomain assigns ≡ Ok face → IsCoherentView environment face.name face × (face.name ≡ first_name name.path)
  view_holds name domain codomain assigns face h =
      let a = came_by (module_test environment name.path domain) _ face h in
      let b = came_by (module_test environment name.path codomain) _ face a.goes in
      let from : Name = first_name domain.path in
      let to : Name = first_name codomain.path in
      let l = came_by (link_map (view_setting environment name from b.item to) assigns) _ face b.goes in
      let s = theory_there environment from a.item (known_by_test domain.span name.path (environment from) a.item a.came) in
      let t = theory_there environment to b.item (known_by_test codomain.span name.path (environment to) b.item b.came) in
      subst (λ (z : ViewFace). IsCoherentView environment z.name z × (z.name ≡ first_name name.path)) (good_same l.goes) (view_next name from to b.item assigns l.item (ap is_some s) t l.came, refl)
