-- A view is accepted exactly where its ends are accepted theories, and its map is that of the link between them.
use Rattle.std.proofs.Common.{◌≡◌, List, ℕ, Some, is_some, Ok, refl, sym, ap, ◌∙◌, subst}
use Rattle.name_meaning.specs.Names.{Name}
use Rattle.edit_log_meaning.specs.Log.{Library}
use Rattle.text_meaning.specs.Trees.{Written, Assign, Module, SigModule, ViewModule, first_name}
use Rattle.lf_meaning.specs.HeadMaps.{HeadMap}
use Rattle.library_meaning.specs.Faces.{TheoryFace, ViewFace, Environment, theory_of}
use Rattle.library_meaning.specs.Coherence.{IsCoherent}
use Rattle.link_meaning.specs.Passes.{link_map}
use Rattle.link_laws.proofs.Covered.{good_same}
use Rattle.link_laws.proofs.Linked.{link_map_meets_equations}
use Rattle.verdict_meaning.specs.Modules.{module_test, empty_theory, declare_all, view_setting, checked_view}
use Rattle.verdict_meaning.specs.Verdicts.{Theory, View, Accepted, checked}
use Rattle.verdict_meaning.specs.Rounds.{verdict_of, known_to}
use Rattle.acceptance_laws.specs.ViewLaws.{IsModule, IsViewBetween, IsAcceptedView, face_between, AcceptedViews, WrittenViews}
use Rattle.coherence_laws.proofs.ModulesHold.{known_by_test, theory_there}
use Rattle.coherence_laws.proofs.LibrariesHold.{grounded_know_coherent}
use Rattle.acceptance_laws.proofs.AcceptedModules.{test_passed, some_passes, passed, accepted, one_tree}
use Rattle.list_laws.proofs.Answers.{came_by, goes_by}

module _ (environment : Environment) (coherent : IsCoherent environment) (written domain codomain : Written) (assigns : List Assign) where
  -- ---- the tests of a view

  record Viewed (face : ViewFace) : Type 0 where
    is : face ≡ face_between (first_name written.path) domain codomain face.map
    between : IsViewBetween environment written domain codomain assigns face.map

  viewed_by : (from : TheoryFace) (target : TheoryFace) (along : HeadMap) → theory_of environment (first_name domain.path) ≡ Some from → theory_of environment (first_name codomain.path) ≡ Some target
      → link_map (view_setting environment written (first_name domain.path) target (first_name codomain.path)) assigns ≡ Ok along → Viewed (face_between (first_name written.path) domain codomain along)
  viewed_by from target along e f h =
      record {
        is = refl;
        between = record {
          from = ap is_some e;
          target = target;
          to = f;
          map_is = (link_map_meets_equations (view_setting environment written (first_name domain.path) target (first_name codomain.path)) assigns along (record { coherent = coherent; theory = ap is_some e })).0 h;
        };
      }

  view_sound : (face : ViewFace) → checked_view environment written domain codomain assigns ≡ Ok face → Viewed face
  view_sound face h =
      let a = came_by (module_test environment written.path domain) _ face h in
      let b = came_by (module_test environment written.path codomain) _ face a.goes in
      let l = came_by (link_map (view_setting environment written (first_name domain.path) b.item (first_name codomain.path)) assigns) _ face b.goes in
      subst Viewed (good_same l.goes)
      (viewed_by a.item b.item l.item
      (theory_there environment (first_name domain.path) a.item (known_by_test domain.span written.path (environment (first_name domain.path)) a.item a.came))
      (theory_there environment (first_name codomain.path) b.item (known_by_test codomain.span written.path (environment (first_name codomain.path)) b.item b.came))
      l.came)

  view_complete : (along : HeadMap) → IsViewBetween environment written domain codomain assigns along → checked_view environment written domain codomain assigns ≡ Ok (face_between (first_name written.path) domain codomain along)
  view_complete along v =
      let f = some_passes environment written.path domain v.from in
      goes_by (module_test environment written.path domain) _ f.0 (face_between (first_name written.path) domain codomain along) f.1
      (goes_by (module_test environment written.path codomain) _ v.target (face_between (first_name written.path) domain codomain along) (test_passed environment written.path codomain v.target v.to)
      (goes_by (link_map (view_setting environment written (first_name domain.path) v.target (first_name codomain.path)) assigns) _ along (face_between (first_name written.path) domain codomain along)
      ((link_map_meets_equations (view_setting environment written (first_name domain.path) v.target (first_name codomain.path)) assigns along (record { coherent = coherent; theory = v.from })).1 v.map_is) refl))

-- ---- a library

abbrev the_face : Name → Name → Name → HeadMap → ViewFace
the_face name domain codomain along = record { name = name; domain = domain; codomain = codomain; map = along }

faces_same : (face : ViewFace) (name domain codomain : Name) → name ≡ face.name → domain ≡ face.domain → codomain ≡ face.codomain
    → the_face name domain codomain face.map ≡ face
faces_same face name domain codomain n d c = λ i. the_face (n i) (d i) (c i) face.map

module _ (library : Library) (name : Name) where
  tree_viewed : (tree : Module) (face : ViewFace) → IsModule library name tree → checked (known_to library name) tree ≡ Ok (View face) → IsAcceptedView library (known_to library name) name face
  tree_viewed (SigModule written decls) face m h =
      let d = came_by (declare_all (known_to library name) (empty_theory (first_name written.path)) decls) _ (View face) h in
      absurd (no_theory (good_same d.goes))
    where
      no_theory : {x : TheoryFace} {n : ℕ} {y : ViewFace} → Theory x n ≡ View y → ⊥
      no_theory q = absurd (cc)
  tree_viewed (ViewModule written domain codomain assigns) face m h =
      let d = came_by (checked_view (known_to library name) written domain codomain assigns) _ (View face) h in
      let v = view_sound (known_to library name) (grounded_know_coherent library name m.grounded) written domain codomain assigns face (d.came ∙ ap Ok (views_same (good_same d.goes))) in
      record {
        written = written;
        domain = domain;
        codomain = codomain;
        assigns = assigns;
        module_is = m;
        named = ap (λ z. z.name) v.is ∙ m.named;
        from = ap (λ z. z.domain) v.is;
        to = ap (λ z. z.codomain) v.is;
        view_is = v.between;
      }
    where
      views_same : {x y : ViewFace} → View x ≡ View y → x ≡ y
      views_same q = cc

  view_checks : (written domain codomain : Written) (assigns : List Assign) (face : ViewFace) → IsModule library name (ViewModule written domain codomain assigns) → IsViewBetween (known_to library name) written domain codomain assigns face.map
      → face_between (first_name written.path) domain codomain face.map ≡ face → verdict_of library name ≡ Some (Accepted (View face))
  view_checks written domain codomain assigns face m v e =
      accepted library name (ViewModule written domain codomain assigns) (View face) m
      (goes_by (checked_view (known_to library name) written domain codomain assigns) _ face (View face)
      (view_complete (known_to library name) (grounded_know_coherent library name m.grounded) written domain codomain assigns face.map v ∙ ap Ok e) refl)

  view_accepted : (face : ViewFace) → IsAcceptedView library (known_to library name) name face → verdict_of library name ≡ Some (Accepted (View face))
  view_accepted face v =
      view_checks v.written v.domain v.codomain v.assigns face v.module_is v.view_is
      (faces_same face (first_name v.written.path) (first_name v.domain.path) (first_name v.codomain.path) (v.module_is.named ∙ sym v.named) (sym v.from) (sym v.to))

pub accepted_views : AcceptedViews
accepted_views library name face = (
  (λ h. let p = passed library name (View face) h in tree_viewed library name p.tree face p.module_is p.passes),
  (λ v. view_accepted library name face v),
)

-- equal trees have equal parts
between_same : (environment : Environment) (along : HeadMap) (a b c x y z : Written) (s t : List Assign) → ViewModule a b c s ≡ ViewModule x y z t
    → IsViewBetween environment a b c s along → IsViewBetween environment x y z t along
between_same environment along a b c x y z s t e v =
    let p : a ≡ x = cc in
    let q : b ≡ y = cc in
    let r : c ≡ z = cc in
    let w : s ≡ t = cc in
    subst (λ k. IsViewBetween environment x y z k along) w (subst (λ k. IsViewBetween environment x y k s along) r (subst (λ k. IsViewBetween environment x k c s along) q (subst (λ k. IsViewBetween environment k b c s along) p v)))

pub written_views : WrittenViews
written_views library name written domain codomain assigns along m = (
  (λ h. let v = (accepted_views library name (face_between name domain codomain along)).0 h in
      between_same (known_to library name) along v.written v.domain v.codomain written domain codomain v.assigns assigns
      (one_tree library name (ViewModule v.written v.domain v.codomain v.assigns) (ViewModule written domain codomain assigns) v.module_is m) v.view_is),
  (λ v. view_accepted library name (face_between name domain codomain along)
      (record { written = written; domain = domain; codomain = codomain; assigns = assigns; module_is = m; named = refl; from = refl; to = refl; view_is = v })),
)
