-- What a module knows of others is what the verdicts tell of all that it names, so it is accepted over the one exactly where it
-- is over the other.
use Rattle.std.proofs.Common.{◌≡◌, ◌↔◌, ℕ, zero, suc, Bool, true, false, List, map, flat_map, length, Some, is_some, inl, inr, ⊎_elim, refl, sym, ap, ◌∙◌, subst, true≢false}
use Rattle.std.proofs.lemmas.Bool.{cases_Bool}
use Rattle.name_meaning.specs.Names.{Name, same_name, is_among}
use Rattle.edit_log_meaning.specs.Log.{Library}
use Rattle.list_laws.proofs.Members.{Member, map_in, member_place}
use Rattle.name_laws.proofs.Order.{member_among, same_sound}
use Rattle.module_graph_meaning.specs.Walks.{of_text, direct, walking, is_grounded}
use Rattle.module_graph_laws.proofs.Walking.{present_in, depends_present}
use Rattle.module_graph_laws.proofs.Reaching.{reach_closed, reach_first}
use Rattle.text_meaning.specs.Trees.{Written, Assign, Decl, Module, SigModule, ViewModule}
use Rattle.lf_meaning.specs.HeadMaps.{HeadMap}
use Rattle.library_meaning.specs.Faces.{TheoryFace, ViewFace, theory_face, Environment, theory_of, flat_signature}
use Rattle.text_meaning.specs.Dependencies.{Dependency, at_written, decl_dependencies, module_dependencies, answer_dependencies, dependencies}
use Rattle.verdict_meaning.specs.Modules.{empty_theory}
use Rattle.verdict_meaning.specs.Verdicts.{Theory, Accepted}
use Rattle.verdict_meaning.specs.Rounds.{others_reached, told_by, known_to}
use Rattle.verdict_laws.proofs.Shortness.{Short, short_step}
use Rattle.acceptance_laws.specs.ViewLaws.{IsModule, IsViewBetween, IsAcceptedView, AcceptedViewsTold, WrittenViewsTold}
use Rattle.acceptance_laws.specs.Declares.{DeclaresAll}
use Rattle.acceptance_laws.specs.TheoryLaws.{AcceptedTheoriesTold, WrittenTheoriesTold}
use Rattle.coherence_laws.proofs.LibrariesHold.{in_reach, known_here, told_under, grounded_short, grounded_know_coherent, faces_are_coherent}
use Rattle.coherence_laws.proofs.SizesHold.{sizes_are_lengths}
use Rattle.acceptance_laws.proofs.AcceptedViews.{accepted_views, written_views}
use Rattle.acceptance_laws.proofs.AcceptedTheories.{decls_same, accepted_theories, written_theories}
use Rattle.acceptance_laws.proofs.AcceptedModules.{one_tree}
use Rattle.acceptance_laws.proofs.Alike.{Alike, alike_back}
use Rattle.acceptance_laws.proofs.DeclaredAlike.{DependenciesNamed, view_alike, declared_alike, empty_named}

module _ (library : Library) (name : Name) where
  abbrev reached : Name → Bool
  reached x = is_among (others_reached library name) x

  -- ---- what is reached is closed under what the faces name

  there_reached : (x : Name) → is_some (theory_of (known_to library name) x) ≡ true → reached x ≡ true
  there_reached x s = by (reached x) refl
    where
      by : (b : Bool) → is_among (others_reached library name) x ≡ b → b ≡ true
      by true e = refl
      by false e = absurd (true≢false (sym s ∙ ap (λ k. is_some (theory_face k)) (known_here library name x false e)))

  reached_alike : is_grounded dependencies library name ≡ true → Alike reached (known_to library name) (told_by library)
  reached_alike g =
      let coherent = grounded_know_coherent library name g in
      record {
        same = λ x n. known_here library name x true n ∙ sym (told_under library x);
        includes = λ x face other n e m. there_reached other ((coherent.theories x face e).includes other (member_among face.includes other m));
        domains = λ x face structure n e m.
            let p = member_place face.structures structure m in
            there_reached structure.domain ((coherent.theories x face e).domains p.0 structure p.1);
        ends = λ x face n e. there_reached face.domain ((coherent.views x face e).domain);
      }

  -- ---- dependencies are reached

  directly : (tree : Module) → IsModule library name tree → direct dependencies library name ≡ map (λ (dependency : Dependency). dependency.name) (module_dependencies tree)
  unfolding direct dependencies
  directly tree m =
      ap (of_text (dependencies name)) m.has
      ∙ ap (λ a. map (λ (dependency : Dependency). dependency.name) (answer_dependencies a)) m.is_read

  no_loop : (n : ℕ) → Short dependencies library n name → Member name (direct dependencies library name) → ⊥
  unfolding walking
  no_loop zero s k = s (present_in dependencies library name (depends_present dependencies library name name k))
  no_loop (suc n) s k = no_loop n (short_step dependencies library n name name s k) k

  dependencies_reached : (tree : Module) → IsModule library name tree → DependenciesNamed reached (module_dependencies tree)
  dependencies_reached tree m d k =
      in_reach library name d.name (reach_closed dependencies library name name d.name (reach_first dependencies library name) direct_member)
      (⊎_elim (λ e. absurd (no_loop (length library) (grounded_short library name m.grounded) (subst (λ x. Member x (direct dependencies library name)) (sym (same_sound name d.name e)) direct_member))) (λ e. e)
      (cases_Bool (same_name name d.name)))
    where
      direct_member : Member d.name (direct dependencies library name)
      direct_member =
          subst (Member d.name) (sym (directly tree m)) (map_in (λ (dependency : Dependency). dependency.name) (module_dependencies tree) d k)

  -- ---- views

  pub view_told : (written domain codomain : Written) (assigns : List Assign) (along : HeadMap) → IsModule library name (ViewModule written domain codomain assigns)
      → IsViewBetween (known_to library name) written domain codomain assigns along ↔ IsViewBetween (told_by library) written domain codomain assigns along
  view_told written domain codomain assigns along m =
      let w = dependencies_reached (ViewModule written domain codomain assigns) m in
      let n = w (at_written written.path domain) (inl refl) in
      let k = w (at_written written.path codomain) (inr (inl refl)) in
      let a = reached_alike m.grounded in (
        view_alike reached (known_to library name) (told_by library) a (grounded_know_coherent library name m.grounded) written domain codomain assigns along n k (λ d q. w d (inr (inr q))),
        view_alike reached (told_by library) (known_to library name) (alike_back reached (known_to library name) (told_by library) a) (faces_are_coherent library) written domain codomain assigns along n k (λ d q. w d (inr (inr q))),
      )

  -- ---- theories

  pub theory_told : (written : Written) (decls : List Decl) (face : TheoryFace) → IsModule library name (SigModule written decls)
      → DeclaresAll (known_to library name) (empty_theory name) decls face ↔ DeclaresAll (told_by library) (empty_theory name) decls face
  theory_told written decls face m =
      let w = dependencies_reached (SigModule written decls) m in
      let v = subst (λ z. DependenciesNamed reached (flat_map (decl_dependencies z) decls)) m.named w in
      let a = reached_alike m.grounded in
      let b = alike_back reached (known_to library name) (told_by library) a in (
        declared_alike reached (known_to library name) (told_by library) a (grounded_know_coherent library name m.grounded) name (empty_theory name) face decls
            (empty_named reached (known_to library name) (told_by library) a (grounded_know_coherent library name m.grounded) name) v,
        declared_alike reached (told_by library) (known_to library name) b (faces_are_coherent library) name (empty_theory name) face decls
            (empty_named reached (told_by library) (known_to library name) b (faces_are_coherent library) name) v,
      )

-- ---- the laws

-- a view over one environment is one over another, where its link is
view_over : (library : Library) (first second : Environment) (name : Name) (face : ViewFace)
    → ((written domain codomain : Written) (assigns : List Assign) → IsModule library name (ViewModule written domain codomain assigns)
    → IsViewBetween first written domain codomain assigns face.map → IsViewBetween second written domain codomain assigns face.map)
    → IsAcceptedView library first name face → IsAcceptedView library second name face
view_over library first second name face f v =
    record {
      written = v.written;
      domain = v.domain;
      codomain = v.codomain;
      assigns = v.assigns;
      module_is = v.module_is;
      named = v.named;
      from = v.from;
      to = v.to;
      view_is = f v.written v.domain v.codomain v.assigns v.module_is v.view_is;
    }

pub accepted_views_told : AcceptedViewsTold
accepted_views_told library name face =
    let a = accepted_views library name face in (
      (λ h. view_over library (known_to library name) (told_by library) name face (λ written domain codomain assigns m v. (view_told library name written domain codomain assigns face.map m).0 v) (a.0 h)),
      (λ v. a.1 (view_over library (told_by library) (known_to library name) name face (λ written domain codomain assigns m w. (view_told library name written domain codomain assigns face.map m).1 w) v)),
    )

pub written_views_told : WrittenViewsTold
written_views_told library name written domain codomain assigns along m =
    let a = written_views library name written domain codomain assigns along m in
    let b = view_told library name written domain codomain assigns along m in
    ((λ h. b.0 (a.0 h)), (λ v. a.1 (b.1 v)))

pub accepted_theories_told : AcceptedTheoriesTold
accepted_theories_told library name face size = (
  (λ h. let t = (accepted_theories library name face size).0 h in
      record {
        written = t.written;
        decls = t.decls;
        module_is = t.module_is;
        declared = (theory_told library name t.written t.decls face t.module_is).0 t.declared;
        counted = sizes_are_lengths library name face size h;
      }),
  (λ t. let h = (written_theories library name t.written t.decls face t.module_is).1 ((theory_told library name t.written t.decls face t.module_is).1 t.declared) in
      let e = sizes_are_lengths library name face (length (flat_signature (known_to library name) face)) h in
      h ∙ ap (λ z. Some (Accepted (Theory face z))) (e ∙ sym t.counted)),
)

pub written_theories_told : WrittenTheoriesTold
written_theories_told library name written decls face m = (
  (λ h. let t = (accepted_theories_told library name face (length (flat_signature (told_by library) face))).0 h in
      subst (λ z. DeclaresAll (told_by library) (empty_theory name) z face)
      (decls_same (one_tree library name (SigModule t.written t.decls) (SigModule written decls) t.module_is m)) t.declared),
  (λ d. (accepted_theories_told library name face (length (flat_signature (told_by library) face))).1
      (record { written = written; decls = decls; module_is = m; declared = d; counted = refl })),
)
