-- The closure of an accepted theory is that of the inclusions of its text, and has what it reaches by inclusions alone.
use Rattle.std.proofs.Common.{◌≡◌, ℕ, zero, suc, true, List, [], ◌∷◌, map, fold, flat_map, length, Option, Some, None, is_some, Ok, inl, inr, ⊎_elim, refl, sym, ap, ◌∙◌, subst, true≢false}
use Rattle.std.proofs.lemmas.List.Sums.{fold-append}
use Rattle.name_meaning.specs.Names.{Name, Text}
use Rattle.edit_log_meaning.specs.Log.{Library, text_of}
use Rattle.list_laws.proofs.Members.{Member, in_append, in_map, map_in, in_flat_map, flat_map_in}
use Rattle.name_laws.proofs.Order.{among_member, member_among}
use Rattle.module_graph_meaning.specs.Walks.{of_text, direct, walking}
use Rattle.module_graph_laws.proofs.Walking.{present_in, depends_present}
use Rattle.text_meaning.specs.Trees.{Written, Decl, IncludeDecl, StructDecl, ConstDecl, SigModule, ViewModule, first_name}
use Rattle.text_meaning.specs.Reading.{ModuleText, ModuleTree, JudgementTree, Answer, Read, Syntax, TooDeep, Unsupported}
use Rattle.text_meaning.specs.TextAnswers.{read}
use Rattle.library_meaning.specs.Faces.{TheoryFace, IsTheory, Environment, theory_of, includes_of}
use Rattle.library_meaning.specs.Closure.{sees, with_inclusion, closure_of}
use Rattle.library_laws.specs.ClosureLaws.{Brings}
use Rattle.library_laws.proofs.ClosureMembers.{closure_member, closure_new, closure_same}
use Rattle.elaborate_meaning.specs.Values.{expand_class}
use Rattle.link_meaning.specs.Refusals.{labelled}
use Rattle.link_meaning.specs.Passes.{link_map}
use Rattle.link_laws.proofs.Covered.{good_same}
use Rattle.link_laws.proofs.Linked.{known_theory}
use Rattle.text_meaning.specs.Dependencies.{Dependency, decl_dependencies, module_dependencies, answer_dependencies, dependencies}
use Rattle.verdict_meaning.specs.Inclusions.{decl_inclusions, answer_inclusions, text_inclusions, inclusions_in, ReachesByInclusions, Directly, Through}
use Rattle.verdict_meaning.specs.Modules.{module_test, scope_in, unused_test, declared_value, structure_setting, declare, declare_all, empty_theory}
use Rattle.verdict_meaning.specs.Verdicts.{Theory, Verdict, Accepted, known_by}
use Rattle.verdict_meaning.specs.Rounds.{verdict_of, told_by, known_to}
use Rattle.verdict_laws.proofs.Shortness.{Short, short_step}
use Rattle.coherence_laws.specs.InclusionLaws.{ClosureIsOfText, AcceptedHasClosure, ClosureIsReached, ReachedAreAccepted, AcceptedNotReachedByItself}
use Rattle.coherence_laws.proofs.ModulesHold.{known_by_test, theory_there}
use Rattle.coherence_laws.proofs.Transfer.{theory_same}
use Rattle.coherence_laws.proofs.LibrariesHold.{told, sound, tells_more, accepted_theory, library_coherent}
use Rattle.coherence_laws.proofs.AcceptedTrees.{FromDeclarations, from_declarations, FromLibrary, from_library, theory_verdict}
use Rattle.list_laws.proofs.Answers.{came_by}

-- ---- one module

-- what the inclusions of a theory's text have made of it
record Included (environment : Environment) (before after inclusions : List Name) : Type 0 where
  is : after ≡ fold (with_inclusion environment) before inclusions
  theories : (other : Name) → Member other inclusions → is_some (theory_of environment other) ≡ true

module _ (environment : Environment) where
  nothing_included : (names : List Name) → Included environment names names []
  nothing_included names = record { is = refl; theories = λ other m. absurd m }

  declare_includes : (here next : TheoryFace) (decl : Decl) → declare environment here decl ≡ Ok next → Included environment here.includes next.includes (decl_inclusions decl)
  declare_includes here next (IncludeDecl included) h =
      let t = came_by (module_test environment included.path included) _ next h in
      let n : Name = first_name included.path in
      let e : theory_of environment n ≡ Some t.item = theory_there environment n t.item (known_by_test included.span included.path (environment n) t.item t.came) in
      record {
        is = ap (λ (z : TheoryFace). z.includes) (sym (good_same t.goes));
        theories = λ other m. ⊎_elim (λ q. ap (λ z. is_some (theory_of environment z)) q ∙ ap is_some e) (λ q. absurd q) m;
      }
  declare_includes here next (ConstDecl name class value) h =
      let u = came_by (unused_test here name) _ next h in
      let k = came_by (labelled name.path (expand_class (scope_in environment here) class)) _ next u.goes in
      let v = came_by (declared_value (scope_in environment here) name.path k.item value) _ next k.goes in
      subst (λ (z : TheoryFace). Included environment here.includes z.includes []) (good_same v.goes) (nothing_included here.includes)
  declare_includes here next (StructDecl name domain assigns) h =
      let u = came_by (unused_test here name) _ next h in
      let t = came_by (module_test environment name.path domain) _ next u.goes in
      let l = came_by (link_map (structure_setting environment here name (first_name domain.path)) assigns) _ next t.goes in
      subst (λ (z : TheoryFace). Included environment here.includes z.includes []) (good_same l.goes) (nothing_included here.includes)

  declare_all_includes : (here face : TheoryFace) (decls : List Decl) → declare_all environment here decls ≡ Ok face → Included environment here.includes face.includes (flat_map decl_inclusions decls)
  unfolding declare_all
  declare_all_includes here face [] h = subst (λ (z : TheoryFace). Included environment here.includes z.includes []) (good_same h) (nothing_included here.includes)
  declare_all_includes here face (decl ∷ decls) h =
      let d = came_by (declare environment here decl) _ face h in
      let one = declare_includes here d.item decl d.came in
      let rest = declare_all_includes d.item face decls d.goes in
      record {
        is = rest.is ∙ ap (λ z. fold (with_inclusion environment) z (flat_map decl_inclusions decls)) one.is ∙ sym (fold-append (with_inclusion environment) here.includes (decl_inclusions decl) (flat_map decl_inclusions decls));
        theories = λ other m. ⊎_elim (λ q. one.theories other q) (λ q. rest.theories other q) (in_append (decl_inclusions decl) (flat_map decl_inclusions decls) other m);
      }

-- ---- an inclusion is a dependency

decl_depends : (theory : Name) (decl : Decl) (x : Name) → Member x (decl_inclusions decl) → Member x (map (λ (dependency : Dependency). dependency.name) (decl_dependencies theory decl))
decl_depends theory (IncludeDecl included) x m = m
decl_depends theory (StructDecl name domain assigns) x m = absurd m
decl_depends theory (ConstDecl name class value) x m = absurd m

answer_depends : (answer : Answer) (x : Name) → Member x (answer_inclusions answer) → Member x (map (λ (dependency : Dependency). dependency.name) (answer_dependencies answer))
answer_depends (Read (ModuleTree (SigModule name decls))) x m =
    let q = in_flat_map decl_inclusions decls x m in
    let r = in_map (λ (dependency : Dependency). dependency.name) (decl_dependencies (first_name name.path) q.0) x (decl_depends (first_name name.path) q.0 x q.2) in
    subst (λ z. Member z (map (λ (dependency : Dependency). dependency.name) (module_dependencies (SigModule name decls)))) (sym r.2)
    (map_in (λ (dependency : Dependency). dependency.name) (module_dependencies (SigModule name decls)) r.0 (flat_map_in (decl_dependencies (first_name name.path)) decls q.0 r.0 q.1 r.1))
answer_depends (Read (ModuleTree (ViewModule name domain codomain assigns))) x m = absurd m
answer_depends (Read (JudgementTree tree)) x m = absurd m
answer_depends (Syntax at) x m = absurd m
answer_depends (TooDeep at) x m = absurd m
answer_depends (Unsupported at) x m = absurd m

-- ---- a library

module _ (library : Library) where
  depends_by : (name : Name) (o : Option Text) (x : Name) → Member x (of_text text_inclusions o) → Member x (of_text (dependencies name) o)
  unfolding text_inclusions dependencies
  depends_by name None x m = absurd m
  depends_by name (Some text) x m = answer_depends (read ModuleText text) x m

  inclusion_depends : (name x : Name) → Member x (inclusions_in library name) → Member x (direct dependencies library name)
  unfolding inclusions_in direct
  inclusion_depends name x m = depends_by name (text_of library name) x m

  -- an accepted theory, with what its text includes
  record TextIncludes (name : Name) (face : TheoryFace) : Type 0 where
    short : Short dependencies library (length library) name
    is : face.includes ≡ closure_of (told_by library) (inclusions_in library name)
    theories : (other : Name) → Member other (inclusions_in library name) → is_some (theory_of (told_by library) other) ≡ true

  inclusions_are : (name : Name) (text : Text) (written : Written) (decls : List Decl) → text_of library name ≡ Some text → read ModuleText text ≡ Read (ModuleTree (SigModule written decls)) → flat_map decl_inclusions decls ≡ inclusions_in library name
  unfolding inclusions_in text_inclusions
  inclusions_are name text written decls e r = sym (ap (of_text text_inclusions) e ∙ ap answer_inclusions r)

  closure_folds : (environment : Environment) (inclusions : List Name) → fold (with_inclusion environment) [] inclusions ≡ closure_of environment inclusions
  unfolding closure_of
  closure_folds environment inclusions = refl

  included_in_text : (name : Name) (face : TheoryFace) (size : ℕ) (l : FromLibrary library name (Theory face size)) → FromDeclarations (known_to library name) l.from.tree face size
      → Included (known_to library name) [] face.includes (inclusions_in library name)
  included_in_text name face size l d =
      subst (Included (known_to library name) [] face.includes) (inclusions_are name l.text d.written d.decls l.has (l.from.is_read ∙ ap (λ z. Read (ModuleTree z)) d.is))
      (declare_all_includes (known_to library name) (empty_theory (first_name d.written.path)) face d.decls d.declared)

  text_includes_by : (name : Name) (face : TheoryFace) → Short dependencies library (length library) name → Included (known_to library name) [] face.includes (inclusions_in library name) → TextIncludes name face
  text_includes_by name face s i =
      record {
        short = s;
        is = i.is ∙ closure_folds (known_to library name) (inclusions_in library name) ∙ closure_same (known_to library name) (told_by library) (inclusions_in library name) (λ x m. same x (i.theories x m));
        theories = λ x m. ap is_some (same x (i.theories x m)) ∙ i.theories x m;
      }
    where
      same : (x : Name) → is_some (theory_of (known_to library name) x) ≡ true → theory_of (told_by library) x ≡ theory_of (known_to library name) x
      same = theory_same (known_to library name) (told_by library) (sound library (length library) name s).coherent (tells_more library name)

  text_includes_of : (name : Name) (face : TheoryFace) (verdict : Verdict) (size : ℕ) → verdict_of library name ≡ Some verdict → known_by verdict ≡ IsTheory face → verdict ≡ Accepted (Theory face size) → TextIncludes name face
  text_includes_of name face verdict size h k a =
      let l = from_library library name (Theory face size) (h ∙ ap Some a) in
      text_includes_by name face (accepted_theory library name verdict face h k)
      (included_in_text name face size l (from_declarations (known_to library name) l.from.tree face size l.from.passes))

  text_includes : (name : Name) (face : TheoryFace) → told_by library name ≡ IsTheory face → TextIncludes name face
  text_includes name face e =
      let v = told library (verdict_of library name) (IsTheory face) e (λ q. absurd (cc)) in
      let a = theory_verdict v.verdict face v.known_is in
      text_includes_of name face v.verdict a.0 v.is v.known_is a.1

  -- what an inclusion brings is reached, if it is where the included theory has it
  behind_by : (theory other : Name) (o : Option TheoryFace) → theory_of (told_by library) theory ≡ o → Member other (includes_of o)
      → ((found : TheoryFace) → told_by library theory ≡ IsTheory found → Member other found.includes → ReachesByInclusions library theory other) → ReachesByInclusions library theory other
  behind_by theory other None q w f = absurd w
  behind_by theory other (Some found) q w f = f found (known_theory (told_by library theory) found q) w

  brought_reached : (name theory other : Name) → Member theory (inclusions_in library name) → Brings (told_by library) theory other
      → ((found : TheoryFace) → told_by library theory ≡ IsTheory found → Member other found.includes → ReachesByInclusions library theory other) → ReachesByInclusions library name other
  brought_reached name theory other k (inl q) f = Directly (member_among (inclusions_in library name) other (subst (λ z. Member z (inclusions_in library name)) (sym q) k))
  brought_reached name theory other k (inr w) f =
      Through (member_among (inclusions_in library name) theory k)
      (behind_by theory other (theory_of (told_by library) theory) refl (among_member (includes_of (theory_of (told_by library) theory)) other w) f)

  nothing_behind : (name d : Name) → Short dependencies library zero name → Member d (direct dependencies library name) → ⊥
  unfolding walking
  nothing_behind name d s m = s (present_in dependencies library name (depends_present dependencies library name d m))

  -- what the closure has is reached, by the length of walks
  reached : (n : ℕ) (name other : Name) (face : TheoryFace) → Short dependencies library n name → told_by library name ≡ IsTheory face → Member other face.includes → ReachesByInclusions library name other
  reached zero name other face s e m =
      let b = closure_member (told_by library) (inclusions_in library name) other (subst (Member other) (text_includes name face e).is m) in
      brought_reached name b.theory other b.member b.brings
      (λ found q w. absurd (nothing_behind name b.theory s (inclusion_depends name b.theory b.member)))
  reached (suc n) name other face s e m =
      let b = closure_member (told_by library) (inclusions_in library name) other (subst (Member other) (text_includes name face e).is m) in
      brought_reached name b.theory other b.member b.brings
      (λ found q w. reached n b.theory other found (short_step dependencies library n name b.theory s (inclusion_depends name b.theory b.member)) q w)

  -- each included theory is accepted, so the closure has what is reached through it
  listed_by : (name included other : Name) (face : TheoryFace) → told_by library name ≡ IsTheory face → Member included (inclusions_in library name) → (o : Option TheoryFace) → theory_of (told_by library) included ≡ o
      → ((found : TheoryFace) → told_by library included ≡ IsTheory found → Member other found.includes) → Member other face.includes
  listed_by name included other face e k None q f = absurd (true≢false (sym ((text_includes name face e).theories included k) ∙ ap is_some q))
  listed_by name included other face e k (Some found) q f =
      subst (Member other) (sym (text_includes name face e).is)
      (closure_new (told_by library) (inclusions_in library name) included other k
      (inr (ap (λ o. sees (includes_of o) other) q ∙ member_among found.includes other (f found (known_theory (told_by library included) found q)))))

  listed : (name other : Name) → ReachesByInclusions library name other → (face : TheoryFace) → told_by library name ≡ IsTheory face → Member other face.includes
  listed name other (Directly s) face e =
      subst (Member other) (sym (text_includes name face e).is) (closure_new (told_by library) (inclusions_in library name) other other (among_member (inclusions_in library name) other s) (inl refl))
  listed name other (Through {included = included} s r) face e =
      listed_by name included other face e (among_member (inclusions_in library name) included s) (theory_of (told_by library) included) refl (λ found q. listed included other r found q)

-- ---- the laws

pub closure_is_of_text : ClosureIsOfText
closure_is_of_text library name face e = (text_includes library name face e).is

pub accepted_has_closure : AcceptedHasClosure
accepted_has_closure library name face e = ((library_coherent library).theories name face e).includes_closure

pub closure_is_reached : ClosureIsReached
closure_is_reached library name face other e = (
  λ s. reached library (length library) name other face (text_includes library name face e).short e (among_member face.includes other s),
  λ r. member_among face.includes other (listed library name other r face e),
)

pub reached_are_accepted : ReachedAreAccepted
reached_are_accepted library name face other e r =
    ((library_coherent library).theories name face e).includes other ((closure_is_reached library name face other e).1 r)

pub not_reached_by_itself : AcceptedNotReachedByItself
not_reached_by_itself library name face e r =
    ((library_coherent library).theories name face e).includes_others name ((closure_is_reached library name face name e).1 r) refl
