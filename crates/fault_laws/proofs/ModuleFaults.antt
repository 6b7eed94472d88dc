-- The refusals of modules stand in their texts, and a grounded module never breaks the rule of cycles.
use Rattle.std.proofs.Common.{◌≡◌, ℕ, ◌≤◌, Bool, true, false, List, [], ◌∷◌, ◌++◌, length, find, flat_map, not, Option, Some, None, Ok, Err, inl, inr, refl, sym, ap, subst, ⊎_elim, arith}
use Rattle.name_meaning.specs.Names.{Name, Path, Text, same_name}
use Rattle.lf_meaning.specs.Signatures.{Class}
use Rattle.list_laws.proofs.Members.{Member, in_append, find_found}
use Rattle.library_meaning.specs.Faces.{TheoryFace, Known, IsAbsent, IsRefused, IsTheory, IsView, Environment}
use Rattle.library_meaning.specs.Resolution.{Scope}
use Rattle.text_meaning.specs.Tokens.{Span}
use Rattle.text_meaning.specs.Labels.{label_in}
use Rattle.text_meaning.specs.Trees.{Expr, Written, Assign, IncludeAssign, StructAssign, ConstAssign, Decl, IncludeDecl, StructDecl, ConstDecl, Module, SigModule, ViewModule, first_name}
use Rattle.text_meaning.specs.Reading.{ModuleText, ModuleTree, JudgementTree, Answer, Read, Syntax, TooDeep, Unsupported}
use Rattle.text_meaning.specs.TextAnswers.{read}
use Rattle.text_meaning.specs.Dependencies.{Dependency, is_own_word, unless_own, at_written, word_dependencies, assign_dependencies, decl_dependencies, module_dependencies}
use Rattle.elaborate_meaning.specs.Rules.{Rule}
use Rattle.elaborate_meaning.specs.Values.{expand_class, expand_value}
use Rattle.link_meaning.specs.Refusals.{Refusal, Outcome, labelled, demand}
use Rattle.link_meaning.specs.Passes.{link_map}
use Rattle.verdict_meaning.specs.Modules.{known_theory, module_test, scope_in, is_used, unused_test, declared_value, structure_setting, declare, declare_all, empty_theory, view_setting, checked_view}
use Rattle.verdict_meaning.specs.Verdicts.{Interface, Refused, verdict_by, written_name, checked, cycle_at, judge_tree, judge_answer, judge}
use Rattle.span_meaning.specs.Spans.{StandsWithin, WordsStand, AssignStands, AssignsStand, ValueStands, DeclStands, DeclsStand, ModuleStands, AnswerStands}
use Rattle.place_laws.proofs.ReadingPlaces.{reading_stands_within}
use Rattle.fault_laws.specs.RulesBroken.{IsOneOf, expression_rules, pass_rules, link_rules, module_rules, grounded_rules, Refuses}
use Rattle.fault_laws.proofs.Telling.{refuses_then, refuses_test, refuses_labelled, refuses_more}
use Rattle.fault_laws.proofs.ExpressionFaults.{class_faults, value_faults}
use Rattle.fault_laws.proofs.LinkFaults.{map_refuses}

-- those of a grounded module, and that of cycles
abbrev all_rules : List Rule
all_rules = grounded_rules ++ (Rule.Cycle ∷ [])

module _ (P : Span → Type 0) (nowhere : P (record { from = 0; to = 0 })) where
  abbrev Tested : {A : Type 0} → Outcome A → Type 0
  Tested outcome = Refuses P module_rules outcome

  known_refuses : (span : Span) (label : Path) (known : Known) → P span → Tested (known_theory span label known)
  known_refuses span label IsAbsent h = (h, refl)
  known_refuses span label IsRefused h = (h, refl)
  known_refuses span label (IsTheory face) h = tt
  known_refuses span label (IsView face) h = (h, refl)

  module_refuses : (environment : Environment) (label : Path) (written : Written) → P written.span → Tested (module_test environment label written)
  module_refuses environment label written h = known_refuses written.span label (environment (first_name written.path)) h

  unused_refuses : (here : TheoryFace) (written : Written) → P written.span → Tested (unused_test here written)
  unused_refuses here written h = refuses_test P module_rules (not (is_used here (first_name written.path))) written.span Rule.DuplicateName written.path h refl

  value_refuses : (scope : Scope) (label : Path) (class : Class) (o : Option Expr) → ValueStands P o → Tested (declared_value scope label class o)
  value_refuses scope label class None h = tt
  value_refuses scope label class (Some e) h =
      refuses_then P module_rules (labelled label (expand_value scope e class)) _
      (refuses_labelled P expression_rules (pass_rules None ++ (Rule.DuplicateName ∷ [])) label (expand_value scope e class) (value_faults P scope e class h)) (λ value g. tt)

  -- the rules of a structure or a view are among those of modules
  link_refuses : {A : Type 0} (o : Option Name) (outcome : Outcome A) → Refuses P (link_rules o) outcome → Tested outcome
  link_refuses None outcome h = refuses_more P (link_rules None) (Rule.DuplicateName ∷ []) outcome h
  link_refuses (Some structure) outcome h = refuses_more P (link_rules (Some structure)) (Rule.MissingAssignment ∷ Rule.DuplicateName ∷ []) outcome h

  pub declare_refuses : (environment : Environment) (here : TheoryFace) (decl : Decl) → DeclStands P decl → Tested (declare environment here decl)
  declare_refuses environment here (IncludeDecl included) h =
      refuses_then P module_rules (module_test environment included.path included) _ (module_refuses environment included.path included h) (λ face e. tt)
  declare_refuses environment here (ConstDecl written class value) h =
      refuses_then P module_rules (unused_test here written) _ (unused_refuses here written h.0)
      (λ done e. refuses_then P module_rules (labelled written.path (expand_class (scope_in environment here) class)) _
      (refuses_labelled P expression_rules (pass_rules None ++ (Rule.DuplicateName ∷ [])) written.path (expand_class (scope_in environment here) class) (class_faults P (scope_in environment here) class h.1))
      (λ class' g. refuses_then P module_rules (declared_value (scope_in environment here) written.path class' value) _ (value_refuses (scope_in environment here) written.path class' value h.2) (λ value' k. tt)))
  declare_refuses environment here (StructDecl written domain assigns) h =
      refuses_then P module_rules (unused_test here written) _ (unused_refuses here written h.0)
      (λ done e. refuses_then P module_rules (module_test environment written.path domain) _ (module_refuses environment written.path domain h.1)
      (λ face g. refuses_then P module_rules (link_map (structure_setting environment here written (first_name domain.path)) assigns) _
      (link_refuses (Some (first_name written.path)) (link_map (structure_setting environment here written (first_name domain.path)) assigns)
      (map_refuses P nowhere (structure_setting environment here written (first_name domain.path)) h.0 assigns h.2)) (λ along k. tt)))

  all_refuse : (environment : Environment) (decls : List Decl) (here : TheoryFace) → DeclsStand P decls → Tested (declare_all environment here decls)
  unfolding declare_all
  all_refuse environment [] here h = tt
  all_refuse environment (decl ∷ decls) here h =
      refuses_then P module_rules (declare environment here decl) _ (declare_refuses environment here decl h.0) (λ next e. all_refuse environment decls next h.1)

  view_refuses : (environment : Environment) (written domain codomain : Written) (assigns : List Assign) → P written.span → P domain.span → P codomain.span → AssignsStand P assigns → Tested (checked_view environment written domain codomain assigns)
  view_refuses environment written domain codomain assigns h d c a =
      refuses_then P module_rules (module_test environment written.path domain) _ (module_refuses environment written.path domain d)
      (λ face e. refuses_then P module_rules (module_test environment written.path codomain) _ (module_refuses environment written.path codomain c)
      (λ target g. refuses_then P module_rules (link_map (view_setting environment written (first_name domain.path) target (first_name codomain.path)) assigns) _
      (link_refuses None (link_map (view_setting environment written (first_name domain.path) target (first_name codomain.path)) assigns)
      (map_refuses P nowhere (view_setting environment written (first_name domain.path) target (first_name codomain.path)) h assigns a)) (λ along k. tt)))

  checked_refuses : (environment : Environment) (tree : Module) → ModuleStands P tree → Tested (checked environment tree)
  checked_refuses environment (SigModule written decls) h =
      refuses_then P module_rules (declare_all environment (empty_theory (first_name written.path)) decls) _ (all_refuse environment decls (empty_theory (first_name written.path)) h.1) (λ face e. tt)
  checked_refuses environment (ViewModule written domain codomain assigns) h =
      refuses_then P module_rules (checked_view environment written domain codomain assigns) _ (view_refuses environment written domain codomain assigns h.0 h.1 h.2 h.3) (λ face e. tt)

  named_stands : (tree : Module) → ModuleStands P tree → P (written_name tree).span
  named_stands (SigModule written decls) h = h.0
  named_stands (ViewModule written domain codomain assigns) h = h.0

  grounded_refuses : (environment : Environment) (ungrounded : Name → Bool) (name : Name) (tree : Module) → ModuleStands P tree → Refuses P grounded_rules (judge_tree environment ungrounded name tree false)
  grounded_refuses environment ungrounded name tree h =
      refuses_then P grounded_rules (demand (same_name (first_name (written_name tree).path) name) (written_name tree).span Rule.WrongName (written_name tree).path) _
      (refuses_test P grounded_rules (same_name (first_name (written_name tree).path) name) (written_name tree).span Rule.WrongName (written_name tree).path (named_stands tree h) refl)
      (λ done e. refuses_more P module_rules (Rule.WrongName ∷ Rule.Syntax ∷ Rule.TooDeep ∷ Rule.Unsupported ∷ []) (checked environment tree) (checked_refuses environment tree h))

  -- ---- dependencies

  word_among : (b : Bool) (label : Path) (word : Written) (d : Dependency) → P word.span → Member d (unless_own b (at_written label word)) → P d.span
  word_among true label word d h m = absurd m
  word_among false label word d h (inl e) = subst (λ (z : Dependency). P z.span) (sym e) h
  word_among false label word d h (inr m) = absurd m

  words_among : (theory : Option Name) (label : Path) (words : List Written) (d : Dependency) → WordsStand P words → Member d (flat_map (word_dependencies theory label) words) → P d.span
  words_among theory label [] d h m = absurd m
  words_among theory label (word ∷ words) d h m =
      ⊎_elim (λ n. word_among (is_own_word theory word.path) label word d h.0 n) (λ n. words_among theory label words d h.1 n)
      (in_append (word_dependencies theory label word) (flat_map (word_dependencies theory label) words) d m)

  assign_among : (theory structure : Option Name) (label : Path) (assign : Assign) (d : Dependency) → AssignStands P assign → Member d (assign_dependencies theory structure label assign) → P d.span
  assign_among theory structure label (IncludeAssign words) d h m = words_among theory label words d h m
  assign_among theory structure label (StructAssign target words) d h m = words_among theory (label_in structure target.path) words d h.1 m
  assign_among theory structure label (ConstAssign target value) d h m = absurd m

  assigns_among : (theory structure : Option Name) (label : Path) (assigns : List Assign) (d : Dependency) → AssignsStand P assigns → Member d (flat_map (assign_dependencies theory structure label) assigns) → P d.span
  assigns_among theory structure label [] d h m = absurd m
  assigns_among theory structure label (assign ∷ assigns) d h m =
      ⊎_elim (λ n. assign_among theory structure label assign d h.0 n) (λ n. assigns_among theory structure label assigns d h.1 n)
      (in_append (assign_dependencies theory structure label assign) (flat_map (assign_dependencies theory structure label) assigns) d m)

  written_first : (label : Path) (written : Written) (rest : List Dependency) (d : Dependency) → P written.span → (Member d rest → P d.span) → Member d (at_written label written ∷ rest) → P d.span
  written_first label written rest d h f (inl e) = subst (λ (z : Dependency). P z.span) (sym e) h
  written_first label written rest d h f (inr m) = f m

  decl_among : (theory : Name) (decl : Decl) (d : Dependency) → DeclStands P decl → Member d (decl_dependencies theory decl) → P d.span
  decl_among theory (IncludeDecl included) d h m = written_first included.path included [] d h (λ n. absurd n) m
  decl_among theory (StructDecl written domain assigns) d h m =
      written_first written.path domain (flat_map (assign_dependencies (Some theory) (Some (first_name written.path)) written.path) assigns) d h.1
      (λ n. assigns_among (Some theory) (Some (first_name written.path)) written.path assigns d h.2 n) m
  decl_among theory (ConstDecl written class value) d h m = absurd m

  decls_among : (theory : Name) (decls : List Decl) (d : Dependency) → DeclsStand P decls → Member d (flat_map (decl_dependencies theory) decls) → P d.span
  decls_among theory [] d h m = absurd m
  decls_among theory (decl ∷ decls) d h m =
      ⊎_elim (λ n. decl_among theory decl d h.0 n) (λ n. decls_among theory decls d h.1 n) (in_append (decl_dependencies theory decl) (flat_map (decl_dependencies theory) decls) d m)

  among : (tree : Module) (d : Dependency) → ModuleStands P tree → Member d (module_dependencies tree) → P d.span
  among (SigModule written decls) d h m = decls_among (first_name written.path) decls d h.1 m
  among (ViewModule written domain codomain assigns) d h m =
      written_first written.path domain (at_written written.path codomain ∷ flat_map (assign_dependencies None None written.path) assigns) d h.1
      (λ n. written_first written.path codomain (flat_map (assign_dependencies None None written.path) assigns) d h.2 (λ k. assigns_among None None written.path assigns d h.3 k) n) m

  cycle_refuses : (name : Name) (tree : Module) (test : Dependency → Bool) (o : Option Dependency) → ModuleStands P tree → find test (module_dependencies tree) ≡ o → Refuses P all_rules (cycle_at name o)
  cycle_refuses name tree test None h e = (nowhere, refl)
  cycle_refuses name tree test (Some dependency) h e = (among tree dependency h (find_found test (module_dependencies tree) dependency e).0, refl)

  tree_refuses : (environment : Environment) (ungrounded : Name → Bool) (name : Name) (tree : Module) (b : Bool) → ModuleStands P tree → Refuses P all_rules (judge_tree environment ungrounded name tree b)
  tree_refuses environment ungrounded name tree true h = cycle_refuses name tree (λ (dependency : Dependency). ungrounded dependency.name) (find (λ (dependency : Dependency). ungrounded dependency.name) (module_dependencies tree)) h refl
  tree_refuses environment ungrounded name tree false h = refuses_more P grounded_rules (Rule.Cycle ∷ []) (judge_tree environment ungrounded name tree false) (grounded_refuses environment ungrounded name tree h)

-- ---- texts

module _ (environment : Environment) (ungrounded : Name → Bool) (name : Name) where
  at_place : (bytes at : ℕ) → at ≤ bytes → StandsWithin 0 bytes (record { from = at; to = at })
  at_place bytes at h = record { behind = omega arith; forward = omega arith; before = h }

  nowhere_within : (bytes : ℕ) → StandsWithin 0 bytes (record { from = 0; to = 0 })
  nowhere_within bytes = at_place bytes 0 (omega arith)

  answer_refuses : (bytes : ℕ) (answer : Answer) → AnswerStands bytes answer → Refuses (StandsWithin 0 bytes) all_rules (judge_answer environment ungrounded name answer)
  answer_refuses bytes (Read (ModuleTree tree)) h = tree_refuses (StandsWithin 0 bytes) (nowhere_within bytes) environment ungrounded name tree (ungrounded name) h
  answer_refuses bytes (Read (JudgementTree tree)) h = (nowhere_within bytes, refl)
  answer_refuses bytes (Syntax at) h = (at_place bytes at h, refl)
  answer_refuses bytes (TooDeep at) h = (at_place bytes at h, refl)
  answer_refuses bytes (Unsupported at) h = (at_place bytes at h, refl)

  grounded_answer : (bytes : ℕ) (answer : Answer) → ungrounded name ≡ false → AnswerStands bytes answer → Refuses (StandsWithin 0 bytes) grounded_rules (judge_answer environment ungrounded name answer)
  grounded_answer bytes (Read (ModuleTree tree)) e h =
      subst (λ b. Refuses (StandsWithin 0 bytes) grounded_rules (judge_tree environment ungrounded name tree b)) (sym e) (grounded_refuses (StandsWithin 0 bytes) (nowhere_within bytes) environment ungrounded name tree h)
  grounded_answer bytes (Read (JudgementTree tree)) e h = (nowhere_within bytes, refl)
  grounded_answer bytes (Syntax at) e h = (at_place bytes at h, refl)
  grounded_answer bytes (TooDeep at) e h = (at_place bytes at h, refl)
  grounded_answer bytes (Unsupported at) e h = (at_place bytes at h, refl)

  refused_is : (outcome : Outcome Interface) (refusal : Refusal) → verdict_by outcome ≡ Refused refusal → outcome ≡ Err refusal
  refused_is (Ok interface) refusal h = absurd (cc)
  refused_is (Err found) refusal h = ap Err (let e : found ≡ refusal = cc in e)

  -- what a refused text breaks, and where
  pub refused_within : (text : Text) (refusal : Refusal) → judge environment ungrounded name text ≡ Refused refusal → StandsWithin 0 (length text) refusal.span
  unfolding judge
  refused_within text refusal h =
      let e = refused_is (judge_answer environment ungrounded name (read ModuleText text)) refusal h in
      (subst (Refuses (StandsWithin 0 (length text)) all_rules) e (answer_refuses (length text) (read ModuleText text) (reading_stands_within ModuleText text))).0

  pub grounded_breaks : (text : Text) (refusal : Refusal) → ungrounded name ≡ false → judge environment ungrounded name text ≡ Refused refusal → IsOneOf grounded_rules refusal.rule
  unfolding judge
  grounded_breaks text refusal g h =
      let e = refused_is (judge_answer environment ungrounded name (read ModuleText text)) refusal h in
      (subst (Refuses (StandsWithin 0 (length text)) grounded_rules) e (grounded_answer (length text) (read ModuleText text) g (reading_stands_within ModuleText text))).1
