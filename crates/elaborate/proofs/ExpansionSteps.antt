-- What expressions stand for, step by step, by the expressions of the code.
use Rattle.std.proofs.Common.{◌≡◌, ℕ, List, [], ◌∷◌, map, fold, take, drop, length, slice_index_or, ◌+◌, ◌<◌, ◌≤◌, Option, Some, None, Result, Ok, Err, refl, sym, ap, ap₂, ◌∙◌, subst}
use Rattle.std.proofs.lemmas.List.{map-append, take-append-drop, take_all}
use Rattle.std.proofs.lemmas.List.Sums.{fold-append}
use Rattle.std.specs.declared.boxed.Box.{Box}
use Rattle.std.specs.declared.alloc.Global.{Global}
use Rattle.name_meaning.specs.Names.{Name, Path}
use Rattle.lf_meaning.specs.Terms.{Object, Lam, Family, Pi}
use Rattle.translation_meaning.specs.Heads as heads
use Rattle.library_meaning.specs.Resolution.{Scope}
use Rattle.text_meaning.specs.Tokens.{Span}
use Rattle.text_meaning.specs.Trees as trees
use Rattle.answer_meaning.specs.Answers.{◌>>=◌}
use Rattle.elaborate_meaning.specs.Rules as rules
use Rattle.elaborate_meaning.specs.Answers.{Answer, broken, must}
use Rattle.lf_meaning.specs.Equality.{same_family}
use Rattle.elaborate_meaning.specs.Locals.{Locals, with_local}
use Rattle.elaborate_meaning.specs.NameHeads.{Level, Objects, Families, name_head}
use Rattle.elaborate_meaning.specs.Expansion.{Product, span_of, lambda_at, object_at, family_at_type, expand_object, expand_head, expand_arguments, expand_family}
use Rattle.term_trees.specs.Readings.{read_family, read_object}
use Rattle.term_trees.proofs.ReadingEquations.{read_family_pi, read_family_at, read_object_lam}
use Rattle.base_types.specs.declared.qname.QName.{QName}
use Rattle.term_trees.specs.declared.fam.Fam.{Fam}
use Rattle.term_trees.specs.declared.fam.Fam.TheVariants as fams
use Rattle.term_trees.specs.declared.obj.Obj.{Obj}
use Rattle.term_trees.specs.declared.obj.Obj.TheVariants as objs
use Rattle.term_trees.specs.declared.obj.Spine.{Spine}
use Rattle.base_types.specs.declared.span.Span as code_span
use Rattle.mmt_interface.specs.ReadRules.{read_rule}
use Rattle.mmt_interface.specs.declared.rule.Rule.{Rule}
use Rattle.mmt_syntax.specs.Readings.{read_span, read_binder, read_expr, expressions_of}
use Rattle.mmt_syntax.specs.Readings as readings
use Rattle.mmt_syntax.specs.declared.expr.Binder.{Binder}
use Rattle.mmt_syntax.specs.declared.expr.Expr.{Expr}
use Rattle.mmt_syntax.specs.declared.expr.Exprs.{Exprs}
use Rattle.mmt_syntax.specs.declared.expr.Node.TheVariants as nodes
use Rattle.elaborate.specs.HeadStates.{Stands}
use Rattle.elaborate.specs.Steps.{written_of, domain_answer, applied_answer, applied_family_answer, argument_answer, product_answer}
use Rattle.elaborate.specs.Answers.{IsFirstFault, Expands, Begins}
use Rattle.elaborate.specs.declared.fault.ElabFault.{ElabFault}
use Rattle.elaborate.specs.declared.fault.ElabFault.TheVariants as faults
use Rattle.elaborate.specs.declared.heads.Head.{Head}
use Rattle.mmt_syntax.proofs.Nodes.{read_ty, read_name, read_app, read_pi, read_lam, read_typed_lam, read_arrow, read_back, read_last, next_taken}

-- ---- answers

pub bind_same : {A B C : Type 0} (m : Answer A) (f : A → Answer B) (g : B → Answer C) → ((m >>= f) >>= g) ≡ (m >>= (λ a. f a >>= g))
bind_same (Ok a) f g = refl
bind_same (Err e) f g = refl

-- The first fault of a part is that of the whole.
pub first_stays : {A B : Type 0} (fault : ElabFault) (m : Answer A) (f : A → Answer B) → IsFirstFault fault m → IsFirstFault fault (m >>= f)
first_stays (faults.Broken span rule) m f h = ap (λ a. a >>= f) h
first_stays faults.Memory m f h = tt

-- So it is behind what passes.
pub first_behind : {A B : Type 0} (fault : ElabFault) (m : Answer A) (a : A) (f : A → Answer B) → m ≡ Ok a → IsFirstFault fault (f a) → IsFirstFault fault (m >>= f)
first_behind fault m a f is h = subst (λ n. IsFirstFault fault (n >>= f)) (sym is) h

pub is_broken : {B : Type 0} (fault : ElabFault) (span : code_span.Span) (rule : Rule) (answer : Answer B) → fault ≡ faults.Broken span rule → answer ≡ broken (read_span span) (read_rule rule) → IsFirstFault fault answer
is_broken fault span rule answer is h = subst (λ f. IsFirstFault f answer) (sym is) h

pub same_fault : {B : Type 0} (fault : ElabFault) (a b : Answer B) → b ≡ a → IsFirstFault fault a → IsFirstFault fault b
same_fault fault a b same h = subst (IsFirstFault fault) (sym same) h

pub same_answer : {A B : Type 0} (read : A → B) (result : Result A ElabFault) (a b : Answer B) → b ≡ a → Expands read result a → Expands read result b
same_answer read result a b same h = subst (Expands read result) (sym same) h

pub same_begin : (result : Result Head ElabFault) (a b : Answer heads.Head) → b ≡ a → Begins result a → Begins result b
same_begin result a b same h = subst (Begins result) (sym same) h

-- A head that is there.
pub begun : (own : Head) (answer : Answer heads.Head) → Begins (Ok own) answer → (head : heads.Head) × (answer ≡ Ok head) × Stands own head
begun own (Ok head) h = (head, refl, h)
begun own (Err fault) h = absurd h

-- The same expression in a scope and behind variables that are the same.
pub object_moved : (scope other : Scope) (locals others : Locals) (e : trees.Expr) (family : Family) → other ≡ scope → others ≡ locals → expand_object other others e family ≡ expand_object scope locals e family
object_moved scope other locals others e family s l = ap₂ (λ x y. expand_object x y e family) s l

module _ (scope : Scope) (locals : Locals) where
  -- ---- objects

  abbrev pub ObjectOf : Expr → Family → Answer Object
  ObjectOf e family = expand_object scope locals (read_expr e) family

  pub object_type : (e : Expr) (family : Family) → e.node ≡ nodes.Ty → ObjectOf e family ≡ broken (read_span e.span) rules.Rule.Level
  unfolding expand_object
  object_type e family k = ap (λ x. expand_object scope locals x family) (read_ty e k)

  pub object_pi : (e : Expr) (family : Family) (x : Binder) (a b : Box Expr Global) → e.node ≡ nodes.Pi x a b → ObjectOf e family ≡ broken (read_span e.span) rules.Rule.Level
  unfolding expand_object
  object_pi e family x a b k = ap (λ x. expand_object scope locals x family) (read_pi e x a b a.value b.value k refl refl)

  pub object_arrow : (e : Expr) (family : Family) (a b : Box Expr Global) → e.node ≡ nodes.Arrow a b → ObjectOf e family ≡ broken (read_span e.span) rules.Rule.Level
  unfolding expand_object
  object_arrow e family a b k = ap (λ x. expand_object scope locals x family) (read_arrow e a b a.value b.value k refl refl)

  pub object_back : (e : Expr) (family : Family) (b a : Box Expr Global) → e.node ≡ nodes.Back b a → ObjectOf e family ≡ broken (read_span e.span) rules.Rule.Level
  unfolding expand_object
  object_back e family b a k = ap (λ x. expand_object scope locals x family) (read_back e b a b.value a.value k refl refl)

  -- a λ, with a written domain or none
  lambda_answer : Span → Option Name → Option trees.Expr → trees.Expr → Family → Answer Object
  lambda_answer span x written body family =
      lambda_at span family >>= (λ product. domain_answer scope locals written product.domain >>= (λ _. expand_object scope (with_local x product.domain locals) body product.codomain >>= (λ object. Ok (Lam object))))

  object_lambda : (e : Expr) (family : Family) (x : Binder) (w : Option (Box Expr Global)) (b : Box Expr Global) (body : Expr) → e.node ≡ nodes.Lam x w b → body ≡ b.value
      → ObjectOf e family ≡ lambda_answer (read_span e.span) (read_binder x) (written_of w) (read_expr body) family
  unfolding expand_object lambda_answer
  object_lambda e family x None b body k q = ap (λ x. expand_object scope locals x family) (read_lam e x b body k q)
  object_lambda e family x (Some a) b body k q =
      ap (λ x. expand_object scope locals x family) (read_typed_lam e x a b a.value body k refl q) ∙ by (lambda_at (read_span e.span) family)
    where
      by : (m : Answer Product) → (m >>= (λ product. expand_family scope locals (read_expr a.value) >>= (λ written. must (same_family written product.domain) (span_of (read_expr a.value)) rules.Rule.Annotation >>= (λ _. expand_object scope (with_local (read_binder x) product.domain locals) (read_expr body) product.codomain >>= (λ object. Ok (Lam object))))))
          ≡ (m >>= (λ product. domain_answer scope locals (Some (read_expr a.value)) product.domain >>= (λ _. expand_object scope (with_local (read_binder x) product.domain locals) (read_expr body) product.codomain >>= (λ object. Ok (Lam object)))))
      by (Ok product) = sym (bind_same (expand_family scope locals (read_expr a.value)) _ _)
      by (Err fault) = refl

  module _ (e : Expr) (x : Binder) (w : Option (Box Expr Global)) (b : Box Expr Global) (is : e.node ≡ nodes.Lam x w b) where
    -- at an atomic family
    pub lambda_mismatch : (t : Fam) (q : QName) (s : Spine) → t ≡ fams.At q s → ObjectOf e (read_family t) ≡ broken (read_span e.span) rules.Rule.Mismatch
    unfolding lambda_answer
    lambda_mismatch t q s k =
        object_lambda e (read_family t) x w b b.value is refl
        ∙ ap (lambda_answer (read_span e.span) (read_binder x) (written_of w) (read_expr b.value)) (ap read_family k ∙ read_family_at q s)

    -- at a Π
    module _ (t : Fam) (d c : Box Fam Global) (domain codomain : Fam) (body : Expr) (at : t ≡ fams.Pi d c) (domain_is : domain ≡ d.value) (codomain_is : codomain ≡ c.value) (body_is : body ≡ b.value) where
      lambda_behind : ObjectOf e (read_family t)
          ≡ (domain_answer scope locals (written_of w) (read_family domain) >>= (λ _. expand_object scope (with_local (read_binder x) (read_family domain) locals) (read_expr body) (read_family codomain) >>= (λ object. Ok (Lam object))))
      unfolding lambda_answer
      lambda_behind =
          object_lambda e (read_family t) x w b body is body_is
          ∙ ap (lambda_answer (read_span e.span) (read_binder x) (written_of w) (read_expr body)) (ap read_family at ∙ read_family_pi d c ∙ ap (λ a. Pi (read_family a) (read_family c.value)) (sym domain_is) ∙ ap (λ a. Pi (read_family domain) (read_family a)) (sym codomain_is))

      pub lambda_domain_fault : (fault : ElabFault) → IsFirstFault fault (domain_answer scope locals (written_of w) (read_family domain)) → IsFirstFault fault (ObjectOf e (read_family t))
      lambda_domain_fault fault h = same_fault fault _ _ lambda_behind (first_stays fault (domain_answer scope locals (written_of w) (read_family domain)) _ h)

      module _ (passed : domain_answer scope locals (written_of w) (read_family domain) ≡ Ok tt) where
        pub lambda_body_fault : (fault : ElabFault) → IsFirstFault fault (expand_object scope (with_local (read_binder x) (read_family domain) locals) (read_expr body) (read_family codomain)) → IsFirstFault fault (ObjectOf e (read_family t))
        lambda_body_fault fault h =
            same_fault fault _ _ lambda_behind
            (first_behind fault (domain_answer scope locals (written_of w) (read_family domain)) tt _ passed
            (first_stays fault (expand_object scope (with_local (read_binder x) (read_family domain) locals) (read_expr body) (read_family codomain)) _ h))

        pub lambda_stands : (m : Obj) (made : Box Obj Global) → made.value ≡ m → expand_object scope (with_local (read_binder x) (read_family domain) locals) (read_expr body) (read_family codomain) ≡ Ok (read_object m)
            → ObjectOf e (read_family t) ≡ Ok (read_object (objs.Lam made))
        lambda_stands m made boxed h =
            lambda_behind
            ∙ ap (λ p. p >>= (λ _. expand_object scope (with_local (read_binder x) (read_family domain) locals) (read_expr body) (read_family codomain) >>= (λ object. Ok (Lam object)))) passed
            ∙ ap (λ p. p >>= (λ object. Ok (Lam object))) h
            ∙ ap (λ n. Ok (Lam (read_object n))) (sym boxed)
            ∙ ap Ok (sym (read_object_lam made))

  -- a name or an application
  pub object_name : (e : Expr) (family : Family) (p : Path) → e.node ≡ nodes.Name p → ObjectOf e family ≡ applied_answer scope locals (read_span e.span) (read_expr e) family
  unfolding expand_object
  object_name e family p k = ap (λ x. expand_object scope locals x family) (read_name e p k) ∙ sym (ap (λ x. applied_answer scope locals (read_span e.span) x family) (read_name e p k))

  pub object_app : (e : Expr) (family : Family) (h : Box Expr Global) (es : Exprs) → e.node ≡ nodes.App h es → ObjectOf e family ≡ applied_answer scope locals (read_span e.span) (read_expr e) family
  unfolding expand_object
  object_app e family h es k =
      let is = read_app e h es h.value k refl in
      ap (λ x. expand_object scope locals x family) is
      ∙ sym (bind_same (expand_head Objects scope locals (read_expr h.value)) _ _)
      ∙ sym (ap (λ x. applied_answer scope locals (read_span e.span) x family) is)

  pub applied_begins : (e : Expr) (family : Family) (own : Head) (result : Result Obj ElabFault) → Begins (Ok own) (expand_head Objects scope locals (read_expr e))
      → ((head : heads.Head) → Stands own head → Expands read_object result (object_at (read_span e.span) family head)) → Expands read_object result (applied_answer scope locals (read_span e.span) (read_expr e) family)
  applied_begins e family own result begins answers =
      let head = begun own (expand_head Objects scope locals (read_expr e)) begins in
      same_answer read_object result _ _ (ap (λ m. m >>= object_at (read_span e.span) family) head.1) (answers head.0 head.2)

  -- ---- heads

  module _ (level : Level) where
    abbrev pub HeadOf : Expr → Answer heads.Head
    HeadOf e = expand_head level scope locals (read_expr e)

    pub head_type : (e : Expr) → e.node ≡ nodes.Ty → HeadOf e ≡ broken (read_span e.span) rules.Rule.Level
    unfolding expand_object
    head_type e k = ap (expand_head level scope locals) (read_ty e k)

    pub head_pi : (e : Expr) (x : Binder) (a b : Box Expr Global) → e.node ≡ nodes.Pi x a b → HeadOf e ≡ broken (read_span e.span) rules.Rule.Level
    unfolding expand_object
    head_pi e x a b k = ap (expand_head level scope locals) (read_pi e x a b a.value b.value k refl refl)

    pub head_arrow : (e : Expr) (a b : Box Expr Global) → e.node ≡ nodes.Arrow a b → HeadOf e ≡ broken (read_span e.span) rules.Rule.Level
    unfolding expand_object
    head_arrow e a b k = ap (expand_head level scope locals) (read_arrow e a b a.value b.value k refl refl)

    pub head_back : (e : Expr) (b a : Box Expr Global) → e.node ≡ nodes.Back b a → HeadOf e ≡ broken (read_span e.span) rules.Rule.Level
    unfolding expand_object
    head_back e b a k = ap (expand_head level scope locals) (read_back e b a b.value a.value k refl refl)

    pub head_lambda : (e : Expr) (x : Binder) (w : Option (Box Expr Global)) (b : Box Expr Global) → e.node ≡ nodes.Lam x w b → HeadOf e ≡ broken (read_span e.span) rules.Rule.NotCanonical
    unfolding expand_object
    head_lambda e x None b k = ap (expand_head level scope locals) (read_lam e x b b.value k refl)
    head_lambda e x (Some a) b k = ap (expand_head level scope locals) (read_typed_lam e x a b a.value b.value k refl refl)

    pub head_name : (e : Expr) (p : Path) → e.node ≡ nodes.Name p → HeadOf e ≡ name_head level scope locals (read_span e.span) p
    unfolding expand_object
    head_name e p k = ap (expand_head level scope locals) (read_name e p k)

    module _ (e : Expr) (h : Box Expr Global) (es : Exprs) (function : Expr) (is : e.node ≡ nodes.App h es) (function_is : function ≡ h.value) where
      head_app : HeadOf e ≡ (HeadOf function >>= expand_arguments scope locals (readings.read_arguments (expressions_of es)))
      unfolding expand_object
      head_app = ap (expand_head level scope locals) (read_app e h es function is function_is)

      pub function_fault : (fault : ElabFault) → IsFirstFault fault (HeadOf function) → IsFirstFault fault (HeadOf e)
      function_fault fault first = same_fault fault _ _ head_app (first_stays fault (HeadOf function) _ first)

      pub function_begins : (own : Head) (args : List Expr) (result : Result Head ElabFault) → Begins (Ok own) (HeadOf function) → args ≡ expressions_of es
          → ((head : heads.Head) → Stands own head → Begins result (expand_arguments scope locals (readings.read_arguments args) head)) → Begins result (HeadOf e)
      function_begins own args result begins slice answers =
          let head = begun own (HeadOf function) begins in
          same_begin result _ _ (head_app ∙ ap (λ m. m >>= expand_arguments scope locals (readings.read_arguments (expressions_of es))) head.1 ∙ ap (λ xs. expand_arguments scope locals (readings.read_arguments xs) head.0) (sym slice)) (answers head.0 head.2)

  -- ---- arguments

  -- a fault of the arguments so far stays
  fault_stays : (fault : ElabFault) (head : heads.Head) (done : trees.Exprs) (rest : List trees.Expr) → IsFirstFault fault (expand_arguments scope locals done head) → IsFirstFault fault (expand_arguments scope locals (fold trees.ThenArg done rest) head)
  unfolding expand_object
  fault_stays fault head done [] h = h
  fault_stays fault head done (r ∷ rest) h = fault_stays fault head (trees.ThenArg done r) rest (first_stays fault (expand_arguments scope locals done head) _ h)

  module _ (items : List Expr) (i : ℕ) (item : Expr) (inside : i < length items) (item_is : item ≡ slice_index_or items i item) (begins now : heads.Head)
      (so_far : expand_arguments scope locals (readings.read_arguments (take i items)) begins ≡ Ok now) where
    next_arguments : expand_arguments scope locals (readings.read_arguments (take (i + 1) items)) begins ≡ argument_answer scope locals (read_expr item) now
    unfolding expand_object
    next_arguments =
        ap (λ xs. expand_arguments scope locals (readings.read_arguments xs) begins) (next_taken items i item item_is inside)
        ∙ ap (λ xs. expand_arguments scope locals xs begins) (read_last (take i items) item)
        ∙ ap (λ m. m >>= argument_answer scope locals (read_expr item)) so_far

    pub argument_fault : (fault : ElabFault) → IsFirstFault fault (argument_answer scope locals (read_expr item) now) → IsFirstFault fault (expand_arguments scope locals (readings.read_arguments items) begins)
    argument_fault fault first =
        let front : IsFirstFault fault (expand_arguments scope locals (readings.read_arguments (take (i + 1) items)) begins) = same_fault fault _ _ next_arguments first in
        subst (λ xs. IsFirstFault fault (expand_arguments scope locals xs begins)) (sym parted) (fault_stays fault begins (readings.read_arguments (take (i + 1) items)) (map read_expr (drop (i + 1) items)) front)
      where
        parted : readings.read_arguments items ≡ fold trees.ThenArg (readings.read_arguments (take (i + 1) items)) (map read_expr (drop (i + 1) items))
        parted =
            ap readings.read_arguments (sym (take-append-drop (i + 1) items))
            ∙ ap readings.as_arguments (map-append read_expr (take (i + 1) items) (drop (i + 1) items))
            ∙ fold-append trees.ThenArg trees.NoArgs (map read_expr (take (i + 1) items)) (map read_expr (drop (i + 1) items))

    pub argument_stands : (own : Head) → Begins (Ok own) (argument_answer scope locals (read_expr item) now)
        → (next : heads.Head) × (expand_arguments scope locals (readings.read_arguments (take (i + 1) items)) begins ≡ Ok next) × Stands own next
    argument_stands own begins_so =
        let head = begun own (argument_answer scope locals (read_expr item) now) begins_so in
        (head.0, next_arguments ∙ head.1, head.2)

  -- all arguments are taken
  pub all_taken : (items : List Expr) (i : ℕ) → length items ≤ i → (begins now : heads.Head) (own : Head) → expand_arguments scope locals (readings.read_arguments (take i items)) begins ≡ Ok now → Stands own now
      → Begins (Ok own) (expand_arguments scope locals (readings.read_arguments items) begins)
  all_taken items i past begins now own is stands =
      let whole : Ok now ≡ expand_arguments scope locals (readings.read_arguments items) begins = sym is ∙ ap (λ xs. expand_arguments scope locals (readings.read_arguments xs) begins) (take_all i items past) in
      subst (Begins (Ok own)) whole stands

  -- ---- families

  abbrev pub FamilyOf : Expr → Answer Family
  FamilyOf e = expand_family scope locals (read_expr e)

  pub family_type : (e : Expr) → e.node ≡ nodes.Ty → FamilyOf e ≡ broken (read_span e.span) rules.Rule.Level
  unfolding expand_object
  family_type e k = ap (expand_family scope locals) (read_ty e k)

  pub family_lambda : (e : Expr) (x : Binder) (w : Option (Box Expr Global)) (b : Box Expr Global) → e.node ≡ nodes.Lam x w b → FamilyOf e ≡ broken (read_span e.span) rules.Rule.Level
  unfolding expand_object
  family_lambda e x None b k = ap (expand_family scope locals) (read_lam e x b b.value k refl)
  family_lambda e x (Some a) b k = ap (expand_family scope locals) (read_typed_lam e x a b a.value b.value k refl refl)

  pub family_pi : (e : Expr) (x : Binder) (a b : Box Expr Global) (dom body : Expr) (n : Option Name) → e.node ≡ nodes.Pi x a b → dom ≡ a.value → body ≡ b.value → n ≡ read_binder x
      → FamilyOf e ≡ product_answer scope locals n (read_expr dom) (read_expr body)
  unfolding expand_object
  family_pi e x a b dom body n k p q named = ap (expand_family scope locals) (read_pi e x a b dom body k p q) ∙ ap (λ y. product_answer scope locals y (read_expr dom) (read_expr body)) (sym named)

  pub family_arrow : (e : Expr) (a b : Box Expr Global) (dom body : Expr) → e.node ≡ nodes.Arrow a b → dom ≡ a.value → body ≡ b.value → FamilyOf e ≡ product_answer scope locals None (read_expr dom) (read_expr body)
  unfolding expand_object
  family_arrow e a b dom body k p q = ap (expand_family scope locals) (read_arrow e a b dom body k p q)

  pub family_back : (e : Expr) (b a : Box Expr Global) (dom body : Expr) → e.node ≡ nodes.Back b a → dom ≡ a.value → body ≡ b.value → FamilyOf e ≡ product_answer scope locals None (read_expr dom) (read_expr body)
  unfolding expand_object
  family_back e b a dom body k p q = ap (expand_family scope locals) (read_back e b a body dom k q p)

  pub family_name : (e : Expr) (p : Path) → e.node ≡ nodes.Name p → FamilyOf e ≡ applied_family_answer scope locals (read_span e.span) (read_expr e)
  unfolding expand_object
  family_name e p k = ap (expand_family scope locals) (read_name e p k) ∙ sym (ap (applied_family_answer scope locals (read_span e.span)) (read_name e p k))

  pub family_app : (e : Expr) (h : Box Expr Global) (es : Exprs) → e.node ≡ nodes.App h es → FamilyOf e ≡ applied_family_answer scope locals (read_span e.span) (read_expr e)
  unfolding expand_object
  family_app e h es k =
      let is = read_app e h es h.value k refl in
      ap (expand_family scope locals) is
      ∙ sym (bind_same (expand_head Families scope locals (read_expr h.value)) _ _)
      ∙ sym (ap (applied_family_answer scope locals (read_span e.span)) is)

  pub applied_family_begins : (e : Expr) (own : Head) (result : Result Fam ElabFault) → Begins (Ok own) (expand_head Families scope locals (read_expr e))
      → ((head : heads.Head) → Stands own head → Expands read_family result (family_at_type (read_span e.span) head)) → Expands read_family result (applied_family_answer scope locals (read_span e.span) (read_expr e))
  applied_family_begins e own result begins answers =
      let head = begun own (expand_head Families scope locals (read_expr e)) begins in
      same_answer read_family result _ _ (ap (λ m. m >>= family_at_type (read_span e.span)) head.1) (answers head.0 head.2)
