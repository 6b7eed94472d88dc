-- What expressions stand for as kinds, classes and values, step by step, by the expressions of the code.
use Rattle.std.proofs.Common.{◌≡◌, true, false, Option, Some, None, Result, Ok, Err, refl, sym, ap, ap₂, ◌∙◌}
use Rattle.std.specs.declared.boxed.Box.{Box}
use Rattle.std.specs.declared.alloc.Global.{Global}
use Rattle.name_meaning.specs.Names.{Name, Path}
use Rattle.lf_meaning.specs.Terms.{Family, Kind, PiKind}
use Rattle.lf_meaning.specs.Equality.{same_family}
use Rattle.translation_meaning.specs.Heads as heads
use Rattle.library_meaning.specs.Resolution.{Scope}
use Rattle.text_meaning.specs.Tokens.{Span}
use Rattle.text_meaning.specs.Trees as trees
use Rattle.answer_meaning.specs.Answers.{◌>>=◌}
use Rattle.elaborate_meaning.specs.Rules as rules
use Rattle.elaborate_meaning.specs.Answers.{Answer, broken, must}
use Rattle.elaborate_meaning.specs.Locals.{Locals, with_local}
use Rattle.elaborate_meaning.specs.NameHeads.{Families}
use Rattle.elaborate_meaning.specs.Expansion.{span_of, expand_object, expand_head, expand_family, expand_kind}
use Rattle.elaborate_meaning.specs.Values.{KindProduct, ends_in_type, lambda_at_kind, family_at_kind, expand_family_value}
use Rattle.term_trees.specs.Readings.{read_family, read_kind}
use Rattle.term_trees.proofs.ReadingEquations.{read_kind_ty, read_kind_pi}
use Rattle.term_trees.specs.declared.fam.Fam.{Fam}
use Rattle.term_trees.specs.declared.kind.Kind as code
use Rattle.term_trees.specs.declared.kind.Kind.TheVariants as kinds
use Rattle.mmt_syntax.specs.Readings.{read_span, read_binder, read_expr}
use Rattle.mmt_syntax.specs.declared.expr.Binder.{Binder}
use Rattle.mmt_syntax.specs.declared.expr.Expr.{Expr}
use Rattle.mmt_syntax.specs.declared.expr.Exprs.{Exprs}
use Rattle.mmt_syntax.specs.declared.expr.Node.TheVariants as nodes
use Rattle.elaborate.specs.Steps.{written_of, domain_answer, kind_product_answer, atomic_body_answer}
use Rattle.elaborate.specs.Answers.{IsFirstFault, Expands, Begins}
use Rattle.elaborate.specs.HeadStates.{Stands}
use Rattle.elaborate.specs.declared.heads.Head.{Head}
use Rattle.elaborate.specs.declared.fault.ElabFault.{ElabFault}
use Rattle.mmt_syntax.proofs.Nodes.{read_ty, read_name, read_app, read_pi, read_lam, read_typed_lam, read_arrow, read_back}
use Rattle.elaborate.proofs.ExpansionSteps.{begun, bind_same, first_stays, same_fault, same_answer}

-- ---- the end of an expression

pub ends_ty : (e : Expr) → e.node ≡ nodes.Ty → ends_in_type (read_expr e) ≡ true
unfolding ends_in_type
ends_ty e k = ap ends_in_type (read_ty e k)

pub ends_pi : (e : Expr) (x : Binder) (a b : Box Expr Global) (body : Expr) → e.node ≡ nodes.Pi x a b → body ≡ b.value → ends_in_type (read_expr e) ≡ ends_in_type (read_expr body)
unfolding ends_in_type
ends_pi e x a b body k q = ap ends_in_type (read_pi e x a b a.value body k refl q)

pub ends_arrow : (e : Expr) (a b : Box Expr Global) (body : Expr) → e.node ≡ nodes.Arrow a b → body ≡ b.value → ends_in_type (read_expr e) ≡ ends_in_type (read_expr body)
unfolding ends_in_type
ends_arrow e a b body k q = ap ends_in_type (read_arrow e a b a.value body k refl q)

pub ends_back : (e : Expr) (b a : Box Expr Global) (body : Expr) → e.node ≡ nodes.Back b a → body ≡ b.value → ends_in_type (read_expr e) ≡ ends_in_type (read_expr body)
unfolding ends_in_type
ends_back e b a body k q = ap ends_in_type (read_back e b a body a.value k q refl)

pub ends_name : (e : Expr) (p : Path) → e.node ≡ nodes.Name p → ends_in_type (read_expr e) ≡ false
unfolding ends_in_type
ends_name e p k = ap ends_in_type (read_name e p k)

pub ends_app : (e : Expr) (h : Box Expr Global) (es : Exprs) → e.node ≡ nodes.App h es → ends_in_type (read_expr e) ≡ false
unfolding ends_in_type
ends_app e h es k = ap ends_in_type (read_app e h es h.value k refl)

pub ends_lambda : (e : Expr) (x : Binder) (w : Option (Box Expr Global)) (b : Box Expr Global) → e.node ≡ nodes.Lam x w b → ends_in_type (read_expr e) ≡ false
unfolding ends_in_type
ends_lambda e x None b k = ap ends_in_type (read_lam e x b b.value k refl)
ends_lambda e x (Some a) b k = ap ends_in_type (read_typed_lam e x a b a.value b.value k refl refl)

module _ (scope : Scope) (locals : Locals) where
  -- ---- kinds

  abbrev pub KindOf : Expr → Answer Kind
  KindOf e = expand_kind scope locals (read_expr e)

  pub kind_type : (e : Expr) → e.node ≡ nodes.Ty → KindOf e ≡ Ok (read_kind kinds.Ty)
  unfolding expand_kind
  kind_type e k = ap (expand_kind scope locals) (read_ty e k) ∙ ap Ok (sym read_kind_ty)

  pub kind_pi : (e : Expr) (x : Binder) (a b : Box Expr Global) (dom body : Expr) (n : Option Name) → e.node ≡ nodes.Pi x a b → dom ≡ a.value → body ≡ b.value → n ≡ read_binder x
      → KindOf e ≡ kind_product_answer scope locals n (read_expr dom) (read_expr body)
  unfolding expand_kind
  kind_pi e x a b dom body n k p q named = ap (expand_kind scope locals) (read_pi e x a b dom body k p q) ∙ ap (λ y. kind_product_answer scope locals y (read_expr dom) (read_expr body)) (sym named)

  pub kind_arrow : (e : Expr) (a b : Box Expr Global) (dom body : Expr) → e.node ≡ nodes.Arrow a b → dom ≡ a.value → body ≡ b.value → KindOf e ≡ kind_product_answer scope locals None (read_expr dom) (read_expr body)
  unfolding expand_kind
  kind_arrow e a b dom body k p q = ap (expand_kind scope locals) (read_arrow e a b dom body k p q)

  pub kind_back : (e : Expr) (b a : Box Expr Global) (dom body : Expr) → e.node ≡ nodes.Back b a → dom ≡ a.value → body ≡ b.value → KindOf e ≡ kind_product_answer scope locals None (read_expr dom) (read_expr body)
  unfolding expand_kind
  kind_back e b a dom body k p q = ap (expand_kind scope locals) (read_back e b a body dom k q p)

  pub kind_name : (e : Expr) (p : Path) → e.node ≡ nodes.Name p → KindOf e ≡ broken (read_span e.span) rules.Rule.Level
  unfolding expand_kind
  kind_name e p k = ap (expand_kind scope locals) (read_name e p k)

  pub kind_app : (e : Expr) (h : Box Expr Global) (es : Exprs) → e.node ≡ nodes.App h es → KindOf e ≡ broken (read_span e.span) rules.Rule.Level
  unfolding expand_kind
  kind_app e h es k = ap (expand_kind scope locals) (read_app e h es h.value k refl)

  pub kind_lambda : (e : Expr) (x : Binder) (w : Option (Box Expr Global)) (b : Box Expr Global) → e.node ≡ nodes.Lam x w b → KindOf e ≡ broken (read_span e.span) rules.Rule.Level
  unfolding expand_kind
  kind_lambda e x None b k = ap (expand_kind scope locals) (read_lam e x b b.value k refl)
  kind_lambda e x (Some a) b k = ap (expand_kind scope locals) (read_typed_lam e x a b a.value b.value k refl refl)

  -- ---- bodies of family values

  abbrev pub BodyOf : Expr → Kind → Answer Family
  BodyOf e kind = expand_family_value scope locals (read_expr e) kind

  pub body_type : (e : Expr) (kind : Kind) → e.node ≡ nodes.Ty → BodyOf e kind ≡ broken (read_span e.span) rules.Rule.Level
  unfolding expand_family_value
  body_type e kind k = ap (λ x. expand_family_value scope locals x kind) (read_ty e k)

  pub body_pi : (e : Expr) (kind : Kind) (x : Binder) (a b : Box Expr Global) → e.node ≡ nodes.Pi x a b → BodyOf e kind ≡ broken (read_span e.span) rules.Rule.FamilyNotAtomic
  unfolding expand_family_value
  body_pi e kind x a b k = ap (λ x. expand_family_value scope locals x kind) (read_pi e x a b a.value b.value k refl refl)

  pub body_arrow : (e : Expr) (kind : Kind) (a b : Box Expr Global) → e.node ≡ nodes.Arrow a b → BodyOf e kind ≡ broken (read_span e.span) rules.Rule.FamilyNotAtomic
  unfolding expand_family_value
  body_arrow e kind a b k = ap (λ x. expand_family_value scope locals x kind) (read_arrow e a b a.value b.value k refl refl)

  pub body_back : (e : Expr) (kind : Kind) (b a : Box Expr Global) → e.node ≡ nodes.Back b a → BodyOf e kind ≡ broken (read_span e.span) rules.Rule.FamilyNotAtomic
  unfolding expand_family_value
  body_back e kind b a k = ap (λ x. expand_family_value scope locals x kind) (read_back e b a b.value a.value k refl refl)

  pub body_name : (e : Expr) (kind : Kind) (p : Path) → e.node ≡ nodes.Name p → BodyOf e kind ≡ atomic_body_answer scope locals (read_span e.span) (read_expr e) kind
  unfolding expand_family_value expand_object
  body_name e kind p k = ap (λ x. expand_family_value scope locals x kind) (read_name e p k) ∙ sym (ap (λ x. atomic_body_answer scope locals (read_span e.span) x kind) (read_name e p k))

  pub body_app : (e : Expr) (kind : Kind) (h : Box Expr Global) (es : Exprs) → e.node ≡ nodes.App h es → BodyOf e kind ≡ atomic_body_answer scope locals (read_span e.span) (read_expr e) kind
  unfolding expand_family_value expand_object
  body_app e kind h es k =
      let is = read_app e h es h.value k refl in
      ap (λ x. expand_family_value scope locals x kind) is
      ∙ sym (bind_same (expand_head Families scope locals (read_expr h.value)) _ _)
      ∙ sym (ap (λ x. atomic_body_answer scope locals (read_span e.span) x kind) is)

  pub body_begins : (e : Expr) (kind : Kind) (own : Head) (result : Result Fam ElabFault) → Begins (Ok own) (expand_head Families scope locals (read_expr e))
      → ((head : heads.Head) → Stands own head → Expands read_family result (family_at_kind (read_span e.span) kind head)) → Expands read_family result (atomic_body_answer scope locals (read_span e.span) (read_expr e) kind)
  body_begins e kind own result begins answers =
      let head = begun own (expand_head Families scope locals (read_expr e)) begins in
      same_answer read_family result _ _ (ap (λ m. m >>= family_at_kind (read_span e.span) kind) head.1) (answers head.0 head.2)

  -- a λ, with a written domain or none
  lambda_body_answer : Span → Option Name → Option trees.Expr → trees.Expr → Kind → Answer Family
  lambda_body_answer span x written body kind =
      lambda_at_kind span kind >>= (λ product. domain_answer scope locals written product.domain >>= (λ _. expand_family_value scope (with_local x product.domain locals) body product.rest))

  body_lambda : (e : Expr) (kind : Kind) (x : Binder) (w : Option (Box Expr Global)) (b : Box Expr Global) (body : Expr) → e.node ≡ nodes.Lam x w b → body ≡ b.value
      → BodyOf e kind ≡ lambda_body_answer (read_span e.span) (read_binder x) (written_of w) (read_expr body) kind
  unfolding expand_family_value lambda_body_answer
  body_lambda e kind x None b body k q = ap (λ x. expand_family_value scope locals x kind) (read_lam e x b body k q)
  body_lambda e kind x (Some a) b body k q =
      ap (λ x. expand_family_value scope locals x kind) (read_typed_lam e x a b a.value body k refl q) ∙ by (lambda_at_kind (read_span e.span) kind)
    where
      by : (m : Answer KindProduct) → (m >>= (λ product. expand_family scope locals (read_expr a.value) >>= (λ written. must (same_family written product.domain) (span_of (read_expr a.value)) rules.Rule.Annotation >>= (λ _. expand_family_value scope (with_local (read_binder x) product.domain locals) (read_expr body) product.rest))))
          ≡ (m >>= (λ product. domain_answer scope locals (Some (read_expr a.value)) product.domain >>= (λ _. expand_family_value scope (with_local (read_binder x) product.domain locals) (read_expr body) product.rest)))
      by (Ok product) = sym (bind_same (expand_family scope locals (read_expr a.value)) _ _)
      by (Err fault) = refl

  module _ (e : Expr) (x : Binder) (w : Option (Box Expr Global)) (b : Box Expr Global) (is : e.node ≡ nodes.Lam x w b) where
    pub body_mismatch : (t : code.Kind) → t ≡ kinds.Ty → BodyOf e (read_kind t) ≡ broken (read_span e.span) rules.Rule.Mismatch
    unfolding lambda_body_answer
    body_mismatch t k = body_lambda e (read_kind t) x w b b.value is refl ∙ ap (lambda_body_answer (read_span e.span) (read_binder x) (written_of w) (read_expr b.value)) (ap read_kind k ∙ read_kind_ty)

    module _ (t : code.Kind) (d : Box Fam Global) (c : Box code.Kind Global) (domain : Fam) (rest : code.Kind) (body : Expr) (at : t ≡ kinds.Pi d c) (domain_is : domain ≡ d.value) (rest_is : rest ≡ c.value) (body_is : body ≡ b.value) where
      body_behind : BodyOf e (read_kind t) ≡ (domain_answer scope locals (written_of w) (read_family domain) >>= (λ _. expand_family_value scope (with_local (read_binder x) (read_family domain) locals) (read_expr body) (read_kind rest)))
      unfolding lambda_body_answer
      body_behind =
          body_lambda e (read_kind t) x w b body is body_is
          ∙ ap (lambda_body_answer (read_span e.span) (read_binder x) (written_of w) (read_expr body)) (ap read_kind at ∙ read_kind_pi d c ∙ ap (λ a. PiKind (read_family a) (read_kind c.value)) (sym domain_is) ∙ ap (λ a. PiKind (read_family domain) (read_kind a)) (sym rest_is))

      pub body_domain_fault : (fault : ElabFault) → IsFirstFault fault (domain_answer scope locals (written_of w) (read_family domain)) → IsFirstFault fault (BodyOf e (read_kind t))
      body_domain_fault fault h = same_fault fault _ _ body_behind (first_stays fault (domain_answer scope locals (written_of w) (read_family domain)) _ h)

      pub body_stands : (result : Result Fam ElabFault) → domain_answer scope locals (written_of w) (read_family domain) ≡ Ok tt
          → Expands read_family result (expand_family_value scope (with_local (read_binder x) (read_family domain) locals) (read_expr body) (read_kind rest)) → Expands read_family result (BodyOf e (read_kind t))
      body_stands result passed h = same_answer read_family result _ _ (body_behind ∙ ap (λ p. p >>= (λ _. expand_family_value scope (with_local (read_binder x) (read_family domain) locals) (read_expr body) (read_kind rest))) passed) h

pub body_moved : (scope other : Scope) (locals others : Locals) (e : trees.Expr) (kind : Kind) → other ≡ scope → others ≡ locals → expand_family_value other others e kind ≡ expand_family_value scope locals e kind
body_moved scope other locals others e kind s l = ap₂ (λ x y. expand_family_value x y e kind) s l
