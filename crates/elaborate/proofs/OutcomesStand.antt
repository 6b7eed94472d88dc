-- What outcomes stand for where more is wanted than an atomic term, by the terms of the code.
use Rattle.std.proofs.Common.{◌≡◌, ℕ, zero, suc, true, false, Ok, refl, sym, ap, ap₂, ◌∙◌, subst}
use Rattle.std.specs.declared.alloc.Global.{Global}
use Rattle.std.specs.declared.boxed.Box.{Box}
use Rattle.lf_meaning.specs.Terms.{Object, Lam, Family, Pi, AtFamily, FamilyCon, Kind, Ty, PiKind, apply_all, family_apply_all}
use Rattle.lf_meaning.specs.Equality.{same_family, same_kind}
use Rattle.lf_meaning.specs.Erasure.{erase}
use Rattle.eta_meaning.specs.LongTerms.{eta, eta_family, expanded}
use Rattle.translation_meaning.specs.Heads as heads
use Rattle.answer_meaning.specs.Answers.{◌>>=◌}
use Rattle.text_meaning.specs.Tokens.{Span}
use Rattle.elaborate_meaning.specs.Answers.{broken, must}
use Rattle.elaborate_meaning.specs.Rules.{Rule}
use Rattle.elaborate_meaning.specs.Expansion as expansion
use Rattle.elaborate_meaning.specs.Values as values
use Rattle.elaborate_meaning.specs.Values.{expanded_family}
use Rattle.base_types.specs.declared.qname.QName.{QName}
use Rattle.term_trees.specs.Readings.{read_arguments, read_constant, read_family, read_head, read_kind, read_object}
use Rattle.term_trees.proofs.ReadingEquations.{read_object_lam, read_object_at, read_family_pi, read_family_at}
use Rattle.term_trees.specs.declared.fam.Fam.{Fam}
use Rattle.term_trees.specs.declared.fam.Fam.TheVariants as fams
use Rattle.term_trees.specs.declared.kind.Kind as code_kind
use Rattle.term_trees.specs.declared.obj.Head as code_head
use Rattle.term_trees.specs.declared.obj.Obj.{Obj}
use Rattle.term_trees.specs.declared.obj.Obj.TheVariants as objs
use Rattle.term_trees.specs.declared.obj.Spine.{Spine}
use Rattle.elaborate.specs.LentValues.{value_of}
use Rattle.elaborate.specs.HeadStates.{Classifies, Stands, has_binder}
use Rattle.elaborate.specs.declared.heads.Classifier.TheVariants as classifiers
use Rattle.elaborate.specs.declared.heads.Head.{Head}
use Rattle.elaborate.specs.declared.lent.Lent.{Lent}
use Rattle.elaborate.proofs.HeadsStand.{object_of_family, family_of_kind}

-- ---- long forms

-- At an atomic family an outcome is left.
pub atomic_left : (t : Fam) (q : QName) (s : Spine) (o : Object) → t ≡ fams.At q s → o ≡ expanded (read_family t) o
atomic_left t q s o at = sym (ap (λ a. expanded a o) (ap read_family at ∙ read_family_at q s))

module _ (t : Fam) (d c : Box Fam Global) (pi : t ≡ fams.Pi d c) where
  target : read_family t ≡ Pi (read_family d.value) (read_family c.value)
  target = ap read_family pi ∙ read_family_pi d c

  -- At a Π a λ is left, and an atomic outcome gets its long form.
  pub lambda_left : (o : Obj) (body : Box Obj Global) → o ≡ objs.Lam body → read_object o ≡ expanded (read_family t) (read_object o)
  lambda_left o body is =
      let lambda : read_object o ≡ Lam (read_object body.value) = ap read_object is ∙ read_object_lam body in
      lambda ∙ sym (ap₂ expanded target lambda)

  pub atom_expanded : (o : Obj) (h : code_head.Head) (s : Spine) (m : Obj) → o ≡ objs.At h s → read_object m ≡ eta (erase (read_family t)) (apply_all (read_head h) (read_arguments s)) → read_object m ≡ expanded (read_family t) (read_object o)
  atom_expanded o h s m is long =
      long
      ∙ ap (λ a. eta (erase a) (apply_all (read_head h) (read_arguments s))) target
      ∙ sym (ap₂ expanded target (ap read_object is ∙ read_object_at h s))

-- At a kind a Π is left, and an atomic family takes the variables.
pub product_left : (k : Kind) (o : Fam) (d c : Box Fam Global) → o ≡ fams.Pi d c → read_family o ≡ expanded_family k zero (read_family o)
product_left k o d c is =
    let product : read_family o ≡ Pi (read_family d.value) (read_family c.value) = ap read_family is ∙ read_family_pi d c in
    product ∙ sym (ap (expanded_family k zero) product)

pub family_expanded : (k : Kind) (o : Fam) (q : QName) (s : Spine) (b : Fam) → o ≡ fams.At q s → read_family b ≡ AtFamily (eta_family k (family_apply_all (FamilyCon (read_constant q)) (read_arguments s))) → read_family b ≡ expanded_family k zero (read_family o)
family_expanded k o q s b is long = long ∙ sym (ap (expanded_family k zero) (ap read_family is ∙ read_family_at q s))

-- Where binders are left, what stands under them is the body; where none are, they count for nothing.
pub under_binders : (k : Kind) (n : ℕ) (a : Family) → has_binder n ≡ true → a ≡ expanded_family k n a
under_binders k zero a h = absurd (cc)
under_binders k (suc n) a h = refl

pub without_binders : (k : Kind) (n : ℕ) (a : Family) → has_binder n ≡ false → expanded_family k zero a ≡ expanded_family k n a
without_binders k zero a h = refl
without_binders k (suc n) a h = absurd (cc)

-- ---- heads at a family or a kind

-- The object of a head that stands at its family.
pub object_stands : (span : Span) (own : Head) (family : Lent Fam) (t : Fam) (m long : Obj) (f : heads.Head) → own.classifier ≡ classifiers.Family family
    → same_family (read_family (value_of family)) (read_family t) ≡ true → Stands own f → ((o : Object) (a : Family) → Stands own (heads.ObjectHead o a) → read_object m ≡ o)
    → read_object long ≡ expanded (read_family t) (read_object m)
    → expansion.object_at span (read_family t) f ≡ Ok (read_object long)
object_stands span own family t m long f is same stands object expands =
    let classified : Classifies (classifiers.Family family) f = subst (λ x. Classifies x f) is stands.classifies in
    let found = object_of_family family f classified in
    ap (expansion.object_at span (read_family t)) found.1
    ∙ ap (λ b. must b span Rule.Mismatch >>= (λ _. Ok (expanded (read_family t) found.0))) same
    ∙ ap (λ o. Ok (expanded (read_family t) o)) (sym (object found.0 (read_family (value_of family)) (subst (Stands own) found.1 stands)))
    ∙ ap Ok (sym expands)

-- A kind that is the same as one with domains has domains.
same_domains : (k : Kind) (d : Family) (r : Kind) → same_kind k (PiKind d r) ≡ true → (x : Family) × (y : Kind) × (k ≡ PiKind x y)
same_domains Ty d r h = absurd (cc)
same_domains (PiKind x y) d r h = (x, y, refl)

module _ (span : Span) (own : Head) (t : code_kind.Kind) (d : Family) (r : Kind) (domains : read_kind t ≡ PiKind d r) (f : heads.Head) (stands : Stands own f) where
  -- The family of a head that stands at its kind, which has domains.
  pub body_stands_at : (kind : Lent code_kind.Kind) (b : Fam) → own.classifier ≡ classifiers.Kind kind → same_kind (read_kind (value_of kind)) (read_kind t) ≡ true
      → ((n : ℕ) (a x : Family) (y : Kind) → Stands own (heads.FamilyHead n a (PiKind x y)) → read_family b ≡ expanded_family (read_kind t) n a)
      → values.family_at_kind span (read_kind t) f ≡ Ok (read_family b)
  body_stands_at kind b is same body =
      let k = read_kind (value_of kind) in
      let classified : Classifies (classifiers.Kind kind) f = subst (λ x. Classifies x f) is stands.classifies in
      let found = family_of_kind kind f classified in
      let tested : same_kind k (PiKind d r) ≡ true = ap (same_kind k) (sym domains) ∙ same in
      let left = same_domains k d r tested in
      let headed : f ≡ heads.FamilyHead found.0 found.1 (PiKind left.0 left.1) = found.2 ∙ ap (heads.FamilyHead found.0 found.1) left.2 in
      ap₂ (values.family_at_kind span) domains found.2
      ∙ ap (λ b. must b span Rule.Mismatch >>= (λ _. Ok (expanded_family (PiKind d r) found.0 found.1))) tested
      ∙ ap (λ j. Ok (expanded_family j found.0 found.1)) (sym domains)
      ∙ ap Ok (sym (body found.0 found.1 left.0 left.1 (subst (Stands own) headed stands)))

  -- One with another kind does not, and no object does.
  pub kind_differs : (kind : Lent code_kind.Kind) → own.classifier ≡ classifiers.Kind kind → same_kind (read_kind (value_of kind)) (read_kind t) ≡ false → values.family_at_kind span (read_kind t) f ≡ broken span Rule.Mismatch
  kind_differs kind is other =
      let k = read_kind (value_of kind) in
      let classified : Classifies (classifiers.Kind kind) f = subst (λ x. Classifies x f) is stands.classifies in
      let found = family_of_kind kind f classified in
      ap₂ (values.family_at_kind span) domains found.2
      ∙ ap (λ b. must b span Rule.Mismatch >>= (λ _. Ok (expanded_family (PiKind d r) found.0 found.1))) (ap (same_kind k) (sym domains) ∙ other)

  pub object_is_none : (family : Lent Fam) → own.classifier ≡ classifiers.Family family → values.family_at_kind span (read_kind t) f ≡ broken span Rule.Level
  object_is_none family is =
      let classified : Classifies (classifiers.Family family) f = subst (λ x. Classifies x f) is stands.classifies in
      let found = object_of_family family f classified in
      ap₂ (values.family_at_kind span) domains found.1
