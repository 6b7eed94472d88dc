-- What the heads of the code stand for, step by step.
use Rattle.std.proofs.Common.{◌≡◌, ℕ, zero, suc, ◌-◌, nat_lt, Bor, Option, List, [], ◌∷◌, ◌++◌, length, Some, None, Ok, Err, sym, ap, ◌∙◌, subst, arith}
use Rattle.std.specs.Option.{option_map}
use Rattle.std.specs.declared.alloc.Global.{Global}
use Rattle.std.specs.declared.vec.Vec.{Vec}
use Rattle.std.proofs.lemmas.Bool.Decides.{nat_tests}
use Rattle.std.proofs.lemmas.List.{map-append, length-map}
use Rattle.lf_meaning.specs.Terms.{Object, At, Var, Con, Family, Pi, AtFamily, AtomicFamily, FamilyCon, Kind, PiKind, apply_all, family_apply_all}
use Rattle.lf_meaning.specs.Erasure.{erase}
use Rattle.lf_meaning.specs.Substitution.{app, substitute_family}
use Rattle.lf_meaning.specs.Replacement.{object_of, takes_all}
use Rattle.translation_meaning.specs.Translation.{object_image, family_image, family_of}
use Rattle.translation_meaning.specs.Heads as heads
use Rattle.translation_meaning.specs.Heads.{head_takes, head_takes_all}
use Rattle.elaborate_meaning.specs.NameHeads.{class_head, declared_head}
use Rattle.elaborate_meaning.specs.Expansion as expansion
use Rattle.text_meaning.specs.Tokens.{Span}
use Rattle.term_trees.specs.Readings.{arguments_of, read_arguments, read_class, read_constant, read_declaration, read_family, read_kind, read_object, read_objects, read_value}
use Rattle.term_trees.specs.declared.fam.Fam.{Fam}
use Rattle.term_trees.specs.declared.flat_decl.FlatDecl.{FlatDecl}
use Rattle.term_trees.specs.declared.class.Value as code
use Rattle.term_trees.specs.declared.kind.Kind as code_kind
use Rattle.term_trees.specs.declared.kind.Kind.TheVariants as kinds
use Rattle.elaborate_meaning.specs.Answers.{Answer}
use Rattle.term_trees.specs.declared.obj.Obj.{Obj}
use Rattle.term_trees.specs.declared.obj.Obj.TheVariants as objs
use Rattle.term_trees.specs.declared.obj.Head.TheVariants as head
use Rattle.term_trees.specs.declared.fam.Fam.TheVariants as fams
use Rattle.base_types.specs.declared.qname.QName.{QName}
use Rattle.term_trees.proofs.ReadingEquations.{read_object_at, read_family_at, read_kind_ty}
use Rattle.term_trees.specs.declared.obj.Spine.{Spine}
use Rattle.elaborate.specs.LentValues.{value_of}
use Rattle.elaborate.specs.HeadStates.{BeginsWith, Classifies, Stands, StandsForFamily, StandsForHead, has_binder, value_binders}
use Rattle.elaborate.specs.Answers.{Begins}
use Rattle.elaborate.specs.declared.heads.Classifier.{Classifier}
use Rattle.elaborate.specs.declared.heads.Classifier.TheVariants as classifiers
use Rattle.elaborate.specs.declared.heads.Start.TheVariants as starts
use Rattle.elaborate.specs.declared.heads.Head.{Head}
use Rattle.elaborate.specs.declared.lent.Lent.{Lent}
use Rattle.elaborate.proofs.TakenArguments.{takes_one_more, atomic_is, constant_kept, family_kept, value_taken, family_value_taken, value_binders_left}

pub one_more : (own : Head) (items : Vec Obj Global) (classifier : Classifier) (m : Obj) (head : heads.Head) → Stands own head
    → items.items ≡ own.arguments.items ++ m ∷ []
    → Classifies classifier (head_takes head (read_object m))
    → Stands (record { start = own.start; arguments = items; classifier = classifier }) (head_takes head (read_object m))
one_more own items classifier m head stands added classifies = record {
  first = stands.first;
  begins = stands.begins;
  takes = ap (λ os. head_takes_all stands.first (read_objects os)) added
      ∙ ap (head_takes_all stands.first) (map-append read_object own.arguments.items (m ∷ []))
      ∙ takes_one_more stands.first (read_objects own.arguments.items) (read_object m)
      ∙ ap (λ h. head_takes h (read_object m)) stands.takes;
  classifies = classifies;
}

-- A head that begins at a variable.
pub variable_first : (own : Head) (i : ℕ) (o : Object) (a : Family) → own.start ≡ starts.Variable i → Stands own (heads.ObjectHead o a) → At (apply_all (Var i) (read_objects own.arguments.items)) ≡ o
variable_first own i o a is stands =
    let begins : BeginsWith (starts.Variable i) stands.first = subst (λ s. BeginsWith s stands.first) is stands.begins in
    atomic_is (Var i) begins.0 (read_objects own.arguments.items) o a (ap (λ h. head_takes_all h (read_objects own.arguments.items)) (sym begins.1) ∙ stands.takes)

-- What begins as an object is none of families, whatever arguments it takes.
object_stays : (o : Object) (a : Family) (ms : List Object) (n : ℕ) (b : Family) (k : Kind) → head_takes_all (heads.ObjectHead o a) ms ≡ heads.FamilyHead n b k → ⊥
unfolding head_takes_all
object_stays o a [] n b k h = cc
object_stays o (Pi domain body) (m ∷ ms) n b k h = object_stays (app (erase (Pi domain body)) o m).value (substitute_family m (erase domain) 0 body) ms n b k h
object_stays o (AtFamily p) (m ∷ ms) n b k h = object_stays (app (erase (AtFamily p)) o m).value (AtFamily p) ms n b k h

-- So no head of families begins at a variable.
pub no_variable : (own : Head) (i : ℕ) → own.start ≡ starts.Variable i → StandsForFamily own → ⊥
no_variable own i is for_family =
    let stands = for_family.3 in
    let begins : BeginsWith (starts.Variable i) stands.first = subst (λ s. BeginsWith s stands.first) is stands.begins in
    object_stays (At (Var i)) begins.0 (read_objects own.arguments.items) for_family.0 for_family.1 for_family.2 (ap (λ h. head_takes_all h (read_objects own.arguments.items)) (sym begins.1) ∙ stands.takes)

-- Arguments that are put on a spine are taken as they were.
pub put_on_spine : (spine : Spine) (items : List Obj) (first head : heads.Head) → arguments_of spine ≡ items → head_takes_all first (read_objects items) ≡ head → head_takes_all first (read_arguments spine) ≡ head
put_on_spine spine items first head put takes = ap (λ os. head_takes_all first (read_objects os)) put ∙ takes

-- A declared constant with its arguments: its value takes them, or it keeps them.
module _ (d : FlatDecl) (spine : Spine) (value : Option code.Value) (is : d.value ≡ value) where
  begins : {head : heads.Head} → head_takes_all (declared_head (read_declaration d)) (read_arguments spine) ≡ head
      → head_takes_all (class_head (read_constant d.name) (read_class d.class) (option_map read_value value)) (read_arguments spine) ≡ head
  begins h = ap (λ v. head_takes_all (class_head (read_constant d.name) (read_class d.class) (option_map read_value v)) (read_arguments spine)) (sym is) ∙ h

pub object_valued : (d : FlatDecl) (spine : Spine) (v : code.Value) (m : Obj) (o : Object) (a : Family) → d.value ≡ Some v
    → read_object m ≡ object_of (takes_all (object_image (read_constant d.name) (read_class d.class) (read_value v)) (read_arguments spine))
    → head_takes_all (declared_head (read_declaration d)) (read_arguments spine) ≡ heads.ObjectHead o a → read_object m ≡ o
object_valued d spine v m o a is placed h =
    placed ∙ value_taken (read_constant d.name) (read_class d.class) (read_value v) (read_arguments spine) o a (begins d spine (Some v) is h)

pub object_unvalued : (d : FlatDecl) (spine : Spine) (q : QName) (o : Object) (a : Family) → d.value ≡ None → q ≡ d.name
    → head_takes_all (declared_head (read_declaration d)) (read_arguments spine) ≡ heads.ObjectHead o a → read_object (objs.At (head.Con q) spine) ≡ o
object_unvalued d spine q o a is copied h =
    read_object_at (head.Con q) spine
    ∙ ap (λ x. At (apply_all (Con (read_constant x)) (read_arguments spine))) copied
    ∙ constant_kept (read_constant d.name) (read_class d.class) (read_arguments spine) o a (begins d spine None is h)

pub family_valued : (d : FlatDecl) (spine : Spine) (v : code.Value) (b : Fam) (n : ℕ) (f : Family) (k : Kind) → d.value ≡ Some v
    → ((p : AtomicFamily) → read_family b ≡ family_of (head_takes_all (family_image (read_constant d.name) (read_class d.class) (read_value v)) (read_arguments spine)) p)
    → head_takes_all (declared_head (read_declaration d)) (read_arguments spine) ≡ heads.FamilyHead n f k → read_family b ≡ f
family_valued d spine v b n f k is placed h =
    let p = FamilyCon (read_constant d.name) in
    placed p ∙ family_value_taken (read_constant d.name) (read_class d.class) (read_value v) (read_arguments spine) n f k p (begins d spine (Some v) is h)

pub family_unvalued : (d : FlatDecl) (spine : Spine) (q : QName) (n : ℕ) (f : Family) (k : Kind) → d.value ≡ None → q ≡ d.name
    → head_takes_all (declared_head (read_declaration d)) (read_arguments spine) ≡ heads.FamilyHead n f k → read_family (fams.At q spine) ≡ f
family_unvalued d spine q n f k is copied h =
    read_family_at q spine
    ∙ ap (λ x. AtFamily (family_apply_all (FamilyCon (read_constant x)) (read_arguments spine))) copied
    ∙ family_kept (read_constant d.name) (read_class d.class) (read_arguments spine) n f k (begins d spine None is h)

-- The classifier of an object is a family, that of a family a kind.
pub object_of_family : (family : Lent Fam) (f : heads.Head) → Classifies (classifiers.Family family) f → (o : Object) × (f ≡ heads.ObjectHead o (read_family (value_of family)))
object_of_family family (heads.ObjectHead o a) h = (o, ap (λ x. heads.ObjectHead o x) (sym h))
object_of_family family (heads.FamilyHead n b k) h = absurd h

pub family_of_kind : (kind : Lent code_kind.Kind) (f : heads.Head) → Classifies (classifiers.Kind kind) f → (n : ℕ) × (b : Family) × (f ≡ heads.FamilyHead n b (read_kind (value_of kind)))
family_of_kind kind (heads.ObjectHead o a) h = absurd h
family_of_kind kind (heads.FamilyHead n b k) h = (n, b, ap (λ x. heads.FamilyHead n b x) (sym h))

-- A head with a kind is one of families.
pub family_head : (own : Head) (kind : Lent code_kind.Kind) → own.classifier ≡ classifiers.Kind kind → StandsForHead own → StandsForFamily own
family_head own kind is for_head =
    let found = family_of_kind kind for_head.0 (subst (λ x. Classifies x for_head.0) is for_head.1.classifies) in
    (found.0, found.1, read_kind (value_of kind), subst (Stands own) found.2 for_head.1)

-- What a call begins with stands for a head.
pub begun : (own : Head) (answer : Answer heads.Head) → Begins (Ok own) answer → StandsForHead own
begun own (Ok head) h = (head, h)
begun own (Err fault) h = absurd h

-- The family of a head at `type`.
pub family_stands : (span : Span) (own : Head) (kind : Lent code_kind.Kind) (b : Fam) (f : heads.Head) → own.classifier ≡ classifiers.Kind kind → value_of kind ≡ kinds.Ty → Stands own f
    → ((n : ℕ) (a : Family) (k : Kind) → Stands own (heads.FamilyHead n a k) → read_family b ≡ a) → expansion.family_at_type span f ≡ Ok (read_family b)
family_stands span own kind b f is type stands family =
    let classified : Classifies (classifiers.Kind kind) f = subst (λ x. Classifies x f) is stands.classifies in
    let found = family_of_kind kind f classified in
    let k = read_kind (value_of kind) in
    ap (expansion.family_at_type span) found.2
    ∙ ap (λ j. expansion.family_at_type span (heads.FamilyHead found.0 found.1 j)) (ap read_kind type ∙ read_kind_ty)
    ∙ ap Ok (sym (family found.0 found.1 k (subst (Stands own) found.2 stands)))

-- Whether a binder is left, by the number of arguments.
counted : (m n l : ℕ) → m ≡ n - l → nat_lt l n ≡ has_binder m
counted zero n l e = grind (arith, nat_tests, e)
counted (suc m) n l e = grind (arith, nat_tests, e)

pub binders_counted : (own : Head) (decl : Bor FlatDecl) (n : ℕ) (f a : Family) (r : Kind) → own.start ≡ starts.Constant decl → Stands own (heads.FamilyHead n f (PiKind a r)) → nat_lt (length own.arguments.items) (value_binders (read_declaration decl.now).value) ≡ has_binder n
binders_counted own decl n f a r is stands =
    let d = read_declaration decl.now in
    let items = own.arguments.items in
    let begins : BeginsWith (starts.Constant decl) stands.first = subst (λ s. BeginsWith s stands.first) is stands.begins in
    let left : n ≡ value_binders d.value - length (read_objects items) = value_binders_left d.name d.class d.value (read_objects items) n f a r (ap (λ h. head_takes_all h (read_objects items)) (sym begins) ∙ stands.takes) in
    counted n (value_binders d.value) (length items) (left ∙ ap (λ l. value_binders d.value - l) (length-map items read_object))
