-- Whether a variable stands in a term, by the terms of the code.
use Rattle.std.specs.Prelude.{◌||◌}
use Rattle.std.specs.declared.boxed.Box.{Box}
use Rattle.std.specs.declared.alloc.Global.{Global}
use Rattle.std.proofs.Common.{◌≡◌, ℕ, suc, ◌+◌, false, List, [], ◌∷◌, drop, sym, ap, ◌∙◌}
use Rattle.std.proofs.Math.Bool.{or-false, or_assoc}
use Rattle.lf_meaning.specs.Terms.{Object, Atomic, App, AtomicFamily, FamilyCon, FamilyApp, apply_all, family_apply_all}
use Rattle.printing_meaning.specs.PrintedTerms.{object_uses, atomic_uses, family_uses, atomic_family_uses, kind_uses}
use Rattle.base_types.specs.declared.qname.QName.{QName}
use Rattle.term_trees.specs.declared.fam.Fam.{Fam}
use Rattle.term_trees.specs.declared.fam.Fam.TheVariants as fams
use Rattle.term_trees.specs.declared.kind.Kind.{Kind}
use Rattle.term_trees.specs.declared.kind.Kind.TheVariants as kinds
use Rattle.term_trees.specs.declared.obj.Head.{Head}
use Rattle.term_trees.specs.declared.obj.Obj.{Obj}
use Rattle.term_trees.specs.declared.obj.Obj.TheVariants as objs
use Rattle.term_trees.specs.declared.obj.Spine.{Spine}
use Rattle.term_trees.specs.Readings.{read_constant, read_head, read_object, read_objects, read_arguments, read_family, read_kind}
use Rattle.term_trees.proofs.ReadingEquations.{read_object_lam, read_object_at, read_family_pi, read_family_at, read_kind_ty, read_kind_pi}
use Rattle.term_text.specs.Arguments.{arguments_use}

module _ (variable : ℕ) where
  applied : (r : Atomic) (ms : List Object) → atomic_uses variable (apply_all r ms) ≡ (atomic_uses variable r || arguments_use variable ms)
  unfolding object_uses
  applied r [] = sym (or-false (atomic_uses variable r))
  applied r (m ∷ ms) = applied (App r m) ms ∙ or_assoc (atomic_uses variable r) (object_uses variable m) (arguments_use variable ms)

  pub lambda_uses : (t : Obj) (m : Box Obj Global) → t ≡ objs.Lam m → object_uses variable (read_object t) ≡ object_uses (suc variable) (read_object m.value)
  unfolding object_uses
  lambda_uses t m is = ap (object_uses variable) (ap read_object is ∙ read_object_lam m)

  pub spine_uses : (t : Obj) (h : Head) (s : Spine) → t ≡ objs.At h s → object_uses variable (read_object t) ≡ (atomic_uses variable (read_head h) || arguments_use variable (read_arguments s))
  unfolding object_uses
  spine_uses t h s is = ap (object_uses variable) (ap read_object is ∙ read_object_at h s) ∙ applied (read_head h) (read_arguments s)

  family_applied : (p : AtomicFamily) (ms : List Object) → atomic_family_uses variable (family_apply_all p ms) ≡ (atomic_family_uses variable p || arguments_use variable ms)
  unfolding family_uses
  family_applied p [] = sym (or-false (atomic_family_uses variable p))
  family_applied p (m ∷ ms) = family_applied (FamilyApp p m) ms ∙ or_assoc (atomic_family_uses variable p) (object_uses variable m) (arguments_use variable ms)

  pub pi_uses : (t : Fam) (a b : Box Fam Global) → t ≡ fams.Pi a b → family_uses variable (read_family t) ≡ (family_uses variable (read_family a.value) || family_uses (suc variable) (read_family b.value))
  unfolding family_uses
  pi_uses t a b is = ap (family_uses variable) (ap read_family is ∙ read_family_pi a b)

  pub atom_uses : (t : Fam) (q : QName) (s : Spine) → t ≡ fams.At q s → family_uses variable (read_family t) ≡ arguments_use variable (read_arguments s)
  unfolding family_uses
  atom_uses t q s is = ap (family_uses variable) (ap read_family is ∙ read_family_at q s) ∙ family_applied (FamilyCon (read_constant q)) (read_arguments s)

  pub type_uses : (t : Kind) → t ≡ kinds.Ty → kind_uses variable (read_kind t) ≡ false
  unfolding kind_uses
  type_uses t is = ap (kind_uses variable) (ap read_kind is ∙ read_kind_ty)

  pub kind_pi_uses : (t : Kind) (a : Box Fam Global) (k : Box Kind Global) → t ≡ kinds.Pi a k → kind_uses variable (read_kind t) ≡ (family_uses variable (read_family a.value) || kind_uses (suc variable) (read_kind k.value))
  unfolding kind_uses
  kind_pi_uses t a k is = ap (kind_uses variable) (ap read_kind is ∙ read_kind_pi a k)

  -- of the arguments that are left, the next comes first
  pub next_uses : (items : List Obj) (i : ℕ) (x : Obj) → drop i items ≡ x ∷ drop (i + 1) items → arguments_use variable (read_objects (drop i items)) ≡ (object_uses variable (read_object x) || arguments_use variable (read_objects (drop (i + 1) items)))
  next_uses items i x left = ap (λ xs. arguments_use variable (read_objects xs)) left
