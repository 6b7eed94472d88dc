-- What is written of terms, by the terms of the code.
use Rattle.std.specs.Prelude.{codes, length, nat_eq}
use Rattle.std.specs.declared.boxed.Box.{Box}
use Rattle.std.specs.declared.alloc.Global.{Global}
use Rattle.std.proofs.Common.{◌≡◌, ℕ, suc, Bool, true, false, List, [], ◌∷◌, ◌++◌, append_assoc, refl, sym, ap, ◌∙◌, arith}
use Rattle.std.proofs.lemmas.Bool.Decides.{nat_tests}
use Rattle.std.proofs.lemmas.List.{append-nil}
use Rattle.lf_meaning.specs.Terms.{Object, At, Atomic, App, AtomicFamily, FamilyCon, FamilyApp, apply_all, family_apply_all}
use Rattle.printing_meaning.specs.Constants.{Seen, constant_text, variable_text}
use Rattle.printing_meaning.specs.PrintedTerms.{is_head, is_product, product_text, object_text, atomic_text, family_text, atomic_family_text, kind_text, family_uses, kind_uses}
use Rattle.base_types.specs.declared.qname.QName.{QName}
use Rattle.term_trees.specs.declared.fam.Fam.{Fam}
use Rattle.term_trees.specs.declared.fam.Fam.TheVariants as fams
use Rattle.term_trees.specs.declared.kind.Kind.{Kind}
use Rattle.term_trees.specs.declared.kind.Kind.TheVariants as kinds
use Rattle.term_trees.specs.declared.obj.Head.{Head}
use Rattle.term_trees.specs.declared.obj.Head.TheVariants as heads
use Rattle.term_trees.specs.declared.obj.Obj.{Obj}
use Rattle.term_trees.specs.declared.obj.Obj.TheVariants as objs
use Rattle.term_trees.specs.declared.obj.Spine.{Spine}
use Rattle.term_trees.specs.Readings.{read_constant, read_head, read_object, read_objects, read_arguments, arguments_of, read_family, read_kind}
use Rattle.term_trees.proofs.ReadingEquations.{read_object_lam, read_object_at, read_family_pi, read_family_at, read_kind_ty, read_kind_pi}
use Rattle.term_text.specs.Arguments.{argument_text, arguments_text}
use Rattle.term_text.specs.Products.{front_text, back_text}

-- ---- a head alone

applied_is_no_head : (r : Atomic) (m : Object) (ms : List Object) → is_head (At (apply_all (App r m) ms)) ≡ false
applied_is_no_head r m [] = refl
applied_is_no_head r m (n ∷ ms) = applied_is_no_head (App r m) n ms

alone : (h : Head) → is_head (At (read_head h)) ≡ true
alone (heads.Var i) = refl
alone (heads.Con q) = refl

head_of : (h : Head) (ms : List Obj) → nat_eq (length ms) 0 ≡ is_head (At (apply_all (read_head h) (read_objects ms)))
head_of h [] = sym (alone h)
head_of h (m ∷ ms) = let some : nat_eq (suc (length ms)) 0 ≡ false = grind (arith, nat_tests) in some ∙ sym (applied_is_no_head (read_head h) (read_object m) (read_objects ms))

pub bare_head : (t : Obj) (h : Head) (s : Spine) → t ≡ objs.At h s → nat_eq (length (arguments_of s)) 0 ≡ is_head (read_object t)
bare_head t h s is = head_of h (arguments_of s) ∙ sym (ap is_head (ap read_object is ∙ read_object_at h s))

module _ (seen : Seen) (depth : ℕ) where
  -- ---- arguments behind a head

  arguments_first : (m : Object) (ms : List Object) → arguments_text seen depth (m ∷ ms) ≡ argument_text seen depth m ++ arguments_text seen depth ms
  arguments_first m ms = refl

  spine_text : (r : Atomic) (ms : List Object) → atomic_text seen depth (apply_all r ms) ≡ atomic_text seen depth r ++ arguments_text seen depth ms
  unfolding object_text
  spine_text r [] = sym (append-nil (atomic_text seen depth r))
  spine_text r (m ∷ ms) =
      let next : atomic_text seen depth (App r m) ++ arguments_text seen depth ms ≡ atomic_text seen depth r ++ (argument_text seen depth m ++ arguments_text seen depth ms) = simp append_assoc refl in
      spine_text (App r m) ms ∙ next ∙ ap (λ z. atomic_text seen depth r ++ z) (sym (arguments_first m ms))

  pub lambda_text : (t : Obj) (m : Box Obj Global) → t ≡ objs.Lam m
      → object_text seen depth (read_object t) ≡ codes "[" ++ variable_text seen (suc depth) ++ codes "] " ++ object_text seen (suc depth) (read_object m.value)
  unfolding object_text
  lambda_text t m is = ap (object_text seen depth) (ap read_object is ∙ read_object_lam m)

  pub applied_text : (t : Obj) (h : Head) (s : Spine) → t ≡ objs.At h s → object_text seen depth (read_object t) ≡ atomic_text seen depth (read_head h) ++ arguments_text seen depth (read_arguments s)
  unfolding object_text
  applied_text t h s is = ap (object_text seen depth) (ap read_object is ∙ read_object_at h s) ∙ spine_text (read_head h) (read_arguments s)

  family_spine_text : (p : AtomicFamily) (ms : List Object) → atomic_family_text seen depth (family_apply_all p ms) ≡ atomic_family_text seen depth p ++ arguments_text seen depth ms
  unfolding atomic_family_text
  family_spine_text p [] = sym (append-nil (atomic_family_text seen depth p))
  family_spine_text p (m ∷ ms) =
      let next : atomic_family_text seen depth (FamilyApp p m) ++ arguments_text seen depth ms ≡ atomic_family_text seen depth p ++ (argument_text seen depth m ++ arguments_text seen depth ms) = simp append_assoc refl in
      family_spine_text (FamilyApp p m) ms ∙ next ∙ ap (λ z. atomic_family_text seen depth p ++ z) (sym (arguments_first m ms))

  pub family_applied_text : (t : Fam) (q : QName) (s : Spine) → t ≡ fams.At q s → family_text seen depth (read_family t) ≡ constant_text seen (read_constant q) ++ arguments_text seen depth (read_arguments s)
  unfolding family_text atomic_family_text
  family_applied_text t q s is = ap (family_text seen depth) (ap read_family is ∙ read_family_at q s) ∙ family_spine_text (FamilyCon (read_constant q)) (read_arguments s)
  -- ---- products

-- What stands in front of the domain, the domain, what stands behind it, and the body, one after another.
pub product_written : (out : List ℕ) (used : Bool) (variable : List ℕ) (bracketed : Bool) (domain body : List ℕ)
    → (((out ++ front_text used variable bracketed) ++ domain) ++ back_text used bracketed) ++ body ≡ out ++ product_text used variable bracketed domain body
product_written out true variable bracketed domain body = simp append_assoc refl
product_written out false variable true domain body = simp append_assoc refl
product_written out false variable false domain body = simp append_assoc refl

pub product_chain : (out first second third : List ℕ) (used : Bool) (variable : List ℕ) (bracketed : Bool) (domain body : List ℕ)
    → first ≡ out ++ front_text used variable bracketed → second ≡ first ++ domain → third ≡ second ++ back_text used bracketed
    → third ++ body ≡ out ++ product_text used variable bracketed domain body
product_chain out first second third used variable bracketed domain body f s t =
    ap (λ z. z ++ body) (t ∙ ap (λ z. z ++ back_text used bracketed) (s ∙ ap (λ z. z ++ domain) f)) ∙ product_written out used variable bracketed domain body

pub pi_text : (seen : Seen) (depth : ℕ) (t : Fam) (a b : Box Fam Global) → t ≡ fams.Pi a b
    → family_text seen depth (read_family t)
    ≡ product_text (family_uses 0 (read_family b.value)) (variable_text seen (suc depth)) (is_product (read_family a.value)) (family_text seen depth (read_family a.value)) (family_text seen (suc depth) (read_family b.value))
unfolding family_text
pi_text seen depth t a b is = ap (family_text seen depth) (ap read_family is ∙ read_family_pi a b)

pub type_text : (seen : Seen) (depth : ℕ) (t : Kind) → t ≡ kinds.Ty → kind_text seen depth (read_kind t) ≡ codes "type"
unfolding kind_text
type_text seen depth t is = ap (kind_text seen depth) (ap read_kind is ∙ read_kind_ty)

pub kind_pi_text : (seen : Seen) (depth : ℕ) (t : Kind) (a : Box Fam Global) (k : Box Kind Global) → t ≡ kinds.Pi a k
    → kind_text seen depth (read_kind t)
    ≡ product_text (kind_uses 0 (read_kind k.value)) (variable_text seen (suc depth)) (is_product (read_family a.value)) (family_text seen depth (read_family a.value)) (kind_text seen (suc depth) (read_kind k.value))
unfolding kind_text
kind_pi_text seen depth t a k is = ap (kind_text seen depth) (ap read_kind is ∙ read_kind_pi a k)
