-- Sameness of heads with spines, taken at once.
use Rattle.std.proofs.Common.{◌≡◌, List, [], ◌∷◌, length, Bool, true, false, ◌&&◌, refl, sym, ap, ap₂, ◌∙◌, arith}
use Rattle.std.proofs.lemmas.Bool.{and_parts}
use lib.Pointwise.{pointwise}
use Rattle.lf_meaning.specs.Terms.{Constant, Object, Atomic, App, AtomicFamily, FamilyCon, FamilyApp, apply_all, family_apply_all, argument_count, family_argument_count}
use Rattle.lf_meaning.specs.Signatures.{same_constant}
use Rattle.lf_meaning.specs.Equality.{same_object, same_atomic, same_family, same_atomic_family}
use Rattle.lf_term_laws.proofs.Equality.{pointwise_sound, same_object_sound, same_atomic_sound, same_atomic_family_sound}
use Rattle.lf_term_laws.proofs.Spines.{argument_count_applied, family_argument_count_applied}
use Rattle.term_trees.specs.Readings.{read_constant, read_head, read_object, read_arguments, read_family}
use Rattle.base_types.specs.declared.qname.QName.{QName}
use Rattle.term_trees.specs.declared.obj.Head.{Head}
use Rattle.term_trees.specs.declared.obj.Head.TheVariants as heads
use Rattle.term_trees.specs.declared.obj.Obj.{Obj}
use Rattle.term_trees.specs.declared.obj.Obj.TheVariants as objs
use Rattle.term_trees.specs.declared.obj.Spine.{Spine}
use Rattle.term_trees.specs.declared.fam.Fam.{Fam}
use Rattle.term_trees.specs.declared.fam.Fam.TheVariants as fams
use Rattle.term_trees.proofs.ReadingEquations.{read_object_at, read_family_at}
use Rattle.lf_term_laws.proofs.Below.Booleans.{both_ways}

and_right : (x : Bool) → x ≡ x && true
and_right true = refl
and_right false = refl

and_grouped : (x y z : Bool) → (x && y) && z ≡ x && (y && z)
and_grouped true y z = refl
and_grouped false y z = refl

same_applied : (r s : Atomic) (ms ns : List Object) → length ms ≡ length ns → same_atomic (apply_all r ms) (apply_all s ns) ≡ same_atomic r s && pointwise same_object ms ns
same_applied r s [] [] h = and_right (same_atomic r s)
same_applied r s [] (n ∷ ns) h = absurd (omega arith)
same_applied r s (m ∷ ms) [] h = absurd (omega arith)
same_applied r s (m ∷ ms) (n ∷ ns) h =
    same_applied (App r m) (App s n) ms ns (omega arith) ∙ and_grouped (same_atomic r s) (same_object m n) (pointwise same_object ms ns)

pub no_arguments : (h : Head) → argument_count (read_head h) ≡ 0
no_arguments (heads.Var i) = refl
no_arguments (heads.Con q) = refl

same_lengths : (h g : Head) (ms ns : List Object) → apply_all (read_head h) ms ≡ apply_all (read_head g) ns → length ms ≡ length ns
same_lengths h g ms ns e =
    omega (arith, ap argument_count e, argument_count_applied (read_head h) ms, argument_count_applied (read_head g) ns, no_arguments h, no_arguments g)

pub same_head_applied : (h g : Head) (ms ns : List Object) → same_atomic (apply_all (read_head h) ms) (apply_all (read_head g) ns) ≡ same_atomic (read_head h) (read_head g) && pointwise same_object ms ns
same_head_applied h g ms ns =
    let r = read_head h in
    let s = read_head g in
    both_ways (same_atomic (apply_all r ms) (apply_all s ns)) (same_atomic r s && pointwise same_object ms ns)
    (λ e. sym (same_applied r s ms ns (same_lengths h g ms ns (same_atomic_sound (apply_all r ms) (apply_all s ns) e))) ∙ e)
    (λ e. same_applied r s ms ns (ap length (pointwise_sound same_object same_object_sound ms ns (and_parts (same_atomic r s) (pointwise same_object ms ns) e).1)) ∙ e)

same_family_applied : (p q : AtomicFamily) (ms ns : List Object) → length ms ≡ length ns → same_atomic_family (family_apply_all p ms) (family_apply_all q ns) ≡ same_atomic_family p q && pointwise same_object ms ns
same_family_applied p q [] [] h = and_right (same_atomic_family p q)
same_family_applied p q [] (n ∷ ns) h = absurd (omega arith)
same_family_applied p q (m ∷ ms) [] h = absurd (omega arith)
same_family_applied p q (m ∷ ms) (n ∷ ns) h =
    same_family_applied (FamilyApp p m) (FamilyApp q n) ms ns (omega arith) ∙ and_grouped (same_atomic_family p q) (same_object m n) (pointwise same_object ms ns)

same_family_lengths : (c d : Constant) (ms ns : List Object) → family_apply_all (FamilyCon c) ms ≡ family_apply_all (FamilyCon d) ns → length ms ≡ length ns
same_family_lengths c d ms ns e =
    omega (arith, ap family_argument_count e, family_argument_count_applied (FamilyCon c) ms, family_argument_count_applied (FamilyCon d) ns)

pub same_constant_applied : (c d : Constant) (ms ns : List Object) → same_atomic_family (family_apply_all (FamilyCon c) ms) (family_apply_all (FamilyCon d) ns) ≡ same_atomic_family (FamilyCon c) (FamilyCon d) && pointwise same_object ms ns
same_constant_applied c d ms ns =
    let p = FamilyCon c in
    let q = FamilyCon d in
    both_ways (same_atomic_family (family_apply_all p ms) (family_apply_all q ns)) (same_atomic_family p q && pointwise same_object ms ns)
    (λ e. sym (same_family_applied p q ms ns (same_family_lengths c d ms ns (same_atomic_family_sound (family_apply_all p ms) (family_apply_all q ns) e))) ∙ e)
    (λ e. same_family_applied p q ms ns (ap length (pointwise_sound same_object same_object_sound ms ns (and_parts (same_atomic_family p q) (pointwise same_object ms ns) e).1)) ∙ e)

pub same_object_at : (m n : Obj) (h g : Head) (s r : Spine) → m ≡ objs.At h s → n ≡ objs.At g r → same_object (read_object m) (read_object n) ≡ same_atomic (read_head h) (read_head g) && pointwise same_object (read_arguments s) (read_arguments r)
same_object_at m n h g s r m_is n_is =
    ap₂ same_object (ap read_object m_is ∙ read_object_at h s) (ap read_object n_is ∙ read_object_at g r) ∙ same_head_applied h g (read_arguments s) (read_arguments r)

pub same_family_at : (a b : Fam) (c d : QName) (s r : Spine) → a ≡ fams.At c s → b ≡ fams.At d r → same_family (read_family a) (read_family b) ≡ same_constant (read_constant c) (read_constant d) && pointwise same_object (read_arguments s) (read_arguments r)
same_family_at a b c d s r a_is b_is =
    ap₂ same_family (ap read_family a_is ∙ read_family_at c s) (ap read_family b_is ∙ read_family_at d r) ∙ same_constant_applied (read_constant c) (read_constant d) (read_arguments s) (read_arguments r)

-- The two parts of a test, where the first has been made.
pub second_decides : (first second whole : Bool) → true ≡ first → whole ≡ first && second → second ≡ whole
second_decides first second whole held is = ap (λ b. b && second) held ∙ sym is

pub first_decides : (first second whole : Bool) → first ≡ false → whole ≡ first && second → first ≡ whole
first_decides first second whole failed is = failed ∙ ap (λ b. b && second) (sym failed) ∙ sym is
