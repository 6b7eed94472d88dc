-- Heads that take their arguments at once.
use Rattle.std.proofs.Common.{◌≡◌, ℕ, zero, suc, ◌-◌, List, [], ◌∷◌, ◌++◌, length, Option, Some, None, refl, sym, ap, ◌∙◌, arith}
use Rattle.lf_meaning.specs.Terms.{Constant, Object, Lam, At, Atomic, Con, Family, Pi, AtFamily, AtomicFamily, FamilyCon, Kind, Ty, PiKind, Simple, Base, Arrow, apply_all, family_apply_all}
use Rattle.lf_meaning.specs.Erasure.{erase, head_constant}
use Rattle.lf_meaning.specs.Replacement.{object_of, takes_all}
use Rattle.lf_meaning.specs.Signatures.{Class, FamilyClass, KindClass, Value, SameAs, TermValue, FamilyValue}
use Rattle.lf_meaning.specs.Substitution.{substitute_family, substitute_kind, app, reduce}
use Rattle.lf_term_laws.proofs.Spines.{reduce_atomic, takes_all_kept, takes_all_is_reduce}
use Rattle.lf_substitution_laws.proofs.Families.{erase_map}
use Rattle.translation_meaning.specs.Heads.{Head, ObjectHead, FamilyHead, head_takes, head_takes_all, family_takes}
use Rattle.translation_meaning.specs.Translation.{object_image, family_image, family_of}
use Rattle.translation_laws.proofs.Spines.{spine_kept}
use Rattle.elaborate_meaning.specs.NameHeads.{class_head}
use Rattle.elaborate.specs.HeadStates.{value_binders}

-- One argument more.
pub takes_one_more : (head : Head) (ms : List Object) (m : Object) → head_takes_all head (ms ++ m ∷ []) ≡ head_takes (head_takes_all head ms) m
unfolding head_takes_all
takes_one_more head [] m = refl
takes_one_more head (n ∷ ms) m = takes_one_more (head_takes head n) ms m

-- The simple type after an argument.
arrow_after : (s t : Simple) (v m : Object) → (app (Arrow s t) v m).type ≡ t
arrow_after s t (Lam n) m = refl
arrow_after s t (At r) m = refl

base_after : (c : Constant) (v m : Object) → (app (Base c) v m).type ≡ Base c
base_after c (Lam n) m = refl
base_after c (At r) m = refl

-- An object takes its arguments as it is reduced with them at the erasure of its classifier.
pub object_taken : (v : Object) (a : Family) (ms : List Object) → (b : Family) × (head_takes_all (ObjectHead v a) ms ≡ ObjectHead (reduce v (erase a) ms) b)
unfolding head_takes_all
object_taken v a [] = (a, refl)
object_taken v (Pi d b) (m ∷ ms) =
    let w = (app (erase (Pi d b)) v m).value in
    let c = substitute_family m (erase d) 0 b in
    let rest = object_taken w c ms in
    let type : erase c ≡ (app (erase (Pi d b)) v m).type = erase_map _ 0 b ∙ sym (arrow_after (erase d) (erase b) v m) in
    (rest.0, rest.1 ∙ ap (λ t. ObjectHead (reduce w t ms) rest.0) type)
object_taken v (AtFamily p) (m ∷ ms) =
    let w = (app (erase (AtFamily p)) v m).value in
    let rest = object_taken w (AtFamily p) ms in
    let type : erase (AtFamily p) ≡ (app (erase (AtFamily p)) v m).type = sym (base_after (head_constant p) v m) in
    (rest.0, rest.1 ∙ ap (λ t. ObjectHead (reduce w t ms) rest.0) type)

-- A family stays a family.
family_stays : (n : ℕ) (f : Family) (k : Kind) (ms : List Object) → (m : ℕ) × (g : Family) × (l : Kind) × (head_takes_all (FamilyHead n f k) ms ≡ FamilyHead m g l)
unfolding head_takes_all
family_stays n f k [] = (n, f, k, refl)
family_stays zero f (PiKind d k) (m ∷ ms) = family_stays zero (family_takes f m) (substitute_kind m (erase d) 0 k) ms
family_stays (suc n) f (PiKind d k) (m ∷ ms) = family_stays n (substitute_family m (erase d) n f) (substitute_kind m (erase d) 0 k) ms
family_stays zero f Ty (m ∷ ms) = family_stays zero (family_takes f m) Ty ms
family_stays (suc n) f Ty (m ∷ ms) = family_stays (suc n) f Ty ms

no_object : (n : ℕ) (f : Family) (k : Kind) (ms : List Object) (o : Object) (a : Family) → head_takes_all (FamilyHead n f k) ms ≡ ObjectHead o a → ⊥
no_object n f k ms o a h =
    let stays = family_stays n f k ms in
    let e : FamilyHead stays.0 stays.1 stays.2 ≡ ObjectHead o a = sym stays.3 ∙ h in
    cc

no_family : (v : Object) (a : Family) (ms : List Object) (n : ℕ) (f : Family) (k : Kind) → head_takes_all (ObjectHead v a) ms ≡ FamilyHead n f k → ⊥
no_family v a ms n f k h =
    let taken = object_taken v a ms in
    let e : ObjectHead (reduce v (erase a) ms) taken.0 ≡ FamilyHead n f k = sym taken.1 ∙ h in
    cc

-- The object of a head that began as an object.
pub object_is : (v : Object) (a : Family) (ms : List Object) (o : Object) (b : Family) → head_takes_all (ObjectHead v a) ms ≡ ObjectHead o b → reduce v (erase a) ms ≡ o
object_is v a ms o b h =
    let taken = object_taken v a ms in
    let e : ObjectHead (reduce v (erase a) ms) taken.0 ≡ ObjectHead o b = sym taken.1 ∙ h in
    cc

-- One that began as an atomic object keeps its arguments.
pub atomic_is : (r : Atomic) (a : Family) (ms : List Object) (o : Object) (b : Family) → head_takes_all (ObjectHead (At r) a) ms ≡ ObjectHead o b → At (apply_all r ms) ≡ o
atomic_is r a ms o b h = sym (reduce_atomic r (erase a) ms) ∙ object_is (At r) a ms o b h

family_is : (n : ℕ) (f : Family) (k : Kind) (ms : List Object) (m : ℕ) (g : Family) (l : Kind) (p : AtomicFamily) → head_takes_all (FamilyHead n f k) ms ≡ FamilyHead m g l → family_of (head_takes_all (FamilyHead n f k) ms) p ≡ g
family_is n f k ms m g l p h = ap (λ head. family_of head p) h

-- A declared constant without a value.
pub constant_kept : (c : Constant) (class : Class) (ms : List Object) (o : Object) (a : Family) → head_takes_all (class_head c class None) ms ≡ ObjectHead o a → At (apply_all (Con c) ms) ≡ o
constant_kept c (FamilyClass f) ms o a h = atomic_is (Con c) f ms o a h
constant_kept c (KindClass k) ms o a h = absurd (no_object zero (AtFamily (FamilyCon c)) k ms o a h)

pub family_kept : (c : Constant) (class : Class) (ms : List Object) (n : ℕ) (f : Family) (k : Kind) → head_takes_all (class_head c class None) ms ≡ FamilyHead n f k → AtFamily (family_apply_all (FamilyCon c) ms) ≡ f
family_kept c (FamilyClass a) ms n f k h = absurd (no_family (At (Con c)) a ms n f k h)
family_kept c (KindClass l) ms n f k h = sym (spine_kept l (FamilyCon c) ms (FamilyCon c)) ∙ family_is zero (AtFamily (FamilyCon c)) l ms n f k (FamilyCon c) h

-- A defined one: its value takes the arguments.
pub value_taken : (c : Constant) (class : Class) (value : Value) (ms : List Object) (o : Object) (a : Family) → head_takes_all (class_head c class (Some value)) ms ≡ ObjectHead o a → object_of (takes_all (object_image c class value) ms) ≡ o
value_taken c (FamilyClass f) (SameAs d) ms o a h = ap object_of (takes_all_kept (Con d) ms) ∙ atomic_is (Con d) f ms o a h
value_taken c (FamilyClass f) (TermValue v) ms o a h = ap object_of (takes_all_is_reduce v (erase f) ms) ∙ object_is v f ms o a h
value_taken c (FamilyClass f) (FamilyValue n b) ms o a h = ap object_of (takes_all_kept (Con c) ms) ∙ atomic_is (Con c) f ms o a h
value_taken c (KindClass k) (SameAs d) ms o a h = absurd (no_object zero (AtFamily (FamilyCon d)) k ms o a h)
value_taken c (KindClass k) (TermValue v) ms o a h = absurd (no_object zero (AtFamily (FamilyCon c)) k ms o a h)
value_taken c (KindClass k) (FamilyValue n b) ms o a h = absurd (no_object n b k ms o a h)

pub family_value_taken : (c : Constant) (class : Class) (value : Value) (ms : List Object) (n : ℕ) (f : Family) (k : Kind) (p : AtomicFamily) → head_takes_all (class_head c class (Some value)) ms ≡ FamilyHead n f k → family_of (head_takes_all (family_image c class value) ms) p ≡ f
family_value_taken c (FamilyClass a) (SameAs d) ms n f k p h = absurd (no_family (At (Con d)) a ms n f k h)
family_value_taken c (FamilyClass a) (TermValue v) ms n f k p h = absurd (no_family v a ms n f k h)
family_value_taken c (FamilyClass a) (FamilyValue m b) ms n f k p h = absurd (no_family (At (Con c)) a ms n f k h)
family_value_taken c (KindClass l) (SameAs d) ms n f k p h = family_is zero (AtFamily (FamilyCon d)) l ms n f k p h
family_value_taken c (KindClass l) (TermValue v) ms n f k p h = family_is zero (AtFamily (FamilyCon c)) l ms n f k p h
family_value_taken c (KindClass l) (FamilyValue m b) ms n f k p h = family_is m b l ms n f k p h

-- A head of families without domains stays without.
type_stays : (n : ℕ) (f : Family) (ms : List Object) (m : ℕ) (g : Family) (k : Kind) → head_takes_all (FamilyHead n f Ty) ms ≡ FamilyHead m g k → k ≡ Ty
unfolding head_takes_all
type_stays n f [] m g k h = cc
type_stays zero f (x ∷ ms) m g k h = type_stays zero (family_takes f x) ms m g k h
type_stays (suc n) f (x ∷ ms) m g k h = type_stays (suc n) f ms m g k h

-- So where domains are left, each argument was taken for a binder, where there was one.
binders_left : (n : ℕ) (f : Family) (k : Kind) (ms : List Object) (m : ℕ) (g d : Family) (r : Kind) → head_takes_all (FamilyHead n f k) ms ≡ FamilyHead m g (PiKind d r) → m ≡ n - length ms
unfolding head_takes_all
binders_left n f k [] m g d r h = let e : n ≡ m = cc in omega (arith, e)
binders_left zero f (PiKind a k) (x ∷ ms) m g d r h = let e = binders_left zero (family_takes f x) (substitute_kind x (erase a) 0 k) ms m g d r h in omega (arith, e)
binders_left (suc n) f (PiKind a k) (x ∷ ms) m g d r h = let e = binders_left n (substitute_family x (erase a) n f) (substitute_kind x (erase a) 0 k) ms m g d r h in omega (arith, e)
binders_left zero f Ty (x ∷ ms) m g d r h = let e = binders_left zero (family_takes f x) Ty ms m g d r h in omega (arith, e)
binders_left (suc n) f Ty (x ∷ ms) m g d r h = let e : PiKind d r ≡ Ty = type_stays (suc n) f ms m g (PiKind d r) h in absurd (cc)

pub value_binders_left : (c : Constant) (class : Class) (value : Option Value) (ms : List Object) (m : ℕ) (g d : Family) (r : Kind) → head_takes_all (class_head c class value) ms ≡ FamilyHead m g (PiKind d r) → m ≡ value_binders value - length ms
value_binders_left c (FamilyClass a) None ms m g d r h = absurd (no_family (At (Con c)) a ms m g (PiKind d r) h)
value_binders_left c (FamilyClass a) (Some (SameAs e)) ms m g d r h = absurd (no_family (At (Con e)) a ms m g (PiKind d r) h)
value_binders_left c (FamilyClass a) (Some (TermValue v)) ms m g d r h = absurd (no_family v a ms m g (PiKind d r) h)
value_binders_left c (FamilyClass a) (Some (FamilyValue n b)) ms m g d r h = absurd (no_family (At (Con c)) a ms m g (PiKind d r) h)
value_binders_left c (KindClass k) None ms m g d r h = binders_left zero (AtFamily (FamilyCon c)) k ms m g d r h
value_binders_left c (KindClass k) (Some (SameAs e)) ms m g d r h = binders_left zero (AtFamily (FamilyCon e)) k ms m g d r h
value_binders_left c (KindClass k) (Some (TermValue v)) ms m g d r h = binders_left zero (AtFamily (FamilyCon c)) k ms m g d r h
value_binders_left c (KindClass k) (Some (FamilyValue n b)) ms m g d r h = binders_left n b k ms m g d r h
