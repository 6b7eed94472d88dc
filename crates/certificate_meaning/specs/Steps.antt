-- What a step follows from (this profile): one row for each form of what it states, with the premises in the order in which they
-- are written. A row looks at one node, so that whoever checks it needs neither raising nor substitution.
use Rattle.std.specs.Prelude.{◌≡◌, ◌<◌, ◌≤◌, ℕ, suc, ◌+◌, List, [], ◌∷◌, Option, Some, None, slice_get}
use Rattle.lf_meaning.specs.Terms.{Constant, Object, Lam, At, Atomic, Var, Con, App, Family, Pi, AtFamily, AtomicFamily, FamilyCon, FamilyApp, Kind, Ty, PiKind, Simple, Base, Arrow, Context, domain_count, with_domains}
use Rattle.lf_meaning.specs.Erasure.{head_constant}
use Rattle.lf_meaning.specs.Signatures.{Class, FamilyClass, KindClass, Value, SameAs, TermValue, FamilyValue, Signature, class_of}
use Rattle.certificate_meaning.specs.Statements.{KindTerm, FamilyTerm, ObjectTerm, AtomicTerm, Statement, Raises, Erases, Substitutes, SubstitutesAtHead, Applies, KindIn, FamilyIn, SynthesisesKindIn, ChecksIn, SynthesisesIn}

-- `Follows S s ps`: over the signature S the statement s follows from the premises ps by one row.
pub data Follows (sig : Signature) : Statement → List Statement → Type 0 where
  -- Raising by the form of the term: a leaf directly, any other form by its children. In the body of a λ or a Π `from` is one more.
  raise_type : {by from : ℕ} → Follows sig (Raises by from (KindTerm Ty) (KindTerm Ty)) []
  raise_kind_pi : {by from : ℕ} {a b : Family} {k l : Kind} → Follows sig (Raises by from (KindTerm (PiKind a k)) (KindTerm (PiKind b l))) (Raises by from (FamilyTerm a) (FamilyTerm b) ∷ Raises by (suc from) (KindTerm k) (KindTerm l) ∷ [])
  raise_pi : {by from : ℕ} {a b c d : Family} → Follows sig (Raises by from (FamilyTerm (Pi a c)) (FamilyTerm (Pi b d))) (Raises by from (FamilyTerm a) (FamilyTerm b) ∷ Raises by (suc from) (FamilyTerm c) (FamilyTerm d) ∷ [])
  raise_family_constant : {by from : ℕ} {c : Constant} → Follows sig (Raises by from (FamilyTerm (AtFamily (FamilyCon c))) (FamilyTerm (AtFamily (FamilyCon c)))) []
  raise_family_application : {by from : ℕ} {p q : AtomicFamily} {m o : Object} → Follows sig (Raises by from (FamilyTerm (AtFamily (FamilyApp p m))) (FamilyTerm (AtFamily (FamilyApp q o)))) (Raises by from (FamilyTerm (AtFamily p)) (FamilyTerm (AtFamily q)) ∷ Raises by from (ObjectTerm m) (ObjectTerm o) ∷ [])
  raise_lambda : {by from : ℕ} {m o : Object} → Follows sig (Raises by from (ObjectTerm (Lam m)) (ObjectTerm (Lam o))) (Raises by (suc from) (ObjectTerm m) (ObjectTerm o) ∷ [])
  raise_at : {by from : ℕ} {r s : Atomic} → Follows sig (Raises by from (ObjectTerm (At r)) (ObjectTerm (At s))) (Raises by from (AtomicTerm r) (AtomicTerm s) ∷ [])
  raise_variable_below : {by from i : ℕ} → i < from → Follows sig (Raises by from (AtomicTerm (Var i)) (AtomicTerm (Var i))) []
  raise_variable : {by from i : ℕ} → from ≤ i → Follows sig (Raises by from (AtomicTerm (Var i)) (AtomicTerm (Var (i + by)))) []
  raise_constant : {by from : ℕ} {c : Constant} → Follows sig (Raises by from (AtomicTerm (Con c)) (AtomicTerm (Con c))) []
  raise_application : {by from : ℕ} {r s : Atomic} {m o : Object} → Follows sig (Raises by from (AtomicTerm (App r m)) (AtomicTerm (App s o))) (Raises by from (AtomicTerm r) (AtomicTerm s) ∷ Raises by from (ObjectTerm m) (ObjectTerm o) ∷ [])
  -- Erasure: a Π to the arrow over its parts, an atomic family to the base of the constant at its head.
  erase_pi : {a b : Family} {s t : Simple} → Follows sig (Erases (Pi a b) (Arrow s t)) (Erases a s ∷ Erases b t ∷ [])
  erase_atomic : {p : AtomicFamily} → Follows sig (Erases (AtFamily p) (Base (head_constant p))) []
  -- Substitution: `type` and a constant family stay; an atomic object is what comes of it at its head; any other form goes by its
  -- children. In the body of a λ or a Π the variable is one more.
  substitute_type : {v : Object} {t : Simple} {n : ℕ} → Follows sig (Substitutes v t n (KindTerm Ty) (KindTerm Ty)) []
  substitute_kind_pi : {v : Object} {t : Simple} {n : ℕ} {a b : Family} {k l : Kind} → Follows sig (Substitutes v t n (KindTerm (PiKind a k)) (KindTerm (PiKind b l))) (Substitutes v t n (FamilyTerm a) (FamilyTerm b) ∷ Substitutes v t (suc n) (KindTerm k) (KindTerm l) ∷ [])
  substitute_pi : {v : Object} {t : Simple} {n : ℕ} {a b c d : Family} → Follows sig (Substitutes v t n (FamilyTerm (Pi a c)) (FamilyTerm (Pi b d))) (Substitutes v t n (FamilyTerm a) (FamilyTerm b) ∷ Substitutes v t (suc n) (FamilyTerm c) (FamilyTerm d) ∷ [])
  substitute_family_constant : {v : Object} {t : Simple} {n : ℕ} {c : Constant} → Follows sig (Substitutes v t n (FamilyTerm (AtFamily (FamilyCon c))) (FamilyTerm (AtFamily (FamilyCon c)))) []
  substitute_family_application : {v : Object} {t : Simple} {n : ℕ} {p q : AtomicFamily} {m o : Object} → Follows sig (Substitutes v t n (FamilyTerm (AtFamily (FamilyApp p m))) (FamilyTerm (AtFamily (FamilyApp q o)))) (Substitutes v t n (FamilyTerm (AtFamily p)) (FamilyTerm (AtFamily q)) ∷ Substitutes v t n (ObjectTerm m) (ObjectTerm o) ∷ [])
  substitute_lambda : {v : Object} {t : Simple} {n : ℕ} {m o : Object} → Follows sig (Substitutes v t n (ObjectTerm (Lam m)) (ObjectTerm (Lam o))) (Substitutes v t (suc n) (ObjectTerm m) (ObjectTerm o) ∷ [])
  substitute_at : {v : Object} {t : Simple} {n : ℕ} {r : Atomic} {w : Object} (rest : Option Simple) → Follows sig (Substitutes v t n (ObjectTerm (At r)) (ObjectTerm w)) (SubstitutesAtHead v t n r w rest ∷ [])
  -- At the head: variable n itself is the value, raised by n from 0, at its simple type; a variable below n and a constant stay; a
  -- variable above n is lowered by one.
  head_is_variable : {v : Object} {t : Simple} {n : ℕ} {w : Object} → Follows sig (SubstitutesAtHead v t n (Var n) w (Some t)) (Raises n 0 (ObjectTerm v) (ObjectTerm w) ∷ [])
  head_is_below : {v : Object} {t : Simple} {n i : ℕ} → i < n → Follows sig (SubstitutesAtHead v t n (Var i) (At (Var i)) None) []
  head_is_above : {v : Object} {t : Simple} {n i : ℕ} → n ≤ i → Follows sig (SubstitutesAtHead v t n (Var (suc i)) (At (Var i)) None) []
  head_is_constant : {v : Object} {t : Simple} {n : ℕ} {c : Constant} → Follows sig (SubstitutesAtHead v t n (Con c) (At (Con c)) None) []
  -- An application whose head stays has the substituted argument; one whose head is a value u, at the simple type s, is u applied
  -- to the substituted argument.
  head_stays : {v : Object} {t : Simple} {n : ℕ} {r s : Atomic} {m o : Object} → Follows sig (SubstitutesAtHead v t n (App r m) (At (App s o)) None) (SubstitutesAtHead v t n r (At s) None ∷ Substitutes v t n (ObjectTerm m) (ObjectTerm o) ∷ [])
  head_goes : {v : Object} {t : Simple} {n : ℕ} {r : Atomic} {m o w : Object} {rest : Simple} (u : Object) (s : Simple) → Follows sig (SubstitutesAtHead v t n (App r m) w (Some rest)) (SubstitutesAtHead v t n r u (Some s) ∷ Substitutes v t n (ObjectTerm m) (ObjectTerm o) ∷ Applies s u o w rest ∷ [])
  -- A value at an arrow applied: the argument goes into the body of a λ at variable 0; an atomic value has it as a further
  -- argument. At a base there is no row.
  apply_lambda : {s t : Simple} {n m w : Object} → Follows sig (Applies (Arrow s t) (Lam n) m w t) (Substitutes m s 0 (ObjectTerm n) (ObjectTerm w) ∷ [])
  apply_atomic : {s t : Simple} {r : Atomic} {m : Object} → Follows sig (Applies (Arrow s t) (At r) m (At (App r m)) t) []
  -- The judgements. Contexts need not be well formed.
  kind_type : {g : Context} → Follows sig (KindIn g Ty) []
  kind_pi : {g : Context} {a : Family} {k : Kind} → Follows sig (KindIn g (PiKind a k)) (FamilyIn g a ∷ KindIn (a ∷ g) k ∷ [])
  family_pi : {g : Context} {a b : Family} → Follows sig (FamilyIn g (Pi a b)) (FamilyIn g a ∷ FamilyIn (a ∷ g) b ∷ [])
  family_atomic : {g : Context} {p : AtomicFamily} → Follows sig (FamilyIn g (AtFamily p)) (SynthesisesKindIn g p Ty ∷ [])
  constant_kind : {g : Context} {c : Constant} {k : Kind} → class_of sig c ≡ Some (KindClass k) → Follows sig (SynthesisesKindIn g (FamilyCon c) k) []
  -- The premises of an application: the head at a Π, the argument at its domain, the erasure s of the domain, and the body with the
  -- argument substituted for variable 0 at s.
  application_kind : {g : Context} {p : AtomicFamily} {m : Object} {k : Kind} (a : Family) (l : Kind) (s : Simple) → Follows sig (SynthesisesKindIn g (FamilyApp p m) k) (SynthesisesKindIn g p (PiKind a l) ∷ ChecksIn g m a ∷ Erases a s ∷ Substitutes m s 0 (KindTerm l) (KindTerm k) ∷ [])
  check_lambda : {g : Context} {m : Object} {a b : Family} → Follows sig (ChecksIn g (Lam m) (Pi a b)) (ChecksIn (a ∷ g) m b ∷ [])
  check_atomic : {g : Context} {r : Atomic} {p : AtomicFamily} → Follows sig (ChecksIn g (At r) (AtFamily p)) (SynthesisesIn g r (AtFamily p) ∷ [])
  -- Variable i has the family at place i of the context, the innermost at 0, raised by i + 1 from 0.
  variable_family : {g : Context} {i : ℕ} {a : Family} (b : Family) → slice_get g i ≡ Some b → Follows sig (SynthesisesIn g (Var i) a) (Raises (suc i) 0 (FamilyTerm b) (FamilyTerm a) ∷ [])
  constant_family : {g : Context} {c : Constant} {a : Family} → class_of sig c ≡ Some (FamilyClass a) → Follows sig (SynthesisesIn g (Con c) a) []
  application_family : {g : Context} {r : Atomic} {m : Object} {b : Family} (a c : Family) (s : Simple) → Follows sig (SynthesisesIn g (App r m) b) (SynthesisesIn g r (Pi a c) ∷ ChecksIn g m a ∷ Erases a s ∷ Substitutes m s 0 (FamilyTerm c) (FamilyTerm b) ∷ [])

-- The statement that a class is a family or a kind, in no context.
abbrev pub class_statement : Class → Statement
class_statement (FamilyClass a) = FamilyIn [] a
class_statement (KindClass k) = KindIn [] k

-- The object is no constant without arguments: as a value that one is `SameAs`.
abbrev pub IsNoConstant : Object → Type 0
IsNoConstant m = (c : Constant) → m ≡ At (Con c) → ⊥

-- A family with so many binders is not, with none, a constant without arguments.
abbrev pub IsNoConstantFamily : ℕ → Family → Type 0
IsNoConstantFamily n a = (c : Constant) → n ≡ 0 → a ≡ AtFamily (FamilyCon c) → ⊥

-- `Declares S value class ps`: over the signature S the premises ps show a declaration of that class and value. They are that the
-- class is one, and for an object or a family as the value that it fits. `SameAs` names an undefined constant of the same class. A
-- family stands in the context of the kind's domains.
pub data Declares (sig : Signature) : Option Value → Class → List Statement → Type 0 where
  declares_undefined : {class : Class} → Declares sig None class (class_statement class ∷ [])
  declares_same : {class : Class} {d : Constant} → class_of sig d ≡ Some class → Declares sig (Some (SameAs d)) class (class_statement class ∷ [])
  declares_term : {a : Family} {m : Object} → IsNoConstant m → Declares sig (Some (TermValue m)) (FamilyClass a) (FamilyIn [] a ∷ ChecksIn [] m a ∷ [])
  declares_family : {k : Kind} {a : Family} → IsNoConstantFamily (domain_count k) a → Declares sig (Some (FamilyValue (domain_count k) a)) (KindClass k) (KindIn [] k ∷ FamilyIn (with_domains k []) a ∷ [])
