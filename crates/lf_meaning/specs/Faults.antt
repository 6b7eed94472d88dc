-- The first fault of a judgement, with its kind and its place (this profile). A place is a path of
-- numbers: 0 enters a domain or the body of a λ, 1 the body of a Π, and 2 + i argument i; the empty
-- path is the term itself.
use Rattle.std.specs.Prelude.{ℕ, suc, ◌+◌, List, [], ◌∷◌, ◌++◌, length, Option, Some, None, Result, Ok, Err, slice_get, nat_eq, if◌then◌else◌}
use Rattle.lf_meaning.specs.Terms.{Object, Lam, At, Atomic, Var, Con, App, Family, Pi, AtFamily, AtomicFamily, FamilyCon, FamilyApp, Kind, Ty, PiKind, Context, domain_count, with_domains, argument_count, family_argument_count}
use Rattle.lf_meaning.specs.Raising.{raise_family}
use Rattle.lf_meaning.specs.Erasure.{erase}
use Rattle.lf_meaning.specs.Substitution.{substitute_family, substitute_kind}
use Rattle.lf_meaning.specs.Signatures.{Class, FamilyClass, KindClass, Value, SameAs, TermValue, FamilyValue, Declaration, Signature, class_of}
use Rattle.lf_meaning.specs.Equality.{same_family, same_kind}

-- Unknown constant: a name that is not declared or is defined, or a variable past the context.
pub data FaultKind : Type 0 where
  UnknownConstant NotAFunction NotCanonical Mismatch Level : FaultKind

pub record Fault : Type 0 where
  pub kind : FaultKind
  pub at : List ℕ

-- A fault at the term itself.
abbrev pub here : FaultKind → Fault
here kind = record { kind = kind; at = [] }

-- The fault of a part that the number enters.
abbrev pub inside : ℕ → Option Fault → Option Fault
inside step None = None
inside step (Some fault) = Some (record { kind = fault.kind; at = step ∷ fault.at })

-- The first of two faults: the second part counts where the first has none.
abbrev pub first_fault : Option Fault → Option Fault → Option Fault
first_fault None second = second
first_fault (Some fault) second = Some fault

-- An answer, where there is no fault.
abbrev pub unless_fault : {A : Type 0} → Option Fault → A → Result A Fault
unless_fault None answer = Ok answer
unless_fault (Some fault) answer = Err fault

-- A variable synthesises its family raised to its place; one past the context is unknown.
abbrev pub variable_answer : Option Family → ℕ → Result Family Fault
variable_answer None i = Err (here UnknownConstant)
variable_answer (Some a) i = Ok (raise_family (suc i) 0 a)

-- A constant at the head of an object: unknown, or a family constant, which is of another level.
abbrev pub constant_answer : Option Class → Result Family Fault
constant_answer None = Err (here UnknownConstant)
constant_answer (Some (KindClass k)) = Err (here Level)
constant_answer (Some (FamilyClass a)) = Ok a

-- The classifier so far takes argument i, which enters at `step`: no function where it is no Π,
-- else the argument's own fault.
abbrev pub application_answer : Result Family Fault → ℕ → Object → (Family → Option Fault) → Result Family Fault
application_answer (Err fault) step m check = Err fault
application_answer (Ok (AtFamily p)) step m check = Err (record { kind = NotAFunction; at = step ∷ [] })
application_answer (Ok (Pi a b)) step m check = unless_fault (inside step (check a)) (substitute_family m (erase a) 0 b)

-- An atomic object at a family: its own fault, then not canonical at a Π, then a mismatch at
-- another family.
abbrev pub stands_at : Result Family Fault → Family → Option Fault
stands_at (Err fault) a = Some fault
stands_at (Ok b) (Pi c d) = Some (here NotCanonical)
stands_at (Ok b) (AtFamily p) = if same_family b (AtFamily p) then None else Some (here Mismatch)

-- The first fault of an object at a family, and the family that an atomic object synthesises, or
-- its first fault.
abbrev mutual
  pub object_fault : Signature → Context → Object → Family → Option Fault
  object_fault sig context (Lam m) (Pi a b) = inside 0 (object_fault sig (a ∷ context) m b)
  object_fault sig context (Lam m) (AtFamily p) = Some (here Mismatch)
  object_fault sig context (At r) a = stands_at (synthesised sig context r) a

  pub synthesised : Signature → Context → Atomic → Result Family Fault
  synthesised sig context (Var i) = variable_answer (slice_get context i) i
  synthesised sig context (Con c) = constant_answer (class_of sig c)
  synthesised sig context (App r m) = application_answer (synthesised sig context r) (2 + argument_count r) m (object_fault sig context m)

-- A constant at the head of a family.
abbrev pub family_constant_answer : Option Class → Result Kind Fault
family_constant_answer None = Err (here UnknownConstant)
family_constant_answer (Some (FamilyClass a)) = Err (here Level)
family_constant_answer (Some (KindClass k)) = Ok k

abbrev pub family_application_answer : Result Kind Fault → ℕ → Object → (Family → Option Fault) → Result Kind Fault
family_application_answer (Err fault) step m check = Err fault
family_application_answer (Ok Ty) step m check = Err (record { kind = NotAFunction; at = step ∷ [] })
family_application_answer (Ok (PiKind a k)) step m check = unless_fault (inside step (check a)) (substitute_kind m (erase a) 0 k)

-- The kind that an atomic family synthesises, or its first fault.
abbrev pub synthesised_kind : Signature → Context → AtomicFamily → Result Kind Fault
synthesised_kind sig context (FamilyCon c) = family_constant_answer (class_of sig c)
synthesised_kind sig context (FamilyApp p m) = family_application_answer (synthesised_kind sig context p) (2 + family_argument_count p) m (object_fault sig context m)

-- An atomic family stands where its remaining kind is `type`.
abbrev pub stands_at_type : Result Kind Fault → Option Fault
stands_at_type (Err fault) = Some fault
stands_at_type (Ok Ty) = None
stands_at_type (Ok (PiKind a k)) = Some (here NotCanonical)

abbrev pub family_fault : Signature → Context → Family → Option Fault
family_fault sig context (Pi a b) = first_fault (inside 0 (family_fault sig context a)) (inside 1 (family_fault sig (a ∷ context) b))
family_fault sig context (AtFamily p) = stands_at_type (synthesised_kind sig context p)

abbrev pub kind_fault : Signature → Context → Kind → Option Fault
kind_fault sig context Ty = None
kind_fault sig context (PiKind a k) = first_fault (inside 0 (family_fault sig context a)) (inside 1 (kind_fault sig (a ∷ context) k))

abbrev pub class_fault : Signature → Class → Option Fault
class_fault sig (FamilyClass a) = family_fault sig [] a
class_fault sig (KindClass k) = kind_fault sig [] k

-- The same constant as one of the given classifier: unknown, of another level, of another classifier.
abbrev pub same_fault : Option Class → Class → Option Fault
same_fault None class = Some (here UnknownConstant)
same_fault (Some (FamilyClass a)) (KindClass l) = Some (here Level)
same_fault (Some (KindClass k)) (FamilyClass b) = Some (here Level)
same_fault (Some (FamilyClass a)) (FamilyClass b) = if same_family a b then None else Some (here Mismatch)
same_fault (Some (KindClass k)) (KindClass l) = if same_kind k l then None else Some (here Mismatch)

-- The first fault of a value at a class. The binders of a family value add no number to a path.
abbrev pub value_fault : Signature → Value → Class → Option Fault
value_fault sig (SameAs d) class = same_fault (class_of sig d) class
value_fault sig (TermValue m) (FamilyClass a) = object_fault sig [] m a
value_fault sig (TermValue m) (KindClass k) = Some (here Level)
value_fault sig (FamilyValue n body) (FamilyClass a) = Some (here Level)
value_fault sig (FamilyValue n body) (KindClass k) = if nat_eq n (domain_count k) then family_fault sig (with_domains k []) body else Some (here Mismatch)

abbrev pub optional_value_fault : Signature → Option Value → Class → Option Fault
optional_value_fault sig None class = None
optional_value_fault sig (Some v) class = value_fault sig v class

-- The class before the value: the path begins with 0 for the class and 1 for the value.
abbrev pub declaration_fault : Signature → Declaration → Option Fault
declaration_fault before d = first_fault (inside 0 (class_fault before d.class)) (inside 1 (optional_value_fault before d.value d.class))

-- The first bad declaration of a signature: its place, and its first fault.
pub record BadDeclaration : Type 0 where
  pub index : ℕ
  pub fault : Fault

abbrev pub bad_at : ℕ → Option Fault → Option BadDeclaration → Option BadDeclaration
bad_at i None later = later
bad_at i (Some fault) later = Some (record { index = i; fault = fault })

-- The first fault of the declarations `rest` that stand behind those of `before`.
abbrev pub signature_fault_after : Signature → Signature → Option BadDeclaration
signature_fault_after before [] = None
signature_fault_after before (d ∷ rest) = bad_at (length before) (declaration_fault before d) (signature_fault_after (before ++ (d ∷ [])) rest)

abbrev pub signature_fault : Signature → Option BadDeclaration
signature_fault sig = signature_fault_after [] sig
