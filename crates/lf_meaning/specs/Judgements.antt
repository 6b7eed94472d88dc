-- The judgements of Canonical LF over a flat signature (Harper and Licata 2007, section 2).
use Rattle.std.specs.Prelude.{◌≡◌, ℕ, suc, [], ◌∷◌, ◌++◌, Option, Some, None, slice_get, ⊤}
use Rattle.lf_meaning.specs.Terms.{Object, Lam, At, Atomic, Var, Con, App, Family, Pi, AtFamily, AtomicFamily, FamilyCon, FamilyApp, Kind, Ty, PiKind, Context, domain_count, with_domains}
use Rattle.lf_meaning.specs.Raising.{raise_family}
use Rattle.lf_meaning.specs.Erasure.{erase}
use Rattle.lf_meaning.specs.Substitution.{substitute_family, substitute_kind}
use Rattle.lf_meaning.specs.Signatures.{Class, FamilyClass, KindClass, Value, SameAs, TermValue, FamilyValue, Declaration, Signature, class_of}

-- A variable synthesises its family of the context, raised to its place.
pub record VariableHas (context : Context) (i : ℕ) (a : Family) : Type 0 where
  pub family : Family
  pub found : slice_get context i ≡ Some family
  pub is : a ≡ raise_family (suc i) 0 family

-- Where the head synthesises a Π and the argument checks against its domain, the application
-- synthesises the body with the argument substituted at the erasure of the domain.
pub record ApplicationHas (head : Family → Type 0) (argument : Object) (checks : Family → Type 0) (a : Family) : Type 0 where
  pub domain : Family
  pub body : Family
  pub head_has : head (Pi domain body)
  pub argument_has : checks domain
  pub is : a ≡ substitute_family argument (erase domain) 0 body

-- `Checks S G M A`: over the signature S and in the context G the object M checks against A.
-- `Synthesises S G R A`: the atomic object R synthesises A.
abbrev mutual
  pub Checks : Signature → Context → Object → Family → Type 0
  Checks sig context (Lam m) (Pi a b) = Checks sig (a ∷ context) m b
  Checks sig context (Lam m) (AtFamily p) = ⊥
  Checks sig context (At r) (Pi a b) = ⊥
  Checks sig context (At r) (AtFamily p) = Synthesises sig context r (AtFamily p)

  pub Synthesises : Signature → Context → Atomic → Family → Type 0
  Synthesises sig context (Var i) a = VariableHas context i a
  Synthesises sig context (Con c) a = class_of sig c ≡ Some (FamilyClass a)
  Synthesises sig context (App r m) a = ApplicationHas (Synthesises sig context r) m (Checks sig context m) a

-- The same for atomic families, with kinds.
pub record FamilyApplicationHas (head : Kind → Type 0) (argument : Object) (checks : Family → Type 0) (k : Kind) : Type 0 where
  pub domain : Family
  pub body : Kind
  pub head_has : head (PiKind domain body)
  pub argument_has : checks domain
  pub is : k ≡ substitute_kind argument (erase domain) 0 body

abbrev pub SynthesisesKind : Signature → Context → AtomicFamily → Kind → Type 0
SynthesisesKind sig context (FamilyCon c) k = class_of sig c ≡ Some (KindClass k)
SynthesisesKind sig context (FamilyApp p m) k = FamilyApplicationHas (SynthesisesKind sig context p) m (Checks sig context m) k

-- `Pi A B` is a family where A is one and B is one behind it; an atomic family is one where it
-- synthesises `type`.
abbrev pub IsFamily : Signature → Context → Family → Type 0
IsFamily sig context (Pi a b) = IsFamily sig context a × IsFamily sig (a ∷ context) b
IsFamily sig context (AtFamily p) = SynthesisesKind sig context p Ty

-- `type` is a kind; `Pi A K` is one where A is a family and K is a kind behind it.
abbrev pub IsKind : Signature → Context → Kind → Type 0
IsKind sig context Ty = ⊤
IsKind sig context (PiKind a k) = IsFamily sig context a × IsKind sig (a ∷ context) k

-- A context is well formed where each of its families is one over those before it.
abbrev pub IsContext : Signature → Context → Type 0
IsContext sig [] = ⊤
IsContext sig (a ∷ context) = IsContext sig context × IsFamily sig context a

-- A typing judgement: a well-formed context, a family in it, and an object that checks against the
-- family.
pub record IsTyping (sig : Signature) (context : Context) (m : Object) (a : Family) : Type 0 where
  pub context_is : IsContext sig context
  pub family_is : IsFamily sig context a
  pub object_checks : Checks sig context m a

-- A class is a family or a kind, in no context.
abbrev pub IsClass : Signature → Class → Type 0
IsClass sig (FamilyClass a) = IsFamily sig [] a
IsClass sig (KindClass k) = IsKind sig [] k

-- A value fits a class (this profile): `SameAs d` where d is a constant with that classifier; an
-- object where it checks against it; a family with n binders where the class is a kind with n
-- domains and the body is a family behind them.
abbrev pub Fits : Signature → Value → Class → Type 0
Fits sig (SameAs d) class = class_of sig d ≡ Some class
Fits sig (TermValue m) (FamilyClass a) = Checks sig [] m a
Fits sig (TermValue m) (KindClass k) = ⊥
Fits sig (FamilyValue n body) (FamilyClass a) = ⊥
Fits sig (FamilyValue n body) (KindClass k) = (n ≡ domain_count k) × IsFamily sig (with_domains k []) body

-- The value of a declaration, where it has one, fits its class.
abbrev pub ValueFits : Signature → Option Value → Class → Type 0
ValueFits sig None class = ⊤
ValueFits sig (Some v) class = Fits sig v class

pub record IsDeclaration (before : Signature) (d : Declaration) : Type 0 where
  pub class_is : IsClass before d.class
  pub value_fits : ValueFits before d.value d.class

-- A signature is well typed where each declaration, over the undefined ones before it, has a family
-- or a kind as its class and, where it is defined, a value that fits that class.
abbrev pub IsSignature : Signature → Type 0
IsSignature sig = (before : Signature) (d : Declaration) (after : Signature) → sig ≡ before ++ (d ∷ after) → IsDeclaration before d
