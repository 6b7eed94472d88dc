-- What the steps of a certificate state, and when it is true: raising, erasure, hereditary substitution and the judgements of
-- Canonical LF (Harper and Licata 2007, section 2). That they are stated one node of a term at a time is this profile's.
use Rattle.std.specs.Prelude.{◌≡◌, ℕ, pred, nat_lt, nat_eq, if◌then◌else◌, List, [], ◌∷◌, Option, Some, None, ⊤}
use Rattle.lf_meaning.specs.Terms.{Object, Lam, At, Atomic, Var, Con, App, Family, AtomicFamily, Kind, Simple, Context}
use Rattle.lf_meaning.specs.Raising.{raise, raise_atomic, raise_family, raise_kind}
use Rattle.lf_meaning.specs.Erasure.{erase}
use Rattle.lf_meaning.specs.Substitution.{substitute, substitute_family, substitute_kind, Typed, app}
use Rattle.lf_meaning.specs.Signatures.{Signature}
use Rattle.lf_meaning.specs.Judgements.{Checks, Synthesises, SynthesisesKind, IsFamily, IsKind}

-- What can stand in a line of its own: a kind, a family, an object, an atomic object, a simple type or a context. An atomic
-- family is a family.
pub data Term : Type 0 where
  KindTerm : (kind : Kind) → Term
  FamilyTerm : (family : Family) → Term
  ObjectTerm : (object : Object) → Term
  AtomicTerm : (atomic : Atomic) → Term
  SimpleTerm : (simple : Simple) → Term
  ContextTerm : (context : Context) → Term

-- One constructor for each word that a step can begin with.
pub data Statement : Type 0 where
  -- `after` is `before` raised by `by` from `from`, with `from` counted at the top of the term.
  Raises : (by from : ℕ) (before after : Term) → Statement
  -- `simple` is the erasure of the family.
  Erases : (family : Family) (simple : Simple) → Statement
  -- `after` is `before` with the value, at the simple type, substituted for variable `at`, counted at the top of the term.
  Substitutes : (value : Object) (simple : Simple) (at : ℕ) (before after : Term) → Statement
  -- The same for an atomic object. Where its head is the variable, `after` is the value with the arguments, and `rest` is the
  -- simple type that it has then. Where the head is another one, `after` is an atomic object and `rest` is none.
  SubstitutesAtHead : (value : Object) (simple : Simple) (at : ℕ) (before : Atomic) (after : Object) (rest : Option Simple) → Statement
  -- The value at the simple type, applied to the argument, is `result` at the simple type `rest`.
  Applies : (simple : Simple) (value argument result : Object) (rest : Simple) → Statement
  -- In the context the kind is one.
  KindIn : (context : Context) (kind : Kind) → Statement
  -- In the context the family is one.
  FamilyIn : (context : Context) (family : Family) → Statement
  -- In the context the atomic family synthesises the kind.
  SynthesisesKindIn : (context : Context) (atomic : AtomicFamily) (kind : Kind) → Statement
  -- In the context the object checks against the family.
  ChecksIn : (context : Context) (object : Object) (family : Family) → Statement
  -- In the context the atomic object synthesises the family.
  SynthesisesIn : (context : Context) (atomic : Atomic) (family : Family) → Statement

-- The second term is the first one raised. It is said of kinds, families, objects and atomic objects, each with its own form.
abbrev pub IsRaised : ℕ → ℕ → Term → Term → Type 0
IsRaised by from (KindTerm k) (KindTerm l) = l ≡ raise_kind by from k
IsRaised by from (FamilyTerm a) (FamilyTerm b) = b ≡ raise_family by from a
IsRaised by from (ObjectTerm m) (ObjectTerm n) = n ≡ raise by from m
IsRaised by from (AtomicTerm r) (AtomicTerm s) = s ≡ raise_atomic by from r
IsRaised by from before after = ⊥

-- The second term is the first one with the value substituted. It is said of kinds, families and objects.
abbrev pub IsSubstituted : Object → Simple → ℕ → Term → Term → Type 0
IsSubstituted v t n (KindTerm k) (KindTerm l) = l ≡ substitute_kind v t n k
IsSubstituted v t n (FamilyTerm a) (FamilyTerm b) = b ≡ substitute_family v t n a
IsSubstituted v t n (ObjectTerm m) (ObjectTerm o) = o ≡ substitute v t n m
IsSubstituted v t n before after = ⊥

-- What comes of an atomic object under a substitution: an atomic object, where its head stays, or a value with its simple type,
-- where the head is the variable.
pub data TypedHead : Type 0 where
  HeadStays : (atomic : Atomic) → TypedHead
  HeadGoes : (typed : Typed) → TypedHead

-- It takes an argument, a value by `app`.
abbrev pub typed_takes : TypedHead → Object → TypedHead
typed_takes (HeadStays r) m = HeadStays (App r m)
typed_takes (HeadGoes v) m = HeadGoes (app v.type v.value m)

-- `[V/t at n] R`, with the simple type of what comes of it: a variable below n stays, n is V raised by n, and a variable above n
-- is lowered by one; a constant stays; the arguments are substituted and taken from left to right.
abbrev pub typed_head : Object → Simple → ℕ → Atomic → TypedHead
typed_head v t n (Var i) = if nat_lt i n then HeadStays (Var i) else (if nat_eq i n then HeadGoes (record { value = raise n 0 v; type = t }) else HeadStays (Var (pred i)))
typed_head v t n (Con c) = HeadStays (Con c)
typed_head v t n (App r m) = typed_takes (typed_head v t n r) (substitute v t n m)

-- An object with the rest of a simple type is that value; without one it is the atomic object, and a λ is none.
abbrev pub IsHead : Object → Option Simple → TypedHead → Type 0
IsHead w (Some t) h = h ≡ HeadGoes (record { value = w; type = t })
IsHead (At r) None h = h ≡ HeadStays r
IsHead (Lam m) None h = ⊥

-- When a statement is true over a signature. The first five words do not ask for it.
abbrev pub IsTrueOver : Signature → Statement → Type 0
IsTrueOver sig (Raises by from before after) = IsRaised by from before after
IsTrueOver sig (Erases a s) = s ≡ erase a
IsTrueOver sig (Substitutes v t n before after) = IsSubstituted v t n before after
IsTrueOver sig (SubstitutesAtHead v t n r w rest) = IsHead w rest (typed_head v t n r)
IsTrueOver sig (Applies t v m w rest) = app t v m ≡ record { value = w; type = rest }
IsTrueOver sig (KindIn context k) = IsKind sig context k
IsTrueOver sig (FamilyIn context a) = IsFamily sig context a
IsTrueOver sig (SynthesisesKindIn context p k) = SynthesisesKind sig context p k
IsTrueOver sig (ChecksIn context m a) = Checks sig context m a
IsTrueOver sig (SynthesisesIn context r a) = Synthesises sig context r a

-- All of the statements are true.
abbrev pub AllTrueOver : Signature → List Statement → Type 0
AllTrueOver sig [] = ⊤
AllTrueOver sig (s ∷ ss) = IsTrueOver sig s × AllTrueOver sig ss
