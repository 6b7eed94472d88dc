-- The identity theorem: over a well-typed signature and in a well-formed context, the long form of what is typed checks (Harper
-- and Licata 2007, section 2).
use Rattle.std.specs.Prelude.{◌≡◌, ℕ, suc, Some, slice_get}
use Rattle.lf_meaning.specs.Terms.{Object, At, Atomic, Var, Family, AtomicFamily, Kind, Ty, Context, with_domains}
use Rattle.lf_meaning.specs.Raising.{raise_family}
use Rattle.lf_meaning.specs.Erasure.{erase}
use Rattle.lf_meaning.specs.Signatures.{Signature}
use Rattle.lf_meaning.specs.Judgements.{Checks, Synthesises, SynthesisesKind, IsContext, IsSignature}
use Rattle.eta_meaning.specs.LongTerms.{eta, eta_family, expanded}

-- The long form of a typed atomic object, at the erasure of its family, checks against that family.
abbrev pub EtaChecks : Type 0
EtaChecks = (sig : Signature) → IsSignature sig → (context : Context) → IsContext sig context → (r : Atomic) (a : Family) → Synthesises sig context r a → Checks sig context (eta (erase a) r) a

-- So does that of a variable of the context, at its family raised to its place.
abbrev pub EtaOfVariableChecks : Type 0
EtaOfVariableChecks = (sig : Signature) → IsSignature sig → (context : Context) → IsContext sig context → (i : ℕ) (a : Family) → slice_get context i ≡ Some a → Checks sig context (eta (erase (raise_family (suc i) 0 a)) (Var i)) (raise_family (suc i) 0 a)

-- The long form of an atomic family that synthesises a kind is a family behind the domains of that kind.
abbrev pub EtaFamilyIsFamily : Type 0
EtaFamilyIsFamily = (sig : Signature) → IsSignature sig → (context : Context) → IsContext sig context → (p : AtomicFamily) (k : Kind) → SynthesisesKind sig context p k → SynthesisesKind sig (with_domains k context) (eta_family k p) Ty

-- An outcome that is typed at a family stands for an object that checks against it: an atomic one that synthesises it for its
-- long form, and one that checks against it already for itself.
abbrev pub AtomicOutcomeChecks : Type 0
AtomicOutcomeChecks = (sig : Signature) → IsSignature sig → (context : Context) → IsContext sig context → (r : Atomic) (a : Family) → Synthesises sig context r a → Checks sig context (expanded a (At r)) a

abbrev pub CheckedOutcomeStays : Type 0
CheckedOutcomeStays = (sig : Signature) (context : Context) (m : Object) (a : Family) → Checks sig context m a → expanded a m ≡ m
