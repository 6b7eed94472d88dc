-- Each judgement holds exactly where its first fault is none.
use Rattle.std.specs.Prelude.{◌≡◌, ◌↔◌, ◌∷◌, ◌++◌, length, None, Some, Ok}
use Rattle.lf_meaning.specs.Terms.{Object, Atomic, Family, AtomicFamily, Kind, Context}
use Rattle.lf_meaning.specs.Signatures.{Class, Value, Declaration, Signature}
use Rattle.lf_meaning.specs.Judgements.{Checks, Synthesises, SynthesisesKind, IsFamily, IsKind, IsClass, Fits, IsDeclaration, IsSignature}
use Rattle.lf_meaning.specs.Faults.{object_fault, synthesised, synthesised_kind, family_fault, kind_fault, class_fault, value_fault, declaration_fault, BadDeclaration, signature_fault}

abbrev pub ObjectFaultless : Type 0
ObjectFaultless = (sig : Signature) (context : Context) (m : Object) (a : Family) → (object_fault sig context m a ≡ None) ↔ Checks sig context m a

abbrev pub SynthesisFaultless : Type 0
SynthesisFaultless = (sig : Signature) (context : Context) (r : Atomic) (a : Family) → (synthesised sig context r ≡ Ok a) ↔ Synthesises sig context r a

abbrev pub KindSynthesisFaultless : Type 0
KindSynthesisFaultless = (sig : Signature) (context : Context) (p : AtomicFamily) (k : Kind) → (synthesised_kind sig context p ≡ Ok k) ↔ SynthesisesKind sig context p k

abbrev pub FamilyFaultless : Type 0
FamilyFaultless = (sig : Signature) (context : Context) (a : Family) → (family_fault sig context a ≡ None) ↔ IsFamily sig context a

abbrev pub KindFaultless : Type 0
KindFaultless = (sig : Signature) (context : Context) (k : Kind) → (kind_fault sig context k ≡ None) ↔ IsKind sig context k

abbrev pub ClassFaultless : Type 0
ClassFaultless = (sig : Signature) (k : Class) → (class_fault sig k ≡ None) ↔ IsClass sig k

abbrev pub ValueFaultless : Type 0
ValueFaultless = (sig : Signature) (v : Value) (k : Class) → (value_fault sig v k ≡ None) ↔ Fits sig v k

abbrev pub DeclarationFaultless : Type 0
DeclarationFaultless = (sig : Signature) (d : Declaration) → (declaration_fault sig d ≡ None) ↔ IsDeclaration sig d

abbrev pub SignatureFaultless : Type 0
SignatureFaultless = (sig : Signature) → (signature_fault sig ≡ None) ↔ IsSignature sig

-- The declaration that a signature's fault names: those before it make a well-typed signature, and
-- the fault is its own over them.
pub record FirstBad (sig : Signature) (bad : BadDeclaration) : Type 0 where
  pub before : Signature
  pub declaration : Declaration
  pub after : Signature
  pub split : sig ≡ before ++ (declaration ∷ after)
  pub index_is : bad.index ≡ length before
  pub before_is : IsSignature before
  pub fault_is : declaration_fault before declaration ≡ Some bad.fault

abbrev pub SignatureFaultIsFirst : Type 0
SignatureFaultIsFirst = (sig : Signature) (bad : BadDeclaration) → (signature_fault sig ≡ Some bad) ↔ FirstBad sig bad
