-- What the answers of this crate say, in the words of the definitions.
use Rattle.std.specs.Prelude.{◌≡◌, Option, Some, None, Result, Ok, Err, IfSome, MatchOption, slice_get, take, ⊤}
use Rattle.lf_meaning.specs.Signatures.{Declaration, Signature}
use Rattle.lf_meaning.specs.Judgements.{IsDeclaration, IsSignature}
use Rattle.lf_meaning.specs.Faults.{Fault, BadDeclaration}
use Rattle.lf_meaning.specs.Faults as meant
use Rattle.lf_check.specs.declared.faults.LfFault.{LfFault}
use Rattle.lf_check.specs.declared.faults.LfFault.TheVariants as fault
use Rattle.lf_check.specs.declared.faults.SigFault.{SigFault}
use Rattle.lf_check.specs.declared.faults.SigFault.TheVariants as bad

-- The fault, with its kind and its place; none for want of memory.
abbrev pub fault_of : LfFault → Option Fault
fault_of (fault.UnknownConstant at) = Some (record { kind = meant.UnknownConstant; at = at })
fault_of (fault.NotAFunction at) = Some (record { kind = meant.NotAFunction; at = at })
fault_of (fault.NotCanonical at) = Some (record { kind = meant.NotCanonical; at = at })
fault_of (fault.Mismatch at) = Some (record { kind = meant.Mismatch; at = at })
fault_of (fault.Level at) = Some (record { kind = meant.Level; at = at })
fault_of fault.Memory = None

-- A check that answers: Ok where there is no fault, else the first one. Want of memory says nothing.
abbrev pub Answers : Result (Unit {0}) LfFault → Option Fault → Type 0
Answers (Ok _) first = first ≡ None
Answers (Err e) first = IfSome (fault_of e) (λ f. first ≡ Some f)

-- A synthesis that answers: with what the definitions find, or its first fault.
abbrev pub AnswersWith : {A B : Type 0} → (A → B) → Result A LfFault → Result B Fault → Type 0
AnswersWith read (Ok a) found = found ≡ Ok (read a)
AnswersWith read (Err e) found = IfSome (fault_of e) (λ f. found ≡ Err f)

-- The fault refutes what is claimed. Want of memory says nothing.
abbrev pub Refutes : LfFault → Type 0 → Type 0
Refutes e P = IfSome (fault_of e) (λ _. P → ⊥)

-- The first bad declaration, with its first fault, which is no want of memory. Want of memory itself says nothing.
abbrev pub IsFirstBad : SigFault → Option BadDeclaration → Type 0
IsFirstBad (bad.Bad index e) first = MatchOption (fault_of e) ⊥ (λ f. first ≡ Some (record { index = index; fault = f }))
IsFirstBad bad.Memory first = ⊤

-- A check of a signature that answers: Ok where there is no bad declaration, else the first one.
abbrev pub AnswersSignature : Result (Unit {0}) SigFault → Option BadDeclaration → Type 0
AnswersSignature (Ok _) first = first ≡ None
AnswersSignature (Err e) first = IsFirstBad e first

-- The answer refutes that the signature is well typed. Want of memory says nothing.
abbrev pub RefutesSignature : SigFault → Type 0 → Type 0
RefutesSignature (bad.Bad index e) P = P → ⊥
RefutesSignature bad.Memory P = ⊤

-- The declarations before the bad one are well typed, and it is none over them. Want of memory says nothing.
abbrev pub IsBadOf : SigFault → Signature → Type 0
IsBadOf (bad.Bad index e) sig = IsSignature (take index sig) × (d : Declaration) × (slice_get sig index ≡ Some d) × (IsDeclaration (take index sig) d → ⊥)
IsBadOf bad.Memory sig = ⊤
