-- Laws of certificates (this profile).
use Rattle.std.specs.Prelude.{◌≡◌, List, ◌∷◌, ◌++◌, Option, Some, None, ⊤}
use Rattle.lf_meaning.specs.Signatures.{Signature, Declaration, declaration_of, Value, SameAs, TermValue, FamilyValue}
use Rattle.lf_meaning.specs.Judgements.{IsSignature}
use Rattle.certificate_meaning.specs.Statements.{Statement, IsTrueOver}
use Rattle.certificate_meaning.specs.Steps.{IsNoConstant, IsNoConstantFamily}
use Rattle.certificate_meaning.specs.Certificates.{Line, StepLine, signature_of, IsCertificate, IsCertificateOf}

-- A signature with a certificate is well typed.
abbrev pub CertifiedIsTyped : Type 0
CertifiedIsTyped = (sig : Signature) (lines : List Line) → IsCertificateOf sig lines → IsSignature sig

-- Each step of a certificate is true over the declarations above it.
abbrev pub StepsAreTrue : Type 0
StepsAreTrue = (lines : List Line) → IsCertificate lines → (below above : List Line) (s : Statement) → lines ≡ below ++ (StepLine s ∷ above) → IsTrueOver (signature_of above) s

-- Lines are a certificate of one signature at most.
abbrev pub CertifiedIsUnique : Type 0
CertifiedIsUnique = (first second : Signature) (lines : List Line) → IsCertificateOf first lines → IsCertificateOf second lines → first ≡ second

-- No name is declared twice.
abbrev pub NamesAreDistinct : Signature → Type 0
NamesAreDistinct sig = (before : Signature) (d : Declaration) (after : Signature) → sig ≡ before ++ (d ∷ after) → declaration_of before d.name ≡ None

-- The names in a certificate are distinct.
abbrev pub CertifiedIsDistinct : Type 0
CertifiedIsDistinct = (sig : Signature) (lines : List Line) → IsCertificateOf sig lines → NamesAreDistinct sig

-- A value is normal where it is one constant without arguments only as `SameAs`.
abbrev pub IsNormal : Option Value → Type 0
IsNormal None = ⊤
IsNormal (Some (SameAs d)) = ⊤
IsNormal (Some (TermValue m)) = IsNoConstant m
IsNormal (Some (FamilyValue n a)) = IsNoConstantFamily n a

-- Each value is normal.
abbrev pub ValuesAreNormal : Signature → Type 0
ValuesAreNormal sig = (before : Signature) (d : Declaration) (after : Signature) → sig ≡ before ++ (d ∷ after) → IsNormal d.value

-- The values in a certificate are normal.
abbrev pub CertifiedIsNormal : Type 0
CertifiedIsNormal = (sig : Signature) (lines : List Line) → IsCertificateOf sig lines → ValuesAreNormal sig

-- A well-typed signature with distinct names and normal values has a certificate.
abbrev pub TypedIsCertified : Type 0
TypedIsCertified = (sig : Signature) → IsSignature sig → NamesAreDistinct sig → ValuesAreNormal sig → (lines : List Line) × IsCertificateOf sig lines
