-- Laws of texts that write certificates (this profile). A text that memory holds has fewer than 2^64 bytes.
use Rattle.std.specs.Prelude.{◌≡◌, ◌<◌, ◌^◌, ℕ, List, length}
use Rattle.lf_meaning.specs.Signatures.{Signature}
use Rattle.certificate_meaning.specs.Certificates.{Line, IsCertificate}
use Rattle.certificate_meaning.specs.Texts.{Writes, IsTextOf, IsBadAt}

-- The lines that a text writes are a certificate.
abbrev pub WrittenIsCertified : Type 0
WrittenIsCertified = (text : List ℕ) (lines : List Line) → Writes text lines → IsCertificate lines

-- A text writes at most one certificate.
abbrev pub WrittenIsOne : Type 0
WrittenIsOne = (text : List ℕ) (first second : List Line) → length text < 2 ^ 64 → Writes text first → Writes text second → first ≡ second

-- A text is a certificate of at most one signature.
abbrev pub SignatureIsOne : Type 0
SignatureIsOne = (text : List ℕ) (first second : Signature) → length text < 2 ^ 64 → IsTextOf first text → IsTextOf second text → first ≡ second

-- A text with a line that is none of a certificate is no certificate.
abbrev pub BadIsNone : Type 0
BadIsNone = (text : List ℕ) (number : ℕ) (sig : Signature) → length text < 2 ^ 64 → IsBadAt text number → IsTextOf sig text → ⊥

-- At most one line is the first that is none of a certificate.
abbrev pub BadIsOne : Type 0
BadIsOne = (text : List ℕ) (first second : ℕ) → length text < 2 ^ 64 → IsBadAt text first → IsBadAt text second → first ≡ second
