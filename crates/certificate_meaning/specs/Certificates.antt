-- Certificates (this profile): lines, the newest first, each of which stands by those above it in the text, which are those behind
-- it in the list. Here a line holds its terms themselves. How a text writes them, by the numbers of lines that hold their parts,
-- is not said here, and neither is the first line of a text, which holds nothing.
use Rattle.std.specs.Prelude.{◌≡◌, List, [], ◌∷◌, ◌++◌, ◌⊎◌, None, ⊤}
use Rattle.lf_meaning.specs.Signatures.{Declaration, Signature, declaration_of}
use Rattle.certificate_meaning.specs.Statements.{Term, Statement}
use Rattle.certificate_meaning.specs.Steps.{Follows, Declares}

-- A line holds a term, a step or a declaration.
pub data Line : Type 0 where
  TermLine : (term : Term) → Line
  StepLine : (statement : Statement) → Line
  DeclarationLine : (declaration : Declaration) → Line

-- The declarations of the lines in the order of the text.
abbrev pub signature_of : List Line → Signature
signature_of [] = []
signature_of (TermLine t ∷ above) = signature_of above
signature_of (StepLine s ∷ above) = signature_of above
signature_of (DeclarationLine d ∷ above) = signature_of above ++ (d ∷ [])

-- The line is among the lines.
abbrev pub Holds : List Line → Line → Type 0
Holds [] line = ⊥
Holds (first ∷ above) line = (first ≡ line) ⊎ Holds above line

-- All of the statements are steps among the lines.
abbrev pub HoldsAll : List Line → List Statement → Type 0
HoldsAll above [] = ⊤
HoldsAll above (s ∷ ss) = Holds above (StepLine s) × HoldsAll above ss

-- A step stands where it follows, over the declarations above, from premises that are steps above.
pub record StepStands (above : List Line) (s : Statement) : Type 0 where
  pub premises : List Statement
  pub are_above : HoldsAll above premises
  pub follows : Follows (signature_of above) s premises

-- A declaration stands where its name is new and steps above show its class and its value over the declarations above.
pub record DeclarationStands (above : List Line) (d : Declaration) : Type 0 where
  pub is_new : declaration_of (signature_of above) d.name ≡ None
  pub premises : List Statement
  pub are_above : HoldsAll above premises
  pub declares : Declares (signature_of above) d.value d.class premises

-- A term stands where it does not stand above. A step may stand more than once.
abbrev pub StandsBelow : List Line → Line → Type 0
StandsBelow above (TermLine t) = Holds above (TermLine t) → ⊥
StandsBelow above (StepLine s) = StepStands above s
StandsBelow above (DeclarationLine d) = DeclarationStands above d

-- Each line stands by those above it.
abbrev pub IsCertificate : List Line → Type 0
IsCertificate [] = ⊤
IsCertificate (line ∷ above) = IsCertificate above × StandsBelow above line

-- A certificate of the signature is one whose declarations are the signature.
pub record IsCertificateOf (sig : Signature) (lines : List Line) : Type 0 where
  pub certificate : IsCertificate lines
  pub signature : signature_of lines ≡ sig
