-- Laws of the steps of certificates (this profile).
use Rattle.std.specs.Prelude.{◌≡◌, ℕ, List}
use Rattle.lf_meaning.specs.Terms.{Object, Atomic, Simple}
use Rattle.lf_meaning.specs.Replacement.{Headed, Kept, Replaced, replace_head}
use Rattle.lf_meaning.specs.Substitution.{substitution, action}
use Rattle.lf_meaning.specs.Signatures.{Signature}
use Rattle.certificate_meaning.specs.Statements.{Statement, IsTrueOver, AllTrueOver, TypedHead, HeadStays, HeadGoes, typed_head}
use Rattle.certificate_meaning.specs.Steps.{Follows}

-- What follows from true premises is true, for each row.
abbrev pub StepsAreSound : Type 0
StepsAreSound = (sig : Signature) (s : Statement) (premises : List Statement) → Follows sig s premises → AllTrueOver sig premises → IsTrueOver sig s

-- What comes of an atomic object, with the action of its simple type in place of the simple type.
abbrev pub headed_of : TypedHead → Headed
headed_of (HeadStays r) = Kept r
headed_of (HeadGoes v) = Replaced v.value (action v.type)

-- It is what hereditary substitution makes of the atomic object.
abbrev pub TypedHeadIsSubstituted : Type 0
TypedHeadIsSubstituted = (v : Object) (t : Simple) (n : ℕ) (r : Atomic) → headed_of (typed_head v t n r) ≡ replace_head (substitution v (action t)) n r
