-- Heads of families that are well typed while they take arguments (this profile).
use Rattle.std.specs.Prelude.{◌≡◌, ℕ, zero}
use Rattle.lf_meaning.specs.Terms.{Family, AtFamily, AtomicFamily, Kind, Context, domain_count, with_domains}
use Rattle.lf_meaning.specs.Signatures.{Signature}
use Rattle.lf_meaning.specs.Judgements.{SynthesisesKind, IsFamily}

-- A family of this kind. Either it is atomic without binders, and synthesises the kind, so that arguments go on its
-- spine; or it has a binder for each domain of the kind, and is a family behind these.
pub data FamilyTyped (sig : Signature) (context : Context) (binders : ℕ) (family : Family) (kind : Kind) : Type 0 where
  OnSpine : (p : AtomicFamily) → binders ≡ zero → family ≡ AtFamily p → SynthesisesKind sig context p kind → FamilyTyped sig context binders family kind
  UnderBinders : binders ≡ domain_count kind → IsFamily sig (with_domains kind context) family → FamilyTyped sig context binders family kind
