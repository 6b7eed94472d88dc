-- What a head holds while it takes arguments (this profile).
use Rattle.std.specs.Prelude.{◌≡◌, ℕ, zero, ◌+◌}
use Rattle.lf_meaning.specs.Terms.{Family, AtFamily, AtomicFamily, family_argument_count, domain_count}
use Rattle.lf_meaning.specs.Erasure.{head_constant}
use Rattle.lf_meaning.specs.Signatures.{Signature}
use Rattle.translation_meaning.specs.Heads.{Head, ObjectHead, FamilyHead}
use Rattle.library_meaning.specs.Holding.{IsFamilyConstant, ObjectHolds, ArgumentsHold, FamilyHolds, KindHolds}
use Rattle.translation_meaning.specs.AtomicFamilies.{IsAtomicFamily}

-- With so many variables around it, a family that still misses so many arguments holds only these, its binders, and
-- constants of the signature. Either it is atomic and has a binder for each argument that it misses, or it is a constant on
-- its spine, with as many arguments as its kind has domains but those that it misses.
pub data PartlyHolds (signature : Signature) (variables binders missing : ℕ) (family : Family) : Type 0 where
  UnderBinders : binders ≡ missing → FamilyHolds signature (variables + binders) family → IsAtomicFamily family → PartlyHolds signature variables binders missing family
  OnSpine : (p : AtomicFamily) → binders ≡ zero → family ≡ AtFamily p → IsFamilyConstant signature (head_constant p) (family_argument_count p + missing) → ArgumentsHold signature variables p
      → PartlyHolds signature variables binders missing family

-- So does a head, with its classifier or the kind that is left. A family misses an argument for each domain of that kind.
abbrev pub HeadHolds : Signature → ℕ → Head → Type 0
HeadHolds signature variables (ObjectHead object classifier) = ObjectHolds signature variables object × FamilyHolds signature variables classifier
HeadHolds signature variables (FamilyHead binders family kind) = PartlyHolds signature variables binders (domain_count kind) family × KindHolds signature variables kind
