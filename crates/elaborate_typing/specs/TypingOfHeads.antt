-- Heads that are well typed while they take arguments (this profile).
use Rattle.std.specs.Prelude.{◌≡◌, ◌⊎◌}
use Rattle.lf_meaning.specs.Terms.{Object, At, Atomic, Family, Context}
use Rattle.lf_meaning.specs.Signatures.{Signature}
use Rattle.lf_meaning.specs.Judgements.{Checks, Synthesises, IsFamily, IsKind}
use Rattle.translation_meaning.specs.Heads.{Head, ObjectHead, FamilyHead}
use Rattle.translation_typing.specs.FamilyHeads.{FamilyTyped}

-- The object checks against its classifier, or is atomic and synthesises it: at a Π a head without all its arguments does
-- not check.
abbrev pub ObjectTyped : Signature → Context → Object → Family → Type 0
ObjectTyped sig context object classifier = Checks sig context object classifier ⊎ ((r : Atomic) × (object ≡ At r) × Synthesises sig context r classifier)

-- An object of its classifier, which is a family; or a family of the kind that is left, which is a kind.
abbrev pub HeadTyped : Signature → Context → Head → Type 0
HeadTyped sig context (ObjectHead object classifier) = ObjectTyped sig context object classifier × IsFamily sig context classifier
HeadTyped sig context (FamilyHead binders family kind) = FamilyTyped sig context binders family kind × IsKind sig context kind
