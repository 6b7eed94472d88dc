-- What a family stands for at the kind that it has left, as the rule words it: the family is applied to the long forms of the
-- variables of that kind's domains (this profile).
use Rattle.std.specs.Prelude.{◌≡◌, ℕ, zero, suc}
use Rattle.lf_meaning.specs.Terms.{Var, Family, Kind, Ty, PiKind, Context, domain_count}
use Rattle.lf_meaning.specs.Raising.{raise, raise_family, raise_kind}
use Rattle.lf_meaning.specs.Erasure.{erase}
use Rattle.lf_meaning.specs.Signatures.{Signature}
use Rattle.eta_meaning.specs.LongTerms.{eta}
use Rattle.translation_meaning.specs.Heads.{Head, ObjectHead, FamilyHead, head_takes}
use Rattle.elaborate_meaning.specs.Values.{expanded_family}
use Rattle.elaborate_typing.specs.TypingOfHeads.{HeadTyped}

-- A head behind one more variable. The binders that a family has left stand inside of it.
abbrev pub raised_head : Head → Head
raised_head (ObjectHead object classifier) = ObjectHead (raise 1 0 object) (raise_family 1 0 classifier)
raised_head (FamilyHead binders family kind) = FamilyHead binders (raise_family 1 binders family) (raise_kind 1 0 kind)

-- Behind so many domains of the kind that it has left, one after another, a family takes the long form of the domain's variable.
abbrev pub takes_variables : ℕ → Head → Head
takes_variables zero head = head
takes_variables (suc domains) (FamilyHead binders family (PiKind a k)) = takes_variables domains (head_takes (raised_head (FamilyHead binders family (PiKind a k))) (eta (erase a) (Var 0)))
takes_variables (suc domains) (FamilyHead binders family Ty) = FamilyHead binders family Ty
takes_variables (suc domains) (ObjectHead object classifier) = ObjectHead object classifier

-- Behind all of them it is what it stands for, and no binder is left.
abbrev pub FamilyIsApplied : Type 0
FamilyIsApplied =
    (sig : Signature) (context : Context) (binders : ℕ) (outcome : Family) (kind : Kind) → HeadTyped sig context (FamilyHead binders outcome kind)
    → takes_variables (domain_count kind) (FamilyHead binders outcome kind) ≡ FamilyHead zero (expanded_family kind binders outcome) Ty
