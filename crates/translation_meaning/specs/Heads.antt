-- Heads that take arguments, one at a time (Harper and Licata 2007, section 2; definitions that are families are this
-- profile's). What a head is followed by decides nothing: each argument is taken by the head so far.
use Rattle.std.specs.Prelude.{ℕ, zero, suc, List, [], ◌∷◌}
use Rattle.eta_meaning.specs.Below.Terms.{Object, Family, Pi, AtFamily, FamilyApp, Kind, Ty, PiKind}
use Rattle.eta_meaning.specs.Below.Erasure.{erase}
use Rattle.eta_meaning.specs.Below.Substitution.{app, substitute_family, substitute_kind}

-- An object with its classifier, or a family that still has so many binders, with the kind that is left.
pub data Head : Type 0 where
  ObjectHead : (object : Object) → (classifier : Family) → Head
  FamilyHead : (binders : ℕ) → (family : Family) → (kind : Kind) → Head

-- An atomic family takes an argument on its spine. A Π takes none, and stays: no checked term meets this.
abbrev pub family_takes : Family → Object → Family
family_takes (AtFamily p) argument = AtFamily (FamilyApp p argument)
family_takes (Pi domain body) argument = Pi domain body

-- A family with no binder left takes an argument on its spine; one with binders left takes it for its outermost
-- binder, which is the one with the highest number, at the erasure of the domain.
abbrev pub family_head_takes : ℕ → Family → Family → Kind → Object → Head
family_head_takes zero family domain kind argument = FamilyHead zero (family_takes family argument) (substitute_kind argument (erase domain) 0 kind)
family_head_takes (suc binders) family domain kind argument =
    FamilyHead binders (substitute_family argument (erase domain) binders family) (substitute_kind argument (erase domain) 0 kind)

-- Where no domain is left, a family without binders takes the argument on its spine, and one with binders stays: no
-- checked term meets this.
abbrev pub family_head_keeps : ℕ → Family → Object → Head
family_head_keeps zero family argument = FamilyHead zero (family_takes family argument) Ty
family_head_keeps (suc binders) family argument = FamilyHead (suc binders) family Ty

-- The head takes an argument at the erasure of its classifier; the classifier becomes its body with the argument
-- substituted. An object at an atomic classifier takes it as `app` does, and keeps the classifier.
abbrev pub head_takes : Head → Object → Head
head_takes (ObjectHead object (Pi domain body)) argument =
    ObjectHead (app (erase (Pi domain body)) object argument).value (substitute_family argument (erase domain) 0 body)
head_takes (ObjectHead object (AtFamily p)) argument = ObjectHead (app (erase (AtFamily p)) object argument).value (AtFamily p)
head_takes (FamilyHead binders family (PiKind domain kind)) argument = family_head_takes binders family domain kind argument
head_takes (FamilyHead binders family Ty) argument = family_head_keeps binders family argument

-- The head takes arguments from left to right.
unfoldable pub head_takes_all : Head → List Object → Head
head_takes_all head [] = head
head_takes_all head (argument ∷ arguments) = head_takes_all (head_takes head argument) arguments
