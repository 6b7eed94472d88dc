-- Long forms of atomic terms (Harper and Licata 2007, section 2: η-expansion at simple types, with which the identity theorem
-- is stated).
use Rattle.lf_meaning.specs.Terms.{Object, Lam, At, Atomic, Var, App, Family, Pi, AtFamily, AtomicFamily, FamilyApp, Kind, Ty, PiKind, Simple, Base, Arrow}
use Rattle.lf_meaning.specs.Raising.{raise_atomic, raise_atomic_family}
use Rattle.lf_meaning.specs.Erasure.{erase}

-- `eta t R`, the long form of R at t: at a base R itself; at an arrow a λ, under which R, raised over the λ's variable, takes
-- that variable's long form at the domain, and the whole is the long form of this application at the codomain.
abbrev pub eta : Simple → Atomic → Object
eta (Base constant) r = At r
eta (Arrow domain codomain) r = Lam (eta codomain (App (raise_atomic 1 0 r) (eta domain (Var 0))))

-- The same for an atomic family P and the domains of a kind (this profile): behind each domain P, raised over its variable,
-- takes that variable's long form at the erasure of the domain. The binders are not part of what comes of it.
abbrev pub eta_family : Kind → AtomicFamily → AtomicFamily
eta_family Ty p = p
eta_family (PiKind a k) p = eta_family k (FamilyApp (raise_atomic_family 1 0 p) (eta (erase a) (Var 0)))

-- What the outcome of a name or an application stands for at a family (this profile): itself where the family is atomic or
-- the outcome is a λ; an atomic outcome at a Π stands for its long form at the erasure of that Π.
abbrev pub expanded : Family → Object → Object
expanded (AtFamily p) outcome = outcome
expanded (Pi a b) (Lam body) = Lam body
expanded (Pi a b) (At r) = eta (erase (Pi a b)) r
