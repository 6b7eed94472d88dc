-- Substitutions that meet no misfit: wherever a value that was put in place of a variable takes an
-- argument, it is a λ at an arrow (Harper and Licata 2007, section 2: there a misfit has no
-- result).
use Rattle.std.specs.Prelude.{◌≡◌, ℕ, suc, [], ◌∷◌, length}
use Rattle.lf_meaning.specs.Terms.{Constant, Object, Lam, At, Atomic, Var, Con, App, Family, Pi, AtFamily, AtomicFamily, FamilyCon, FamilyApp, Context, Simple, Arrow}
use Rattle.lf_meaning.specs.Replacement.{Kept, Replaced, replace_head}
use Rattle.lf_meaning.specs.Substitution.{substitution, action, substitute}

-- `NoMisfit V t n M`: no step of `[V/t at n] M` meets a misfit. A kept head takes any argument. A
-- replaced head takes one where it is a λ at an arrow and the substitution that this begins meets
-- no misfit either.
mutual
  pub data NoMisfit : Object → Simple → ℕ → Object → Type 0 where
    in_body : {v : Object} {t : Simple} {n : ℕ} {m : Object} → NoMisfit v t (suc n) m → NoMisfit v t n (Lam m)
    in_atomic : {v : Object} {t : Simple} {n : ℕ} {r : Atomic} → NoHeadMisfit v t n r → NoMisfit v t n (At r)

  pub data NoHeadMisfit : Object → Simple → ℕ → Atomic → Type 0 where
    at_variable : {v : Object} {t : Simple} {n i : ℕ} → NoHeadMisfit v t n (Var i)
    at_constant : {v : Object} {t : Simple} {n : ℕ} {c : Constant} → NoHeadMisfit v t n (Con c)
    head_kept : {v : Object} {t : Simple} {n : ℕ} {r kept : Atomic} {m : Object} → NoHeadMisfit v t n r → NoMisfit v t n m → replace_head (substitution v (action t)) n r ≡ Kept kept → NoHeadMisfit v t n (App r m)
    goes_on : {v : Object} {t : Simple} {n : ℕ} {r : Atomic} {m body : Object} {domain : Simple} (codomain : Simple) → NoHeadMisfit v t n r → NoMisfit v t n m → replace_head (substitution v (action t)) n r ≡ Replaced (Lam body) (action (Arrow domain codomain)) → NoMisfit (substitute v t n m) domain 0 body → NoHeadMisfit v t n (App r m)

-- The same for the objects of a family.
abbrev pub NoMisfitInAtomicFamily : Object → Simple → ℕ → AtomicFamily → Type 0
NoMisfitInAtomicFamily v t n (FamilyCon c) = Unit {0}
NoMisfitInAtomicFamily v t n (FamilyApp p m) = NoMisfitInAtomicFamily v t n p × NoMisfit v t n m

abbrev pub NoMisfitInFamily : Object → Simple → ℕ → Family → Type 0
NoMisfitInFamily v t n (Pi a b) = NoMisfitInFamily v t n a × NoMisfitInFamily v t (suc n) b
NoMisfitInFamily v t n (AtFamily p) = NoMisfitInAtomicFamily v t n p

-- The same for the families of a context that stands inside of the variable: behind each stand as many
-- as come after it in the list.
abbrev pub NoMisfitInContext : Object → Simple → Context → Type 0
NoMisfitInContext v t [] = Unit {0}
NoMisfitInContext v t (a ∷ context) = NoMisfitInFamily v t (length context) a × NoMisfitInContext v t context
