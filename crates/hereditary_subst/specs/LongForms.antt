-- A long form as one head with one row of arguments under λs, where `eta_meaning` goes from one domain to the next (Harper and
-- Licata 2007, section 2).
use Rattle.std.specs.Prelude.{ℕ, zero, suc, List, [], ◌∷◌}
use Rattle.lf_meaning.specs.Terms.{Object, Lam, Var, Simple, Base, Arrow}
use Rattle.eta_meaning.specs.LongTerms.{eta}

-- How many domains the simple type has.
abbrev pub arity : Simple → ℕ
arity (Base c) = zero
arity (Arrow s t) = suc (arity t)

-- The object under so many λs.
abbrev pub under_lambdas : ℕ → Object → Object
under_lambdas zero m = m
under_lambdas (suc n) m = Lam (under_lambdas n m)

-- The long forms of the variables of a simple type's domains, from the outermost on, as they are behind all of these domains.
abbrev pub arrow_variables : Simple → List Object
arrow_variables (Base c) = []
arrow_variables (Arrow s t) = eta s (Var (arity t)) ∷ arrow_variables t
