-- Hereditary substitution (Harper and Licata 2007, section 2), made total by this profile: a misfit
-- keeps the value.
use Rattle.std.specs.Prelude.{ℕ, pred, List, [], ◌∷◌, nat_lt, nat_eq, if◌then◌else◌}
use Rattle.lf_meaning.specs.Terms.{Object, Lam, At, Var, Con, App, Family, AtomicFamily, Kind, Simple, Base, Arrow, Context}
use Rattle.lf_meaning.specs.Raising.{raise, map_family, map_atomic_family, map_kind, map_context}
use Rattle.lf_meaning.specs.Replacement.{Action, Stay, Step, Headed, Kept, Replaced, Replacement, replace}

-- What stands in place of variable i where the value is substituted for variable n: variables below
-- n stay, n becomes the value raised by n, and those above n are lowered by one.
abbrev pub substituted : Object → Action → ℕ → ℕ → Headed
substituted v a n i = if nat_lt i n then Kept (Var i) else (if nat_eq i n then Replaced (raise n 0 v) a else Kept (Var (pred i)))

-- The replacement of one variable by a value; constants stay.
abbrev pub substitution : Object → Action → Replacement
substitution v a = record { variable = substituted v a; constant = λ c. Kept (Con c) }

-- What a value at a simple type does with its arguments: at an arrow, the substitution at its domain.
abbrev pub action : Simple → Action
action (Base c) = Stay
action (Arrow s t) = Step (λ v n m. replace (substitution v (action s)) n m) (action t)

-- `[V/t at n] M`: the value V, of simple type t, substituted hereditarily for variable n. V stands
-- outside variable n.
abbrev pub substitute : Object → Simple → ℕ → Object → Object
substitute v t n m = replace (substitution v (action t)) n m

-- Families and kinds pass the substitution down to their objects.
abbrev pub substitute_family : Object → Simple → ℕ → Family → Family
substitute_family v t n a = map_family (substitute v t) n a

abbrev pub substitute_atomic_family : Object → Simple → ℕ → AtomicFamily → AtomicFamily
substitute_atomic_family v t n p = map_atomic_family (substitute v t) n p

abbrev pub substitute_kind : Object → Simple → ℕ → Kind → Kind
substitute_kind v t n k = map_kind (substitute v t) n k

-- Substitution into the families that stand inside of the variable.
abbrev pub substitute_context : Object → Simple → Context → Context
substitute_context v t context = map_context (substitute v t) context

-- A value with its simple type.
pub record Typed : Type 0 where
  pub value : Object
  pub type : Simple

-- `app t V M`: the value V at t applied to M. A λ at an arrow goes on with M in its body; an
-- atomic value takes M as a further argument; a λ at a base drops it. The simple type is the
-- codomain, and at a base it stays.
abbrev pub app : Simple → Object → Object → Typed
app (Arrow s t) (Lam n) m = record { value = substitute m s 0 n; type = t }
app (Arrow s t) (At r) m = record { value = At (App r m); type = t }
app (Base c) (At r) m = record { value = At (App r m); type = Base c }
app (Base c) (Lam n) m = record { value = Lam n; type = Base c }

-- `app` over a list of arguments, from left to right.
abbrev pub reduce_typed : Typed → List Object → Typed
reduce_typed v [] = v
reduce_typed v (m ∷ ms) = reduce_typed (app v.type v.value m) ms

-- The value at a simple type, applied to the arguments.
abbrev pub reduce : Object → Simple → List Object → Object
reduce v t ms = (reduce_typed (record { value = v; type = t }) ms).value
