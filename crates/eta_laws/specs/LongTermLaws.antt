-- Laws of long forms, for well-sorted terms: raising and substitution pass through them, that of a variable is the identity, and
-- arguments are taken as the atomic object takes them (Harper and Licata 2007, section 2).
use Rattle.std.specs.Prelude.{◌≡◌, ℕ, suc, ◌+◌, List, [], ◌∷◌, ◌++◌, length}
use Rattle.lf_meaning.specs.Terms.{Constant, Object, At, Atomic, Var, App, Family, AtomicFamily, Kind, Ty, PiKind, Simple, Base, Arrow, SimpleContext, apply_all, family_apply_all, domain_count}
use Rattle.lf_meaning.specs.Raising.{raise, raise_atomic, raise_family, raise_atomic_family, raise_kind, map_kind}
use Rattle.lf_meaning.specs.Erasure.{erase}
use Rattle.lf_meaning.specs.Replacement.{Kept, Replaced, replace_head}
use Rattle.lf_meaning.specs.Substitution.{substitution, action, substitute, substitute_family, substitute_atomic_family, substitute_kind, app, reduce}
use Rattle.lf_meaning.specs.Sorts.{Sorts, HasSort, SynthesisesSort, IsSortedFamily, IsSortedKind}
use Rattle.lf_substitution_laws.specs.Uniform.{rename_bases}
use Rattle.eta_meaning.specs.LongTerms.{eta, eta_family}

-- A long form has the sort at which it is taken.
abbrev pub EtaHasSort : Type 0
EtaHasSort = (sorts : Sorts) (context : SimpleContext) (t : Simple) (r : Atomic) → SynthesisesSort sorts context r t → HasSort sorts context (eta t r) t

-- It depends on the arrows of the simple type alone: with other names for the bases it is the same.
abbrev pub RenamedEta : Type 0
RenamedEta = (bases : Constant → Constant) (t : Simple) (r : Atomic) → eta (rename_bases bases t) r ≡ eta t r

-- Raising passes through a long form to the atomic object.
abbrev pub RaiseEta : Type 0
RaiseEta = (k n : ℕ) (t : Simple) (r : Atomic) → raise k n (eta t r) ≡ eta t (raise_atomic k n r)

-- So it does with that of a family, which stands behind the domains of the kind.
abbrev pub RaiseEtaFamily : Type 0
RaiseEtaFamily = (k n : ℕ) (kind : Kind) (p : AtomicFamily) → raise_atomic_family k (domain_count kind + n) (eta_family kind p) ≡ eta_family kind (raise_atomic_family k n p)

-- A substitution that keeps an atomic object passes through its long form.
abbrev pub SubstituteKeptEta : Type 0
SubstituteKeptEta = (v : Object) (u : Simple) (n : ℕ) (t : Simple) (r kept : Atomic) → replace_head (substitution v (action u)) n r ≡ Kept kept → substitute v u n (eta t r) ≡ eta t kept

-- One that puts a well-sorted value in its place makes the same value of its long form.
abbrev pub SubstituteReplacedEta : Type 0
SubstituteReplacedEta = (sorts : Sorts) (context : SimpleContext) (v : Object) (u : Simple) (n : ℕ) (t : Simple) (r : Atomic) (value : Object) → HasSort sorts context value t → replace_head (substitution v (action u)) n r ≡ Replaced value (action t) → substitute v u n (eta t r) ≡ value

-- So a value that is substituted for a variable takes the place of that variable's long form.
abbrev pub SubstituteEtaOfVariable : Type 0
SubstituteEtaOfVariable = (sorts : Sorts) (after before : SimpleContext) (v : Object) (t : Simple) → HasSort sorts before v t → substitute v t (length after) (eta t (Var (length after))) ≡ raise (length after) 0 v

-- The long form of a family, where the substituted variable stands outside of the domains.
abbrev pub SubstituteEtaFamily : Type 0
SubstituteEtaFamily = (v : Object) (u : Simple) (n : ℕ) (kind : Kind) (p : AtomicFamily) → substitute_atomic_family v u (domain_count kind + n) (eta_family kind p) ≡ eta_family kind (substitute_atomic_family v u n p)

-- The long form of a variable is the identity: a term is raised over a new variable next to one of its own, and the long form of
-- the new one is substituted for its own, which gives the term again.
abbrev pub VariableIsIdentity : Type 0
VariableIsIdentity = (sorts : Sorts) (after before : SimpleContext) (s t : Simple) (m : Object) → HasSort sorts (after ++ (s ∷ before)) m t → substitute (eta s (Var 0)) s (length after) (raise 1 (suc (length after)) m) ≡ m

abbrev pub VariableIsIdentityInFamilies : Type 0
VariableIsIdentityInFamilies = (sorts : Sorts) (after before : SimpleContext) (s : Simple) (a : Family) → IsSortedFamily sorts (after ++ (s ∷ before)) a → substitute_family (eta s (Var 0)) s (length after) (raise_family 1 (suc (length after)) a) ≡ a

abbrev pub VariableIsIdentityInKinds : Type 0
VariableIsIdentityInKinds = (sorts : Sorts) (after before : SimpleContext) (s : Simple) (k : Kind) → IsSortedKind sorts (after ++ (s ∷ before)) k → substitute_kind (eta s (Var 0)) s (length after) (raise_kind 1 (suc (length after)) k) ≡ k

-- The arguments are as many as the simple type has domains, and each has the sort of its domain.
abbrev pub FillDomains : Sorts → SimpleContext → Simple → List Object → Type 0
FillDomains sorts context (Base c) [] = Unit {0}
FillDomains sorts context (Base c) (m ∷ ms) = ⊥
FillDomains sorts context (Arrow s t) [] = ⊥
FillDomains sorts context (Arrow s t) (m ∷ ms) = HasSort sorts context m s × FillDomains sorts context t ms

-- A long form takes a well-sorted argument by `app`, and becomes that of the atomic object with this argument.
abbrev pub EtaTakesOne : Type 0
EtaTakesOne = (sorts : Sorts) (context : SimpleContext) (s t : Simple) (r : Atomic) (m : Object) → HasSort sorts context m s → app (Arrow s t) (eta (Arrow s t) r) m ≡ record { value = eta t (App r m); type = t }

-- With as many arguments as the simple type has domains it is the atomic object with these arguments.
abbrev pub EtaTakesAll : Type 0
EtaTakesAll = (sorts : Sorts) (context : SimpleContext) (t : Simple) (r : Atomic) (ms : List Object) → FillDomains sorts context t ms → reduce (eta t r) t ms ≡ At (apply_all r ms)

-- The long forms of the variables of a kind's domains, from the outermost on, as they are behind all of these domains.
abbrev pub domain_variables : Kind → List Object
domain_variables Ty = []
domain_variables (PiKind a k) = eta (erase a) (Var (domain_count k)) ∷ domain_variables k

-- The long form of a family is the family, raised over the domains, applied to the long forms of their variables.
abbrev pub EtaFamilyIsApplied : Type 0
EtaFamilyIsApplied = (k : Kind) (p : AtomicFamily) → eta_family k p ≡ family_apply_all (raise_atomic_family (domain_count k) 0 p) (domain_variables k)

-- It depends on the erasures of the domains alone, which what is done to the objects in them leaves.
abbrev pub EtaFamilyKeepsErasures : Type 0
EtaFamilyKeepsErasures = (f : ℕ → Object → Object) (n : ℕ) (k : Kind) (p : AtomicFamily) → eta_family (map_kind f n k) p ≡ eta_family k p
