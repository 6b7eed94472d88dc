-- Laws of the inclusion closure (this profile).
use Rattle.std.specs.Prelude.{◌≡◌, ◌↔◌, ◌⊎◌, true, List, [], flat_map}
use Rattle.name_meaning.specs.Names.{Name}
use Rattle.library_meaning.specs.Faces.{Environment, theory_of, includes_of}
use Rattle.library_meaning.specs.Closure.{sees, with_all, brought, with_inclusion, closure_of}
use Rattle.library_meaning.specs.Coherence.{IsClosure}

-- One more inclusion leaves a closure a closure, where what it includes is a closure itself.
abbrev pub InclusionKeepsClosure : Type 0
InclusionKeepsClosure =
    (environment : Environment) (closure : List Name) (theory : Name) → IsClosure environment closure → IsClosure environment (includes_of (theory_of environment theory))
    → IsClosure environment (with_inclusion environment closure theory)

-- The closure of a theory lists each theory once, and behind what it includes, where the closures of what it includes
-- directly do.
abbrev pub ClosureIsClosure : Type 0
ClosureIsClosure =
    (environment : Environment) (inclusions : List Name) → ((theory : Name) → sees inclusions theory ≡ true → IsClosure environment (includes_of (theory_of environment theory)))
    → IsClosure environment (closure_of environment inclusions)

-- The inclusion of the one theory brings the other: it is that theory itself, or one that it includes. What is no
-- accepted theory includes nothing, and brings its name alone; no module that includes it is accepted.
abbrev pub Brings : Environment → Name → Name → Type 0
Brings environment theory other = (other ≡ theory) ⊎ (sees (includes_of (theory_of environment theory)) other ≡ true)

-- After one more inclusion a closure has exactly what it had and what the inclusion brings.
abbrev pub InclusionAdds : Type 0
InclusionAdds =
    (environment : Environment) (closure : List Name) (theory other : Name)
    → (sees (with_inclusion environment closure theory) other ≡ true) ↔ ((sees closure other ≡ true) ⊎ Brings environment theory other)

-- The closure of a theory has exactly the theories that one of its inclusions brings: those that it includes directly,
-- and those in the closures of these.
abbrev pub ClosureHasExactly : Type 0
ClosureHasExactly =
    (environment : Environment) (inclusions : List Name) (other : Name)
    → (sees (closure_of environment inclusions) other ≡ true) ↔ ((theory : Name) × (sees inclusions theory ≡ true) × Brings environment theory other)

-- The closure is what the inclusions bring, one after the other in the order of the text, the first of equal names
-- alone.
abbrev pub ClosureInOrder : Type 0
ClosureInOrder = (environment : Environment) (inclusions : List Name) → closure_of environment inclusions ≡ with_all [] (flat_map (brought environment) inclusions)
