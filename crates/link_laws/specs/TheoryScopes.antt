-- The scope of an accepted theory (this profile).
use Rattle.std.specs.Prelude.{IsSome}
use Rattle.name_meaning.specs.Names.{Name}
use Rattle.library_meaning.specs.Faces.{Environment, theory_of, includes_of, own_part}
use Rattle.library_meaning.specs.Coherence.{IsCoherent}
use Rattle.library_meaning.specs.Resolution.{Scope}
use Rattle.constant_laws.specs.ExpansionHolds.{ScopeHolds}

-- All constants of a theory, and what it includes.
abbrev pub theory_scope : Environment → Name → Scope
theory_scope environment theory = record { own = own_part environment theory; includes = includes_of (theory_of environment theory); environment = environment }

-- In a coherent environment the scope of an accepted theory declares each name once, over what stands before it.
abbrev pub TheoryScopesHold : Type 0
TheoryScopesHold = (environment : Environment) (theory : Name) → IsCoherent environment → IsSome (theory_of environment theory) → ScopeHolds (theory_scope environment theory)
