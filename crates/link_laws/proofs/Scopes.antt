-- The scope of an accepted theory holds.
use Rattle.library_meaning.specs.Faces.{flat_of}
use Rattle.link_laws.proofs.Linked.{declarations_hold}
use Rattle.link_laws.specs.TheoryScopes.{TheoryScopesHold}
use Rattle.link_laws.proofs.Onces.{once_names}
use Rattle.link_laws.proofs.WordsHold.{flat_once}

pub theory_scopes_hold : TheoryScopesHold
theory_scopes_hold environment theory coherent s =
    record { declarations = declarations_hold environment coherent theory s; once = once_names (flat_of environment theory) (flat_once environment coherent theory) }
