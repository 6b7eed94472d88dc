-- Dependencies that were read before an edit is made (this profile).
use Rattle.std.specs.Prelude.{◌≡◌, ⊤, List, Option, IfSome}
use Rattle.name_meaning.specs.Names.{Name}
use Rattle.edit_log_meaning.specs.Log.{Edit, Put, Drop}
use Rattle.module_graph_meaning.specs.Walks.{Dependencies}

-- Where there are any, they are those of the text that is put.
abbrev pub AreReadBefore : Dependencies → Edit → Option (List Name) → Type 0
AreReadBefore dependencies (Put name text) known = IfSome known (λ names. names ≡ dependencies name text)
AreReadBefore dependencies (Drop name) known = ⊤
