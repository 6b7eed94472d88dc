-- What names reach in a graph (this profile).
use Rattle.std.specs.Prelude.{List, [], unwrap_or}
use Rattle.name_meaning.specs.Names.{Name}
use Rattle.name_meaning.specs.Rows.{row_of}
use Rattle.module_graph_meaning.specs.Graphs.{Graph, graph_reach}
use Rattle.list_laws.proofs.Members.{Member}

-- These names are just those that one of the first ones reaches, which are among them, and have their direct dependencies among them.
pub record IsReachOf (graph : Graph) (starts reached : List Name) : Type 0 where
  pub first : (x : Name) → Member x starts → Member x reached
  pub sound : (x : Name) → Member x reached → (start : Name) × Member start starts × Member x (graph_reach graph start)
  pub closed : (x d : Name) → Member x reached → Member d (unwrap_or (row_of graph x) []) → Member d reached
