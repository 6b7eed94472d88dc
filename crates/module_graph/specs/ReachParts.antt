-- Parts of what a name reaches (this profile).
use Rattle.std.specs.Prelude.{◌≡◌, true, List}
use Rattle.name_meaning.specs.Names.{Name, is_ascending}
use Rattle.edit_log_meaning.specs.Log.{Library}
use Rattle.module_graph_meaning.specs.Walks.{Dependencies}
use Rattle.module_graph_meaning.specs.Reach.{reach}
use Rattle.list_laws.proofs.Members.{Member}

-- These names stand in byte order, and are those of all these lists.
pub record IsJoin (lists : List (List Name)) (names : List Name) : Type 0 where
  pub ascending : is_ascending names ≡ true
  pub comes : (name : Name) → Member name names → (list : List Name) × Member list lists × Member name list
  pub has : (list : List Name) (name : Name) → Member list lists → Member name list → Member name names

module _ (dependencies : Dependencies) (library : Library) where
  -- This is what one of these names reaches.
  abbrev pub IsReachAmong : List Name → List Name → Type 0
  IsReachAmong names list = (name : Name) × Member name names × (list ≡ reach dependencies library name)

  -- Each of these lists is what one of the first names reaches, and each of the second names is in one of the lists.
  pub record AreParts (names done : List Name) (lists : List (List Name)) : Type 0 where
    pub reaches : (list : List Name) → Member list lists → IsReachAmong names list
    pub holds : (name : Name) → Member name done → (list : List Name) × Member list lists × Member name list
