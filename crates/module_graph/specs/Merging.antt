-- Lists of names in byte order that are merged (this profile).
use Rattle.std.specs.Prelude.{◌≡◌, ◌⊎◌, ◌++◌, ℕ, true, List, take, drop}
use Rattle.name_meaning.specs.Names.{Name, is_ascending}
use Rattle.list_laws.proofs.Members.{Member}

module _ (left right : List Name) where
  -- These names stand in byte order, and are those of both lists.
  pub record IsMerge (names : List Name) : Type 0 where
    pub ascending : is_ascending names ≡ true
    pub comes : (name : Name) → Member name names → Member name left ⊎ Member name right
    pub has_left : (name : Name) → Member name left → Member name names
    pub has_right : (name : Name) → Member name right → Member name names

  -- These names are the first ones of both lists, so many of each, and the others of each list may follow them.
  pub record IsMerging (own other : ℕ) (names : List Name) : Type 0 where
    pub left_on : is_ascending (names ++ drop own left) ≡ true
    pub right_on : is_ascending (names ++ drop other right) ≡ true
    pub comes : (name : Name) → Member name names → Member name left ⊎ Member name right
    pub has_left : (name : Name) → Member name (take own left) → Member name names
    pub has_right : (name : Name) → Member name (take other right) → Member name names
