-- What reaches a path, found name by name.
use Rattle.std.proofs.Common.{◌≡◌, ℕ, suc, ◌≤◌, false, ◌||◌, List, take, length, None, refl, ◌∙◌}
use Rattle.name_meaning.specs.Names.{Path}
use Rattle.link_meaning.specs.Assignments.{Assigned, Covering, Sharing, Giving}
use Rattle.link_setting.proofs.Beginnings.{begins_next}
use Rattle.link_passes.specs.Targets.{earlier_of, first_that, gives_at, reaches, shares_at, shares_before}
use Rattle.link_passes.proofs.FirstNumbers.{first_alike, first_none, first_of_two}

-- No structure stands at a beginning of less than no names.
pub none_before : (path : Path) (items : List Assigned) → first_that (shares_before 0 path) items ≡ None
none_before path items = first_alike (shares_before 0 path) (λ item. false) items none ∙ first_none items
  where
    none : (item : Assigned) → shares_before 0 path item ≡ false
    none (Covering first by) = refl
    none (Sharing target structure first by) = refl
    none (Giving target value) = refl

-- The next longer beginning.
pub next_before : (path : Path) (count : ℕ) (items : List Assigned) → count ≤ length path
    → first_that (shares_before (suc count) path) items ≡ earlier_of (first_that (shares_before count path) items) (first_that (shares_at (take count path)) items)
next_before path count items within =
    first_alike (shares_before (suc count) path) (λ item. shares_before count path item || shares_at (take count path) item) items next
    ∙ first_of_two (shares_before count path) (shares_at (take count path)) items
  where
    next : (item : Assigned) → shares_before (suc count) path item ≡ (shares_before count path item || shares_at (take count path) item)
    next (Covering first by) = refl
    next (Sharing target structure first by) = begins_next count path target within
    next (Giving target value) = refl

-- With the whole path they are what reaches it.
pub all_before : (path : Path) (items : List Assigned) → first_that (reaches path) items ≡ earlier_of (first_that (shares_before (length path) path) items) (first_that (gives_at path) items)
all_before path items = first_of_two (shares_before (length path) path) (gives_at path) items
