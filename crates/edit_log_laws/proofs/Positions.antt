-- What stands at a place of a log or of its library.
use Rattle.std.proofs.Common.{◌≡◌, ℕ, zero, suc, ◌<◌, ◌≤◌, List, [], ◌∷◌, ◌++◌, length, slice_get, Some, None, refl, ap, ◌∙◌, arith}
use Rattle.name_meaning.specs.Names.{Name}
use Rattle.edit_log_meaning.specs.Log.{Edit, Log, names_of, library_of, version_of, edit_at, name_at}
use Rattle.list_laws.proofs.Places.{get_behind}

past_last : {A : Type 0} (xs : List A) (i : ℕ) → length xs ≤ i → slice_get xs i ≡ None
past_last [] zero h = refl
past_last [] (suc i) h = refl
past_last (x ∷ xs) zero h = absurd (omega (arith, h))
past_last (x ∷ xs) (suc i) h = past_last xs i (omega (arith, h))

pub edits_at_versions : (before after : Log) (edit : Edit) → edit_at (before ++ edit ∷ after) (suc (version_of before)) ≡ Some edit
unfolding edit_at
edits_at_versions before after edit = get_behind before (edit ∷ after) 0 (length before) (omega arith)

pub no_other_versions : (log : Log) → (edit_at log 0 ≡ None) × ((version : ℕ) → version_of log < version → edit_at log version ≡ None)
unfolding edit_at
no_other_versions log = (refl, by)
  where
    by : (version : ℕ) → version_of log < version → edit_at log version ≡ None
    by zero h = absurd (omega (arith, h))
    by (suc before) h = past_last log before (omega (arith, h))

pub names_in_order : (log : Log) (before after : List Name) (name : Name) → names_of (library_of log) ≡ before ++ name ∷ after → name_at log (length before) ≡ Some name
names_in_order log before after name e = ap (λ (names : List Name). slice_get names (length before)) e ∙ get_behind before (name ∷ after) 0 (length before) (omega arith)

pub no_name_past_last : (log : Log) (i : ℕ) → length (names_of (library_of log)) ≤ i → name_at log i ≡ None
no_name_past_last log i h = past_last (names_of (library_of log)) i h
