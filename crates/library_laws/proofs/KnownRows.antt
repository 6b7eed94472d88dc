-- What is known from rows of names.
use Rattle.std.proofs.Common.{◌≡◌, Bool, true, false, cond, [], ◌∷◌, ◌++◌, map, Option, Some, None, refl, ap, ◌∙◌}
use Rattle.std.specs.Prelude.{option_map}
use Rattle.name_meaning.specs.Names.{Name, same_name}
use Rattle.name_meaning.specs.Rows.{Rows, row_of}
use Rattle.name_laws.proofs.RowLookups.{row_pushed, row_mapped}
use Rattle.library_meaning.specs.Faces.{Known}
use Rattle.library_meaning.specs.Environments.{known_or_absent, environment_from}

module _ {A : Type 0} (known_by : A → Known) where
  chosen : (b : Bool) (v : A) (o : Option A) → known_or_absent (option_map known_by (cond b (Some v) o)) ≡ cond b (known_by v) (known_or_absent (option_map known_by o))
  chosen true v o = refl
  chosen false v o = refl

  -- one more row extends what is known at its name alone
  pub known_pushed : (rows : Rows A) (n : Name) (v : A) (m : Name) → row_of rows n ≡ None
      → environment_from known_by (rows ++ (n, v) ∷ []) m ≡ cond (same_name m n) (known_by v) (environment_from known_by rows m)
  known_pushed rows n v m h = ap (λ o. known_or_absent (option_map known_by o)) (row_pushed rows n v m h) ∙ chosen (same_name m n) v (row_of rows m)

mapped_twice : {A B : Type 0} (known_by : B → Known) (f : A → B) (o : Option A) → known_or_absent (option_map known_by (option_map f o)) ≡ known_or_absent (option_map (λ v. known_by (f v)) o)
mapped_twice known_by f None = refl
mapped_twice known_by f (Some v) = refl

-- what is known from rows that are read off others
pub known_mapped : {A B : Type 0} (known_by : B → Known) (f : A → B) (rows : Rows A) (n : Name)
    → environment_from known_by (map (λ (row : Name × A). (row.0, f row.1)) rows) n ≡ environment_from (λ v. known_by (f v)) rows n
known_mapped known_by f rows n = ap (λ o. known_or_absent (option_map known_by o)) (row_mapped f rows n) ∙ mapped_twice known_by f (row_of rows n)
