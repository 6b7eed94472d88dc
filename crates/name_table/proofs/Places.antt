-- Rows after a change at a place that a search has found.
use Rattle.std.proofs.Common.{◌≡◌, ℕ, get_or, set, slice_get, Some, None, sym, ap, ◌∙◌}
use Rattle.std.specs.List.{remove}
use Rattle.std.proofs.lemmas.List.{set_split}
use Rattle.name_meaning.specs.Names.{Name}
use Rattle.name_meaning.specs.Rows.{Rows, row_names, IsTable, row_of, with_row, without_row, IsGap}
use Rattle.name_laws.proofs.Rows.{gap_absent, row_at, row_absent, with_row_at, without_row_at, without_absent}
use Rattle.name_laws.proofs.Searching.{got_name}

module _ {A : Type 0} where
  renamed : (row : Name × A) (n : Name) → row.0 ≡ n → row ≡ (n, row.1)
  renamed row n e = ap (λ (z : Name). (z, row.1)) e

  -- the row of a name at its place, and the rows after a new one is written there, or it is taken out
  pub row_found : (rows : Rows A) (i : ℕ) (n : Name) (row : Name × A) → IsTable rows → slice_get (row_names rows) i ≡ Some n → row ≡ get_or rows i row → row_of rows n ≡ Some row.1
  row_found rows i n row t h e =
      let q = got_name (λ (row : Name × A). row.0) rows i n h in
      let same : q.1 ≡ row = sym (q.3 row) ∙ sym e in
      row_at n row.1 rows i t (q.2 ∙ ap Some (same ∙ renamed row n (sym (ap (λ (z : Name × A). z.0) same) ∙ q.4)))

  pub row_set : (rows : Rows A) (i : ℕ) (n : Name) (v : A) → IsTable rows → slice_get (row_names rows) i ≡ Some n → set rows i (n, v) ≡ with_row n v rows
  row_set rows i n v t h = set_split rows i (n, v) (got_name (λ (row : Name × A). row.0) rows i n h).0 ∙ sym (with_row_at n v rows i t h)

  -- a new value under the name that stands there
  pub row_replaced : (rows : Rows A) (i : ℕ) (n : Name) (v : A) (row : Name × A) → IsTable rows → slice_get (row_names rows) i ≡ Some n → row ≡ get_or rows i row → set rows i (row.0, v) ≡ with_row n v rows
  row_replaced rows i n v row t h e =
      let q = got_name (λ (row : Name × A). row.0) rows i n h in
      let same : row.0 ≡ n = ap (λ (z : Name × A). z.0) (e ∙ q.3 row) ∙ q.4 in
      ap (λ (m : Name). set rows i (m, v)) same ∙ row_set rows i n v t h

  pub row_removed : (rows : Rows A) (i : ℕ) (n : Name) → IsTable rows → slice_get (row_names rows) i ≡ Some n → remove rows i ≡ without_row n rows
  row_removed rows i n t h = sym (without_row_at n rows i t h)

  pub row_not_found : (rows : Rows A) (i : ℕ) (n : Name) → IsGap (row_names rows) n i → row_of rows n ≡ None
  row_not_found rows i n g = row_absent n rows (gap_absent n (row_names rows) i g)

  pub row_not_removed : (rows : Rows A) (i : ℕ) (n : Name) → IsGap (row_names rows) n i → without_row n rows ≡ rows
  row_not_removed rows i n g = without_absent n rows (gap_absent n (row_names rows) i g)
