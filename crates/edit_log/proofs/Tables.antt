-- Tables of texts as libraries, and tables of stamps.
use Rattle.std.proofs.Common.{◌≡◌, ℕ, suc, Bool, true, false, not, cond, List, [], ◌∷◌, ◌++◌, length, Option, Some, unwrap_or, refl, sym, ap, ◌∙◌}
use Rattle.std.specs.Map.{lookup}
use Rattle.name_meaning.specs.Names.{Name, Text, same_name, comes_before}
use Rattle.edit_log_meaning.specs.Log.{Edit, edited_name, Log, Module, names_of, with_module, without_module, text_of, version_of, stamp_of}
use Rattle.name_meaning.specs.Rows.{Rows, row_names, row_of, with_row, without_row}
use Rattle.name_laws.proofs.Contained.{same_other_way}
use Rattle.edit_log_laws.proofs.Libraries.{stamp_after_last}
use Rattle.edit_log.specs.Readings.{read_library}
use Rattle.edit_log.specs.Keeping.{stamp_in}

pub text_read : (rows : Rows Text) (n : Name) → text_of (read_library rows) n ≡ row_of rows n
unfolding text_of row_of
text_read [] n = refl
text_read (o ∷ rows) n = ap (cond (same_name n o.0) (Some o.1)) (text_read rows n)

pub read_with : (n : Name) (t : Text) (rows : Rows Text) → read_library (with_row n t rows) ≡ with_module n t (read_library rows)
unfolding with_row with_module
read_with n t [] = refl
read_with n t (o ∷ rows) = by (same_name n o.0) (comes_before n o.0) (read_with n t rows)
  where
    read : Name × Text → Module
    read row = record { name = row.0; text = row.1 }

    by : (same before : Bool) → read_library (with_row n t rows) ≡ with_module n t (read_library rows)
        → read_library (cond same ((n, t) ∷ rows) (cond before ((n, t) ∷ o ∷ rows) (o ∷ with_row n t rows)))
        ≡ cond same (record { name = n; text = t } ∷ read_library rows) (cond before (record { name = n; text = t } ∷ record { name = o.0; text = o.1 } ∷ read_library rows) (record { name = o.0; text = o.1 } ∷ with_module n t (read_library rows)))
    by true before h = refl
    by false true h = refl
    by false false h = ap (λ z. record { name = o.0; text = o.1 } ∷ z) h

pub read_without : (n : Name) (rows : Rows Text) → read_library (without_row n rows) ≡ without_module n (read_library rows)
unfolding without_row without_module
read_without n [] = refl
read_without n (o ∷ rows) = by (same_name n o.0) (read_without n rows)
  where
    by : (same : Bool) → read_library (without_row n rows) ≡ without_module n (read_library rows)
        → read_library (cond (not same) (o ∷ without_row n rows) (without_row n rows))
        ≡ cond (not same) (record { name = o.0; text = o.1 } ∷ without_module n (read_library rows)) (without_module n (read_library rows))
    by true h = h
    by false h = ap (λ z. record { name = o.0; text = o.1 } ∷ z) h

pub names_read : (rows : Rows Text) → names_of (read_library rows) ≡ row_names rows
names_read [] = refl
names_read (o ∷ rows) = ap (λ z. o.0 ∷ z) (names_read rows)

pub length_read : (rows : Rows Text) → length (read_library rows) ≡ length rows
length_read [] = refl
length_read (o ∷ rows) = ap suc (length_read rows)

unwrapped : (b : Bool) (v : ℕ) (old : Option ℕ) → unwrap_or (cond b (Some v) old) 0 ≡ cond b v (unwrap_or old 0)
unwrapped true v old = refl
unwrapped false v old = refl

-- the stamps after an edit, where its version is written under its name
pub stamps_after : (log : Log) (e : Edit) (old new : List (Name × ℕ)) → ((n : Name) → stamp_in old n ≡ stamp_of log n)
    → ((n : Name) → lookup (same_name n) new ≡ cond (same_name (edited_name e) n) (Some (suc (version_of log))) (lookup (same_name n) old))
    → (n : Name) → stamp_in new n ≡ stamp_of (log ++ e ∷ []) n
stamps_after log e old new kept added n =
    ap (λ found. unwrap_or found 0) (added n) ∙ unwrapped (same_name (edited_name e) n) (suc (version_of log)) (lookup (same_name n) old)
    ∙ (λ i. cond (same_other_way (edited_name e) n i) (suc (version_of log)) (kept n i)) ∙ sym (stamp_after_last log e n)
