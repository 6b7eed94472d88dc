-- Origins that are found by the names of modules.
use Rattle.std.proofs.Common.{◌≡◌, ◌≤◌, ℕ, Bool, true, false, cond, List, [], ◌∷◌, ◌++◌, length, map, find, take, drop, Option, Some, None, is_some, refl, sym, ap, ◌∙◌, subst, true≢false}
use Rattle.std.specs.Prelude.{option_map}
use Rattle.std.proofs.lemmas.List.{map-append}
use Rattle.name_meaning.specs.Names.{Name, Text, same_name}
use Rattle.name_meaning.specs.Rows.{Rows, row_of, with_row}
use Rattle.name_laws.proofs.Order.{same_sound}
use Rattle.name_laws.proofs.Rows.{row_with}
use Rattle.edit_log_meaning.specs.Log.{Put, Log, library_of, text_of, is_present}
use Rattle.edit_log_laws.proofs.Libraries.{fold_last, text_last}
use Rattle.run_meaning.specs.Files.{File, Origin}
use Rattle.run_meaning.specs.Folders.{origin_named}
use Rattle.mmt_syntax.specs.declared.origin.Origin as shown
use Rattle.folder_load.specs.Shown.{shown_origin}
use Rattle.folder_front.specs.Sheets.{rows_of}

-- ---- the first origin of a name

-- what is found among these, or else this one, if it passes
abbrev pub or_last : {A : Type 0} → (A → Bool) → A → Option A → Option A
or_last p y None = cond (p y) (Some y) None
or_last p y (Some z) = Some z

found_first : {A : Type 0} (p : A → Bool) (b : Bool) (x y : A) (rest found : Option A) → found ≡ or_last p y rest → cond b (Some x) found ≡ or_last p y (cond b (Some x) rest)
found_first p true x y rest found e = refl
found_first p false x y rest found e = e

pub found_last : {A : Type 0} (p : A → Bool) (xs : List A) (y : A) → find p (xs ++ y ∷ []) ≡ or_last p y (find p xs)
found_last p [] y = refl
found_last p (x ∷ xs) y = found_first p (p x) x y (find p xs) (find p (xs ++ y ∷ [])) (found_last p xs y)

-- ---- modules and origins

-- The module of this text came from there: its text stands in the file from the first byte on. With no origin there is no module.
abbrev pub CameFrom : Option Origin → Option Text → Type 0
CameFrom None text = text ≡ None
CameFrom (Some origin) text = (size : ℕ) × (text ≡ Some (take size (drop origin.first origin.file.bytes))) × (origin.first ≤ length origin.file.bytes)

-- Each module of the log came from its origin, which the table has under its name.
pub record AreOrigins (log : Log) (origins : List Origin) : Type 0 where
  pub came : (name : Name) → CameFrom (origin_named origins name) (text_of (library_of log) name)
  pub rows : (name : Name) → row_of (rows_of (map shown_origin origins)) name ≡ option_map shown_origin (origin_named origins name)

pub no_origins : AreOrigins [] []
unfolding library_of text_of row_of
no_origins = record { came = λ name. refl; rows = λ name. refl }

came_none : (origin : Option Origin) (text : Option Text) → CameFrom origin text → is_some text ≡ false → origin ≡ None
came_none None text came absent = refl
came_none (Some origin) text came absent = absurd (true≢false (sym (ap is_some came.1) ∙ absent))

module _ (log : Log) (origins : List Origin) (name : Name) (file : File) (first size : ℕ) (are : AreOrigins log origins) (absent : is_present (library_of log) name ≡ false)
    (within : first ≤ length file.bytes) where
  abbrev text : Text
  text = take size (drop first file.bytes)

  abbrev origin : Origin
  origin = record { name = name; file = file; first = first }

  no_origin : origin_named origins name ≡ None
  no_origin = came_none (origin_named origins name) (text_of (library_of log) name) (are.came name) absent

  named_after : (other : Name) → origin_named (origins ++ origin ∷ []) other ≡ or_last (λ (o : Origin). same_name other o.name) origin (origin_named origins other)
  named_after other = found_last (λ (o : Origin). same_name other o.name) origins origin

  came_by : (other : Name) (same : Bool) (found : Option Origin) → same_name other name ≡ same → origin_named origins other ≡ found
      → CameFrom found (text_of (library_of log) other)
      → CameFrom (or_last (λ (o : Origin). same_name other o.name) origin found) (cond same (Some text) (text_of (library_of log) other))
  came_by other true None e f came = subst (λ (b : Bool). CameFrom (cond b (Some origin) None) (Some text)) (sym e) (size, refl, within)
  came_by other true (Some found) e f came = absurd (clash (sym f ∙ ap (origin_named origins) (same_sound other name e) ∙ no_origin))
    where
      clash : Some found ≡ None → ⊥
      clash g = cc
  came_by other false None e f came = subst (λ (b : Bool). CameFrom (cond b (Some origin) None) (text_of (library_of log) other)) (sym e) came
  came_by other false (Some found) e f came = came

  rows_by : (other : Name) (same : Bool) (found : Option Origin) → same_name other name ≡ same → origin_named origins other ≡ found
      → cond same (Some (shown_origin origin)) (option_map shown_origin found) ≡ option_map shown_origin (or_last (λ (o : Origin). same_name other o.name) origin found)
  rows_by other true None e f = ap (λ (b : Bool). option_map shown_origin (cond b (Some origin) None)) (sym e)
  rows_by other true (Some found) e f = absurd (clash (sym f ∙ ap (origin_named origins) (same_sound other name e) ∙ no_origin))
    where
      clash : Some found ≡ None → ⊥
      clash g = cc
  rows_by other false None e f = ap (λ (b : Bool). option_map shown_origin (cond b (Some origin) None)) (sym e)
  rows_by other false (Some found) e f = refl

  abbrev put_row : Rows shown.Origin → shown.Origin → Rows shown.Origin
  put_row rows o = with_row o.name o rows

  rows_after : rows_of (map shown_origin (origins ++ origin ∷ [])) ≡ with_row name (shown_origin origin) (rows_of (map shown_origin origins))
  rows_after = ap rows_of (map-append shown_origin origins (origin ∷ [])) ∙ fold_last put_row [] (map shown_origin origins) (shown_origin origin)

  -- One module more.
  pub one_origin : AreOrigins (log ++ Put name text ∷ []) (origins ++ origin ∷ [])
  one_origin = record {
    came = λ other.
        subst (λ (o : Option Origin). CameFrom o (text_of (library_of (log ++ Put name text ∷ [])) other)) (sym (named_after other))
        (subst (λ (t : Option Text). CameFrom (or_last (λ (o : Origin). same_name other o.name) origin (origin_named origins other)) t) (sym (text_last log (Put name text) other))
        (came_by other (same_name other name) (origin_named origins other) refl refl (are.came other)));
    rows = λ other.
        ap (λ (rows : Rows shown.Origin). row_of rows other) rows_after ∙ row_with name (shown_origin origin) (rows_of (map shown_origin origins)) other
        ∙ ap (cond (same_name other name) (Some (shown_origin origin))) (are.rows other)
        ∙ rows_by other (same_name other name) (origin_named origins other) refl refl ∙ ap (option_map shown_origin) (sym (named_after other));
  }
