-- Laws of folders in memory.
use Rattle.std.proofs.Common.{◌≡◌, ◌≢◌, ℕ, suc, ◌<◌, ◌≤◌, Bool, true, false, not, ◌&&◌, ◌||◌, cond, List, [], ◌∷◌, ◌++◌, length, map, fold, drop, get_or, Some, None, is_some, Contains, AllPairs, refl, sym, ap, ◌∙◌, subst, true≢false, arith}
use Rattle.std.specs.List.{list_any}
use Rattle.std.specs.Str.{bytes_eq}
use Rattle.std.proofs.Math.ListN.{get_or-map}
use Rattle.std.proofs.Math.Seq.{drop-cons}
use Rattle.std.proofs.Math.Bool.{or_assoc, or-false}
use Rattle.std.proofs.lemmas.List.{drop_all}
use Rattle.std.proofs.lemmas.List.Folds.{list_any-append, list_any_at}
use Rattle.std.proofs.lemmas.List.Quantifiers.{all_pairs_push}
use Rattle.std.proofs.lemmas.Slice.Eq.{bytes_eq-Decides}
use Rattle.mmt_outside.specs.Files.{IsListing}
use Rattle.mmt_outside.specs.Folders.{File, has_place, bytes_of, with_file, names_in}

-- ---- items of a list that stand for files

pub item_read : {X Y : Type 0} (f : X → Y) (xs : List X) (i : ℕ) (x : X) → x ≡ get_or xs i x → get_or (map f xs) i (f x) ≡ f x
item_read f xs i x is = get_or-map f xs i x ∙ ap f (sym is)

-- ---- the first file of a folder and a name

pub bytes_here : (files : List File) (i : ℕ) (file : File) (folder name : List ℕ) → i < length files → get_or files i file ≡ file
    → has_place folder name file ≡ true → bytes_of (drop i files) folder name ≡ Some file.bytes
unfolding bytes_of
bytes_here files i file folder name h is place =
    ap (λ rest. bytes_of rest folder name) (drop-cons files i file h ∙ ap (λ f. f ∷ drop (suc i) files) is)
    ∙ ap (λ b. cond b (Some file.bytes) (bytes_of (drop (suc i) files) folder name)) place

pub bytes_behind : (files : List File) (i : ℕ) (file : File) (folder name : List ℕ) → i < length files → get_or files i file ≡ file
    → has_place folder name file ≡ false → bytes_of (drop i files) folder name ≡ bytes_of (drop (suc i) files) folder name
unfolding bytes_of
bytes_behind files i file folder name h is place =
    ap (λ rest. bytes_of rest folder name) (drop-cons files i file h ∙ ap (λ f. f ∷ drop (suc i) files) is)
    ∙ ap (λ b. cond b (Some file.bytes) (bytes_of (drop (suc i) files) folder name)) place

pub no_bytes : (folder name : List ℕ) → bytes_of [] folder name ≡ None
unfolding bytes_of
no_bytes folder name = refl

pub bytes_past : (files : List File) (i : ℕ) (folder name : List ℕ) → length files ≤ i → None ≡ bytes_of (drop i files) folder name
bytes_past files i folder name h = sym (ap (λ rest. bytes_of rest folder name) (drop_all i files h) ∙ no_bytes folder name)

-- ---- names as tests

pub any_mapped : {X Y : Type 0} (f : X → Y) (p : Y → Bool) (xs : List X) → list_any p (map f xs) ≡ list_any (λ x. p (f x)) xs
any_mapped f p [] = refl
any_mapped f p (x ∷ xs) = ap (λ b. p (f x) || b) (any_mapped f p xs)

abbrev is_in : List (List ℕ) → List ℕ → Bool
is_in names name = list_any (λ own. bytes_eq own name) names

in_Contains : (names : List (List ℕ)) (name : List ℕ) → is_in names name ≡ true → Contains names name
in_Contains [] name h = absurd (true≢false (sym h))
in_Contains (own ∷ names) name h = by (bytes_eq own name) refl (in_Contains names name)
  where
    by : (b : Bool) → bytes_eq own name ≡ b → (is_in names name ≡ true → Contains names name) → Contains (own ∷ names) name
    by true e later = (0, omega arith, (bytes_eq-Decides own name).0 e)
    by false e later =
        let at = later (sym (ap (λ b. b || is_in names name) e) ∙ h) in
        (suc at.0, (let below = at.1 in omega arith), at.2)

Contains_in : (names : List (List ℕ)) (name : List ℕ) → Contains names name → is_in names name ≡ true
Contains_in names name at = list_any_at (λ own. bytes_eq own name) names at.0 name at.1 ((bytes_eq-Decides (get_or names at.0 name) name).1 at.2)

none_same : (names : List (List ℕ)) (name : List ℕ) → is_in names name ≡ false → (k : ℕ) (d : List ℕ) → k < length names → get_or names k d ≢ name
none_same names name h k d below same =
    true≢false (sym (list_any_at (λ own. bytes_eq own name) names k d below ((bytes_eq-Decides (get_or names k d) name).1 same)) ∙ h)

-- ---- the names of the files in a folder

in_with : (folder : List ℕ) (names : List (List ℕ)) (file : File) (name : List ℕ) → is_in (with_file folder names file) name ≡ (is_in names name || has_place folder name file)
in_with folder names file name = by (bytes_eq file.folder folder) (is_in names file.name) refl
  where
    more : is_in (names ++ file.name ∷ []) name ≡ (is_in names name || bytes_eq file.name name)
    more = list_any-append (λ own. bytes_eq own name) names (file.name ∷ []) ∙ ap (λ b. is_in names name || b) (or-false (bytes_eq file.name name))

    there_already : is_in names file.name ≡ true → (b : Bool) → bytes_eq file.name name ≡ b → is_in names name ≡ (is_in names name || b)
    there_already h true e = let is = subst (λ n. is_in names n ≡ true) ((bytes_eq-Decides file.name name).0 e) h in is ∙ ap (λ b. b || true) (sym is)
    there_already h false e = sym (or-false (is_in names name))

    by : (here there : Bool) → is_in names file.name ≡ there
        → is_in (cond (here && not there) (names ++ file.name ∷ []) names) name ≡ (is_in names name || (here && bytes_eq file.name name))
    by false there h = sym (or-false (is_in names name))
    by true false h = more
    by true true h = there_already h (bytes_eq file.name name) refl

bytes_first : (file : File) (files : List File) (folder name : List ℕ) → is_some (bytes_of (file ∷ files) folder name) ≡ (has_place folder name file || is_some (bytes_of files folder name))
unfolding bytes_of
bytes_first file files folder name = by (has_place folder name file)
  where
    by : (b : Bool) → is_some (cond b (Some file.bytes) (bytes_of files folder name)) ≡ (b || is_some (bytes_of files folder name))
    by true = refl
    by false = refl

in_fold : (folder : List ℕ) (names : List (List ℕ)) (files : List File) (name : List ℕ)
    → is_in (fold (with_file folder) names files) name ≡ (is_in names name || is_some (bytes_of files folder name))
in_fold folder names [] name = sym (ap (λ o. is_in names name || is_some o) (no_bytes folder name) ∙ or-false (is_in names name))
in_fold folder names (file ∷ files) name =
    in_fold folder (with_file folder names file) files name
    ∙ ap (λ b. b || is_some (bytes_of files folder name)) (in_with folder names file name)
    ∙ or_assoc (is_in names name) (has_place folder name file) (is_some (bytes_of files folder name))
    ∙ ap (λ b. is_in names name || b) (sym (bytes_first file files folder name))

once_with : (folder : List ℕ) (names : List (List ℕ)) (file : File) → AllPairs (λ a b. a ≢ b) names → AllPairs (λ a b. a ≢ b) (with_file folder names file)
once_with folder names file h = by (bytes_eq file.folder folder) (is_in names file.name) refl
  where
    by : (here there : Bool) → is_in names file.name ≡ there → AllPairs (λ a b. a ≢ b) (cond (here && not there) (names ++ file.name ∷ []) names)
    by false there e = h
    by true true e = h
    by true false e = all_pairs_push (λ a b. a ≢ b) names file.name h (none_same names file.name e)

once_fold : (folder : List ℕ) (names : List (List ℕ)) (files : List File) → AllPairs (λ a b. a ≢ b) names → AllPairs (λ a b. a ≢ b) (fold (with_file folder) names files)
once_fold folder names [] h = h
once_fold folder names (file ∷ files) h = once_fold folder (with_file folder names file) files (once_with folder names file h)

pub names_listing : (files : List File) (folder : List ℕ) → IsListing (bytes_of files) folder (names_in folder files)
names_listing files folder = record {
  once = once_fold folder [] files (λ i j d below within. absurd (omega arith));
  each = λ name. (λ at. sym (in_fold folder [] files name) ∙ Contains_in (names_in folder files) name at, λ there. in_Contains (names_in folder files) name (in_fold folder [] files name ∙ there));
}
