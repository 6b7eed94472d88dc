-- Which verdicts stand. No verdict is in the history: a standing one is the subject's answer (this profile).
use Rattle.std.specs.Prelude.{◌≡◌, ℕ, suc, Bool, true, false, List, ◌++◌, ◌&&◌, not, drop, slice_get, filter, filter_map, length, Option, Some, None}
use Rattle.std.specs.List.{list_any}
use Rattle.name_meaning.specs.Names.{Name, same_name, is_among}
use Rattle.edit_log_meaning.specs.Log.{Edit, edited_name, names_of}
use Rattle.module_graph_meaning.specs.Walks.{Dependencies}
use Rattle.board_meaning.specs.Events.{Event, EditMade, Claim, Install, Stale, Release, Close, Entry, History, edit_in, library_after, version_after}
use Rattle.board_meaning.specs.Claims.{claim_at, is_claim_of, inputs_of, input_names}

-- The place of the claim whose verdict was installed, if that is what happened.
abbrev pub installed_claim : Event → Option ℕ
installed_claim (EditMade edit) = None
installed_claim (Claim name) = None
installed_claim (Install claim) = Some claim
installed_claim (Stale claim name newer) = None
installed_claim (Release claim) = None
installed_claim Close = None

-- The claims whose verdicts were installed, in order of the installs.
unfoldable pub installed_claims : History → List ℕ
installed_claims history = filter_map (λ (entry : Entry). installed_claim entry.event) history

-- The edit, if there is one, is of this name.
abbrev pub is_edit_of : Name → Option Edit → Bool
is_edit_of name None = false
is_edit_of name (Some edit) = same_name name (edited_name edit)

-- Some entry is an edit of this name.
unfoldable pub is_edited : History → Name → Bool
is_edited history name = list_any (λ (entry : Entry). is_edit_of name (edit_in entry)) history

-- The name was edited after this place.
abbrev pub is_edited_after : History → ℕ → Name → Bool
is_edited_after history place name = is_edited (drop (suc place) history) name

-- No input of the claim at this place was edited after it. A way back to an old text is two edits.
unfoldable pub is_unedited : Dependencies → History → ℕ → Bool
is_unedited dependencies history place =
    not (list_any (is_edited_after history place) (input_names (inputs_of dependencies history place)))

-- The claim at this place is of this name, and no input of it was edited after it.
abbrev pub supports : Dependencies → History → Name → ℕ → Bool
supports dependencies history name place = is_claim_of history name place && is_unedited dependencies history place

-- The name has a standing verdict.
unfoldable pub stands : Dependencies → History → Name → Bool
stands dependencies history name = list_any (supports dependencies history name) (installed_claims history)

-- The history has an install of a claim of this name, and no input of that claim was edited after the claim.
pub record Stands (dependencies : Dependencies) (history : History) (name : Name) : Type 0 where
  pub claim : ℕ
  pub install : ℕ
  pub entry : Entry
  pub claimed : claim_at history claim ≡ Some name
  pub found : slice_get history install ≡ Some entry
  pub installed : entry.event ≡ Install claim
  pub unedited : (other : Name) → is_among (input_names (inputs_of dependencies history claim)) other ≡ true → is_edited_after history claim other ≡ false

-- The number of installs.
abbrev pub installs : History → ℕ
installs history = length (installed_claims history)

-- The names that have a standing verdict, in byte order, and how many they are.
abbrev pub standing_names : Dependencies → History → List Name
standing_names dependencies history = filter (stands dependencies history) (names_of (library_after history))

abbrev pub standing_count : Dependencies → History → ℕ
standing_count dependencies history = length (standing_names dependencies history)

-- The name stood at this version: the history has a beginning with this version, after which it stands. So a verdict that
-- is told at that version is backed by the history.
pub record IsBacked (dependencies : Dependencies) (history : History) (name : Name) (version : ℕ) : Type 0 where
  pub beginning : History
  pub later : History
  pub goes_on : history ≡ beginning ++ later
  pub at_version : version_after beginning ≡ version
  pub standing : stands dependencies beginning name ≡ true
