-- Claims: their inputs, and which are open (this profile).
use Rattle.std.specs.Prelude.{ℕ, suc, Bool, false, List, [], ◌∷◌, ◌&&◌, not, map, take, nat_eq, slice_get, filter, find, Option, Some, None, is_some, option_map, option_and_then}
use Rattle.std.specs.List.{list_any, list_all, cons_option}
use Rattle.name_meaning.specs.Names.{Name, same_name}
use Rattle.module_graph_meaning.specs.Walks.{Dependencies}
use Rattle.module_graph_meaning.specs.Reach.{reach}
use Rattle.board_meaning.specs.Events.{Event, EditMade, Claim, Install, Stale, Release, Close, Entry, History, library_after, stamp_after}

-- The name that was claimed, if that is what happened.
abbrev pub claimed_name : Event → Option Name
claimed_name (EditMade edit) = None
claimed_name (Claim name) = Some name
claimed_name (Install claim) = None
claimed_name (Stale claim name newer) = None
claimed_name (Release claim) = None
claimed_name Close = None

-- The name that is claimed at this place, if a claim stands there.
abbrev pub claim_at : History → ℕ → Option Name
claim_at history place = option_and_then (λ (entry : Entry). claimed_name entry.event) (slice_get history place)

-- The places of the claims, in order, the first entry being at this place.
unfoldable pub claims_from : ℕ → History → List ℕ
claims_from place [] = []
claims_from place (entry ∷ history) =
    cons_option (option_map (λ (name : Name). place) (claimed_name entry.event)) (claims_from (suc place) history)

-- The event ends the claim at this place.
abbrev pub ends_claim : ℕ → Event → Bool
ends_claim place (EditMade edit) = false
ends_claim place (Claim name) = false
ends_claim place (Install claim) = nat_eq place claim
ends_claim place (Stale claim name newer) = nat_eq place claim
ends_claim place (Release claim) = nat_eq place claim
ends_claim place Close = false

-- Some entry ends the claim at this place.
abbrev pub is_ended : History → ℕ → Bool
is_ended history place = list_any (λ (entry : Entry). ends_claim place entry.event) history

-- A claim stands at this place, and no entry ends it.
unfoldable pub is_open : History → ℕ → Bool
is_open history place = is_some (claim_at history place) && not (is_ended history place)

-- The places of the open claims.
abbrev pub open_claims : History → List ℕ
open_claims history = filter (is_open history) (claims_from 0 history)

-- A name, and the stamp that it had.
pub record Input : Type 0 where
  pub name : Name
  pub stamp : ℕ

-- The inputs of a claim of this name that is made after this history: its whole reach, names that are absent
-- included, with their stamps, in byte order.
unfoldable pub inputs_after : Dependencies → History → Name → List Input
inputs_after dependencies history name =
    map (λ (other : Name). record { name = other; stamp = stamp_after history other }) (reach dependencies (library_after history) name)

-- The inputs of a claim of this name that was made after this history. Where no claim was made there are none.
abbrev pub inputs_by : Dependencies → History → Option Name → List Input
inputs_by dependencies before None = []
inputs_by dependencies before (Some name) = inputs_after dependencies before name

-- The inputs of the claim at this place.
unfoldable pub inputs_of : Dependencies → History → ℕ → List Input
inputs_of dependencies history place = inputs_by dependencies (take place history) (claim_at history place)

-- The names of the inputs.
abbrev pub input_names : List Input → List Name
input_names inputs = map (λ (input : Input). input.name) inputs

-- The stamp of the input is the present one.
abbrev pub is_unchanged : History → Input → Bool
is_unchanged history input = nat_eq (stamp_after history input.name) input.stamp

-- The first of the inputs whose stamp has changed, with its present stamp.
unfoldable pub first_changed : History → List Input → Option Input
first_changed history inputs =
    option_map (λ (input : Input). record { name = input.name; stamp = stamp_after history input.name }) (find (λ (input : Input). not (is_unchanged history input)) inputs)

-- The claim at this place is of this name.
abbrev pub is_name : Name → Option Name → Bool
is_name name None = false
is_name name (Some other) = same_name name other

-- A claim of this name stands at this place.
abbrev pub is_claim_of : History → Name → ℕ → Bool
is_claim_of history name place = is_name name (claim_at history place)

-- An open claim of this name has all its stamps unchanged.
unfoldable pub has_current_claim : Dependencies → History → Name → Bool
has_current_claim dependencies history name =
    list_any (λ (place : ℕ). is_claim_of history name place && list_all (is_unchanged history) (inputs_of dependencies history place)) (open_claims history)
