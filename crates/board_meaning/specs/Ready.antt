-- Which names are ready to be claimed (this profile).
use Rattle.std.specs.Prelude.{Bool, true, false, ◌&&◌, ◌||◌, not, find, Option}
use Rattle.std.specs.List.{list_any, list_all}
use Rattle.name_meaning.specs.Names.{Name}
use Rattle.edit_log_meaning.specs.Log.{names_of, is_present}
use Rattle.module_graph_meaning.specs.Walks.{Dependencies, direct, is_grounded}
use Rattle.board_meaning.specs.Events.{Event, EditMade, Claim, Install, Stale, Release, Close, Entry, History, library_after}
use Rattle.board_meaning.specs.Claims.{has_current_claim}
use Rattle.board_meaning.specs.Standing.{stands}

-- The event is the close.
abbrev pub is_close : Event → Bool
is_close (EditMade edit) = false
is_close (Claim name) = false
is_close (Install claim) = false
is_close (Stale claim name newer) = false
is_close (Release claim) = false
is_close Close = true

-- The board was closed.
unfoldable pub is_closed : History → Bool
is_closed history = list_any (λ (entry : Entry). is_close entry.event) history

-- Each present direct dependency of the name has a standing verdict.
unfoldable pub dependencies_stand : Dependencies → History → Name → Bool
dependencies_stand dependencies history name =
    list_all (λ (other : Name). not (is_present (library_after history) other) || stands dependencies history other) (direct dependencies (library_after history) name)

-- The name is ready: it is present and grounded, has no standing verdict, its present dependencies have one each,
-- no open claim of it has all its stamps unchanged, and the board is not closed.
unfoldable pub is_ready : Dependencies → History → Name → Bool
is_ready dependencies history name =
    is_grounded dependencies (library_after history) name
    && not (stands dependencies history name)
    && dependencies_stand dependencies history name
    && not (has_current_claim dependencies history name)
    && not (is_closed history)

-- The least ready name in byte order, if one is ready.
unfoldable pub least_ready : Dependencies → History → Option Name
least_ready dependencies history = find (is_ready dependencies history) (names_of (library_after history))
