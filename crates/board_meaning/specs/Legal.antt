-- Legal histories (this profile).
use Rattle.std.specs.Prelude.{◌≡◌, ℕ, Bool, true, List, [], ◌∷◌, ◌&&◌, take, slice_get, Some}
use Rattle.module_graph_meaning.specs.Walks.{Dependencies}
use Rattle.board_meaning.specs.Events.{Entry, History}
use Rattle.board_meaning.specs.Machine.{Call, may_call, entry_by, after_call}

-- After this history the entry may follow: it is the entry of a call that its pass may make.
pub record MayFollow (dependencies : Dependencies) (history : History) (entry : Entry) : Type 0 where
  pub call : Call
  pub may : may_call history entry.pass call ≡ true
  pub made : entry_by dependencies history entry.pass call ≡ Some entry

-- The history is legal: each entry may follow those before it.
abbrev pub IsLegal : Dependencies → History → Type 0
IsLegal dependencies history =
    (place : ℕ) (entry : Entry) → slice_get history place ≡ Some entry → MayFollow dependencies (take place history) entry

-- A call, and the number of the pass that makes it.
pub record PassCall : Type 0 where
  pub pass : ℕ
  pub call : Call

-- The history after these calls, one after another.
unfoldable pub after_calls : Dependencies → History → List PassCall → History
after_calls dependencies history [] = history
after_calls dependencies history (first ∷ calls) = after_calls dependencies (after_call dependencies history first.pass first.call) calls

-- Each of these calls may be made by its pass, where they come one after another.
unfoldable pub may_make_all : Dependencies → History → List PassCall → Bool
may_make_all dependencies history [] = true
may_make_all dependencies history (first ∷ calls) =
    may_call history first.pass first.call && may_make_all dependencies (after_call dependencies history first.pass first.call) calls
