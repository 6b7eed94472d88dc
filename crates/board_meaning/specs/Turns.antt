-- What a worker does with a board that several threads share, as calls through its pass that happen at points (this profile).
use Rattle.std.specs.Prelude.{◌≡◌, ℕ, Bool, true, false, List, [], ◌∷◌, ◌+◌, Some, None}
use Rattle.std.specs.List.{list_all}
use Rattle.name_meaning.specs.Names.{Name}
use Rattle.module_graph_meaning.specs.Subject.{Subject}
use Rattle.board_meaning.specs.Events.{History}
use Rattle.board_meaning.specs.Machine.{Job, Installed, ClaimCall, InstallCall, ReleaseCall}
use Rattle.board_meaning.specs.Points.{Makes, AsksClosed, ClaimReply, InstallReply, ClosedReply, NoReply, Happens, FindsNoMemory}

-- How a turn ends: the verdict of this name was brought for installing; nothing is ready; or the board is closed.
pub data TurnEnd : Type 0 where
  Worked : Name → Installed → TurnEnd
  Idle : TurnEnd
  Closed : TurnEnd

-- The pass claims a job, and then brings the verdict of its name for installing.
pub record Works {Answer : Type 0} (subject : Subject Answer) (seen : History) (pass : ℕ) (name : Name) (how : Installed) (after : History) : Type 0 where
  pub job : Job Answer
  pub between : History
  pub claims : Happens subject seen pass (Makes ClaimCall) (ClaimReply (Some job)) between
  pub named : job.name ≡ name
  pub brings : Happens subject between pass (Makes (InstallCall job.claim)) (InstallReply how) after

-- The pass claims and gets no job, and is then told whether the board is closed.
pub record FindsNoJob {Answer : Type 0} (subject : Subject Answer) (seen : History) (pass : ℕ) (closed : Bool) (after : History) : Type 0 where
  pub between : History
  pub claims : Happens subject seen pass (Makes ClaimCall) (ClaimReply None) between
  pub asks : Happens subject between pass AsksClosed (ClosedReply closed) after

-- A turn of a pass that has seen these entries ends so, and the pass has then seen those.
unfoldable pub Turns : {Answer : Type 0} → Subject Answer → History → ℕ → TurnEnd → History → Type 0
Turns subject seen pass (Worked name how) after = Works subject seen pass name how after
Turns subject seen pass Idle after = FindsNoJob subject seen pass false after
Turns subject seen pass Closed after = FindsNoJob subject seen pass true after

-- How many modules are judged in a turn that ends so.
abbrev pub judged_in : TurnEnd → ℕ
judged_in (Worked name how) = 1
judged_in Idle = 0
judged_in Closed = 0

-- A turn finds no memory: its claim finds none; or the pass claims a job and releases it.
pub data TurnFindsNoMemory {Answer : Type 0} (subject : Subject Answer) (seen : History) (pass : ℕ) (after : History) : Type 0 where
  ForClaim : FindsNoMemory subject seen pass (Makes ClaimCall) after → TurnFindsNoMemory subject seen pass after
  ForJob : (job : Job Answer) (between : History)
      → Happens subject seen pass (Makes ClaimCall) (ClaimReply (Some job)) between
      → Happens subject between pass (Makes (ReleaseCall job.claim)) NoReply after
      → TurnFindsNoMemory subject seen pass after

-- Turns of a pass, one after another, end so.
unfoldable pub TurnsAll : {Answer : Type 0} → Subject Answer → History → ℕ → List TurnEnd → History → Type 0
TurnsAll subject seen pass [] after = after ≡ seen
TurnsAll subject seen pass (end ∷ ends) after = (between : History) × Turns subject seen pass end between × TurnsAll subject between pass ends after

-- The turn does not find the board closed.
abbrev pub is_open_still : TurnEnd → Bool
is_open_still (Worked name how) = true
is_open_still Idle = true
is_open_still Closed = false

-- How many modules are judged in these turns.
unfoldable pub judged_in_all : List TurnEnd → ℕ
judged_in_all [] = 0
judged_in_all (end ∷ ends) = judged_in end + judged_in_all ends

-- The work of a pass: turns that do not find the board closed, and then one that does.
pub record DoesWork {Answer : Type 0} (subject : Subject Answer) (seen : History) (pass : ℕ) (ends : List TurnEnd) (after : History) : Type 0 where
  pub open_still : list_all is_open_still ends ≡ true
  pub between : History
  pub turns : TurnsAll subject seen pass ends between
  pub last : Turns subject between pass Closed after

-- Turns that do not find the board closed, and then one that finds no memory.
pub record WorkFindsNoMemory {Answer : Type 0} (subject : Subject Answer) (seen : History) (pass : ℕ) (ends : List TurnEnd) (after : History) : Type 0 where
  pub open_still : list_all is_open_still ends ≡ true
  pub between : History
  pub turns : TurnsAll subject seen pass ends between
  pub wants : TurnFindsNoMemory subject between pass after
