-- What a call through a pass of a shared board is, and which jobs a pass has (this profile).
use Rattle.std.specs.Prelude.{◌≡◌, ℕ, true, take, Option, Some, None}
use Rattle.module_graph_meaning.specs.Subject.{Subject}
use Rattle.module_graph_meaning.specs.Walks.{Dependencies}
use Rattle.turn_meaning.specs.Passes.{Pass}
use Rattle.board_meaning.specs.Events.{Entry, History, library_after}
use Rattle.board_meaning.specs.Machine.{Job, job_of, InstallCall, ReleaseCall, may_call}
use Rattle.board_meaning.specs.Points.{are_below, IsPoint, BoardCall, Reply, Happens, FindsNoMemory}
use Rattle.module_graph.specs.Subjects.{IsGiven}

-- Of a pass only what it has seen has changed.
abbrev pub Keeps : {Lock : Type 0} → Pass Lock Entry → Pass Lock Entry → Type 0
Keeps before after = after ≡ record before { seen = after.seen }

module _ {Lock Meaning : Type 0} (subject : Subject Meaning) (before : Pass Lock Entry) (call : BoardCall) where
  -- The call happened at a point and was replied to so. Where the pass is pass 0, each entry of the point is of a pass that was
  -- made.
  pub record IsRepliedTo (reply : Reply Meaning) (after : Pass Lock Entry) : Type 0 where
    pub keeps : Keeps before after
    pub happens : Happens subject before.seen before.number call reply after.seen
    pub below : before.number ≡ 0 → are_below before.made happens.point ≡ true

  -- The call found no memory at a point, which the pass has then seen.
  pub record IsWithoutMemory (after : Pass Lock Entry) : Type 0 where
    pub keeps : Keeps before after
    pub finds : FindsNoMemory subject before.seen before.number call after.seen
    pub below : before.number ≡ 0 → are_below before.made after.seen ≡ true

  -- What a call did: it was replied to so, or, where there is no reply, it found no memory.
  abbrev pub IsCalled : Option (Reply Meaning) → Pass Lock Entry → Type 0
  IsCalled (Some reply) after = IsRepliedTo reply after
  IsCalled None after = IsWithoutMemory after

-- The pass has looked at the board at a point, which it has then seen. Where the pass is pass 0, each entry of the point is of a pass
-- that was made.
pub record LooksAt {Lock : Type 0} (dependencies : Dependencies) (before after : Pass Lock Entry) : Type 0 where
  pub keeps : Keeps before after
  pub at_point : IsPoint dependencies before.seen before.number after.seen
  pub below : before.number ≡ 0 → are_below before.made after.seen ≡ true

-- The job is that of a claim that is open after this history, and that this pass has made, so that the pass may end it.
pub record MayEnd {Meaning : Type 0} (subject : Subject Meaning) (history : History) (pass : ℕ) (job : Job Meaning) : Type 0 where
  pub claimed : job_of subject history job.claim ≡ Some job
  pub installs : may_call history pass (InstallCall job.claim) ≡ true
  pub releases : may_call history pass (ReleaseCall job.claim) ≡ true

-- The job was given with the library that its claim found.
abbrev pub IsGivenAtClaim : {Meaning : Type 0} → Subject Meaning → History → Job Meaning → Type 0
IsGivenAtClaim subject history job = IsGiven subject job.name job.text job.answers (library_after (take job.claim history))
