-- How the history of a board goes on under its front (this profile).
use Rattle.std.specs.Prelude.{◌≡◌, ◌⊎◌, ◌++◌, true, List, Result, Ok, Err}
use Rattle.name_meaning.specs.Names.{Name}
use Rattle.edit_log_meaning.specs.Log.{Edit, Log, library_of}
use Rattle.edit_log_meaning.specs.Append.{appended}
use Rattle.module_graph_meaning.specs.Walks.{is_grounded}
use Rattle.text_meaning.specs.Dependencies.{dependencies}
use Rattle.turn_meaning.specs.Passes.{Pass, IsIdleOf}
use Rattle.board_meaning.specs.Events.{Entry, History, log_of}
use Rattle.board_meaning.specs.Standing.{stands}
use Rattle.board_meaning.specs.Legal.{IsLegal}
use Rattle.list_laws.proofs.Members.{Member}
use Rattle.edit_log.specs.declared.answers.Edited.{Edited}
use Rattle.edit_log.specs.declared.answers.EditFault.{EditFault}
use Rattle.edit_log.specs.declared.answers.EditFault.TheVariants.{Full, TooLong, TooMany, Memory}

-- The second history goes on from the first, is legal, and has this log.
pub record GoesOn (log : Log) (before after : History) : Type 0 where
  pub legal : IsLegal dependencies after
  pub later : History
  pub begins : after ≡ before ++ later
  pub logged : log_of after ≡ log

-- The history goes on, with the same log.
abbrev pub Stays : History → History → Type 0
Stays before after = GoesOn (log_of before) before after

-- The history goes on with this edit, unless the rules of the log refuse it.
abbrev pub Edits : Edit → History → History → Type 0
Edits edit before after = GoesOn (appended (log_of before) edit) before after

-- Where the name is grounded, its verdict stands.
abbrev pub StandsIfGrounded : History → Name → Type 0
StandsIfGrounded history name = is_grounded dependencies (library_of (log_of history)) name ≡ true → stands dependencies history name ≡ true

-- Each of these names stands where it is grounded.
abbrev pub AllStand : History → List Name → Type 0
AllStand history names = (name : Name) → Member name names → StandsIfGrounded history name

-- The history goes on, with this edit or without it.
abbrev pub MayEdit : Edit → History → History → Type 0
MayEdit edit before after = Stays before after ⊎ Edits edit before after

-- The history is legal, and this is its log.
pub record IsFront (log : Log) (history : History) : Type 0 where
  pub legal : IsLegal dependencies history
  pub logged : log ≡ log_of history

-- The pass is pass 0 of this lock, and has no turn.
pub record IsAtFront {Lock : Type 0} (lock : Lock) (pass : Pass Lock Entry) : Type 0 where
  pub idle : IsIdleOf lock pass
  pub first : pass.number ≡ 0

-- What an edit leaves that was answered so: the log as its rules leave it, and for want of memory the same log.
abbrev pub EditGoes : Result Edited EditFault → Edit → History → History → Type 0
EditGoes (Ok edited) edit before after = Edits edit before after
EditGoes (Err Full) edit before after = Edits edit before after
EditGoes (Err TooLong) edit before after = Edits edit before after
EditGoes (Err TooMany) edit before after = Edits edit before after
EditGoes (Err Memory) edit before after = Stays before after
