-- What the calls of a shared board returned, as replies of the board machine. Where a call found no memory there is none (this profile).
use Rattle.std.specs.Prelude.{List, Option, Some, None, Result, Ok, Err, option_map}
use Rattle.name_meaning.specs.Names.{Name}
use Rattle.edit_log_meaning.specs.Append as log
use Rattle.board_meaning.specs.Machine as machine
use Rattle.board_meaning.specs.Points.{Reply, EditReply, ClaimReply, InstallReply, ReportReply, AnswersReply}
use Rattle.edit_log.specs.Readings.{read_edited}
use Rattle.edit_log.specs.declared.answers.Edited.{Edited}
use Rattle.edit_log.specs.declared.answers.EditFault.{EditFault}
use Rattle.edit_log.specs.declared.answers.EditFault.TheVariants.{Full, TooLong, TooMany, Memory}
use Rattle.module_graph.specs.Subjects.{read_answers}
use Rattle.verdict_board.specs.Readings.{read_installed, read_told, read_job}
use Rattle.verdict_board.specs.declared.replies.Installed.{Installed}
use Rattle.verdict_board.specs.declared.replies.Told.{Told}

-- what the log answers to an edit, refusals included
abbrev pub read_edit_answer : Result Edited EditFault → Option log.Edited
read_edit_answer (Ok edited) = Some (read_edited edited)
read_edit_answer (Err Full) = Some log.Full
read_edit_answer (Err TooLong) = Some log.TooLong
read_edit_answer (Err TooMany) = Some log.TooMany
read_edit_answer (Err Memory) = None

abbrev pub read_edit_reply : {Meaning : Type 0} → Result Edited EditFault → Option (Reply Meaning)
read_edit_reply result = option_map EditReply (read_edit_answer result)

-- what a call returned whose only error is want of memory
abbrev pub read_reply : {Value Error Meaning : Type 0} → (Value → Reply Meaning) → Result Value Error → Option (Reply Meaning)
read_reply reply (Ok value) = Some (reply value)
read_reply reply (Err error) = None

module _ {Answer Meaning : Type 0} (meaning : Answer → Meaning) where
  abbrev pub read_claim : {Error : Type 0} → Result (Option (machine.Job Answer)) Error → Option (Reply Meaning)
  read_claim result = read_reply (λ (job : Option (machine.Job Answer)). ClaimReply (option_map (read_job meaning) job)) result

  abbrev pub read_report : {Error : Type 0} → Result (Told Answer) Error → Option (Reply Meaning)
  read_report result = read_reply (λ (told : Told Answer). ReportReply (read_told meaning told)) result

  abbrev pub read_question : {Error : Type 0} → Result (Option (List (Name × Option Answer))) Error → Option (Reply Meaning)
  read_question result =
      read_reply (λ (answers : Option (List (Name × Option Answer))). AnswersReply (option_map (read_answers meaning) answers)) result

abbrev pub read_install : {Meaning : Type 0} → Installed → Option (Reply Meaning)
read_install installed = Some (InstallReply (read_installed installed))
