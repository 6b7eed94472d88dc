-- What jobs and replies of this crate stand for (this profile).
use Rattle.std.specs.Prelude.{◌≤◌, List, map, length}
use Rattle.name_meaning.specs.Names.{Name, Text}
use Rattle.name_meaning.specs.Limits.{text_limit}
use Rattle.board_meaning.specs.Events.{History, stamp_after}
use Rattle.board_meaning.specs.Claims as claims
use Rattle.board_meaning.specs.Machine as machine
use Rattle.module_graph.specs.Subjects.{read_answers}
use Rattle.verdict_board.specs.declared.inputs.Input.{Input}
use Rattle.verdict_board.specs.declared.replies.Installed as installed
use Rattle.verdict_board.specs.declared.replies.Installed.TheVariants.{Installed, Stale}
use Rattle.verdict_board.specs.declared.replies.Told as told
use Rattle.verdict_board.specs.declared.replies.Told.TheVariants.{Verdict, Pending, Absent}

abbrev pub read_inputs : List Input → List claims.Input
read_inputs inputs = map (λ (input : Input). record { name = input.name; stamp = input.stamp }) inputs

-- names with their stamps after a history
abbrev pub inputs_of_names : History → List Name → List claims.Input
inputs_of_names history names = map (λ (name : Name). record { name = name; stamp = stamp_after history name }) names

abbrev pub read_installed : installed.Installed → machine.Installed
read_installed Installed = machine.IsInstalled
read_installed (Stale name newer) = machine.IsStale name newer

-- answers are told for what they stand for
abbrev pub read_told : {Answer Meaning : Type 0} → (Answer → Meaning) → told.Told Answer → machine.Told Meaning
read_told meaning (Verdict answer version) = machine.IsVerdict (meaning answer) version
read_told meaning (Pending version) = machine.IsPending version
read_told meaning (Absent version) = machine.IsAbsent version

abbrev pub read_job : {Answer Meaning : Type 0} → (Answer → Meaning) → machine.Job Answer → machine.Job Meaning
read_job meaning job =
    record { claim = job.claim; name = job.name; text = job.text; inputs = job.inputs; answers = read_answers meaning job.answers }

-- the text is within the limit of a text
abbrev pub IsShort : Text → Type 0
IsShort text = length text ≤ text_limit
