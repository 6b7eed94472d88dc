-- The modules that a task tells of keep typing.
use Rattle.std.proofs.Common.{ℕ, List}
use Rattle.std.specs.Prelude.{Option, Some, None, IfSome}
use Rattle.mmt_outside.specs.Files.{Files}
use Rattle.run_meaning.specs.Files.{load}
use Rattle.run_meaning.specs.Folders.{folder_told}
use Rattle.run_meaning.specs.ScriptLogs.{script_log, script_told}
use Rattle.command_words_meaning.specs.WordLists.{CheckFolder, Generate, Play, Run, Task}
use Rattle.judged_meaning.specs.JudgingByRules.{rules}
use Rattle.output_typing.proofs.KeptTyping.{all_are_typed}
use Rattle.mmt_top.specs.Typing.{TellsTyped}

pub tells_typed : (task : Task) (left : Option (List ℕ)) (files : Option Files) → TellsTyped task left files
tells_typed Play None files = tt
tells_typed Play (Some bytes) files = all_are_typed (script_log bytes) (script_told rules bytes)
tells_typed (CheckFolder folder) left None = tt
tells_typed (CheckFolder folder) left (Some told) = λ listed are. all_are_typed (load listed).log (folder_told rules listed)
tells_typed (Generate start modules edits) left files = all_are_typed _ _

pub asked_typed : (run : Option Run) (left : Option (List ℕ)) (files : Option Files) → IfSome run (λ run. TellsTyped run.task left files)
asked_typed None left files = tt
asked_typed (Some run) left files = tells_typed run.task left files
