-- What is promised of the typing of the modules that a task tells of (this profile).
use Rattle.std.specs.Prelude.{ℕ, List, [], Option, IfSome}
use Rattle.edit_log_meaning.specs.Append.{appended_all}
use Rattle.text_meaning.specs.Dependencies.{dependencies}
use Rattle.mmt_outside.specs.Files.{Files}
use Rattle.run_meaning.specs.Files.{File, load}
use Rattle.run_meaning.specs.Folders.{folder_told}
use Rattle.run_meaning.specs.Generator.{generated, generator_told}
use Rattle.run_meaning.specs.ScriptLogs.{script_log, script_told}
use Rattle.command_words_meaning.specs.WordLists.{Task, Play, CheckFolder, Generate}
use Rattle.judged_meaning.specs.JudgingByRules.{rules}
use Rattle.output_typing.specs.ToldTyping.{AreTyped}
use Rattle.folder_load.specs.Loads.{AreFilesOf}

-- What a task tells, where the source and the folder tell what they hold.
abbrev pub TellsTyped : Task → Option (List ℕ) → Option Files → Type 0
TellsTyped Play left files = IfSome left (λ bytes. AreTyped (script_log bytes) (script_told rules bytes))
TellsTyped (CheckFolder folder) left files =
    IfSome files (λ told. (listed : List File) → AreFilesOf told folder listed → AreTyped (load listed).log (folder_told rules listed))
TellsTyped (Generate start modules edits) left files =
    AreTyped (appended_all [] (generated start modules edits)) (generator_told dependencies start modules edits)
