-- What the program is to print: output with the verdicts of the rules (this profile).
use Rattle.std.specs.Prelude.{ℕ, List}
use Rattle.run_meaning.specs.ScriptOutput.{output_of}
use Rattle.run_meaning.specs.Files.{File}
use Rattle.run_meaning.specs.Folders.{folder_output}
use Rattle.run_meaning.specs.Generator.{generator_output}
use Rattle.judged_meaning.specs.JudgingByRules.{rules}

-- The output of a script.
abbrev pub play_output : List ℕ → List ℕ
play_output script = output_of rules script

-- The output of a checked folder with these files.
abbrev pub check_output : List File → List ℕ
check_output files = folder_output rules files

-- The output of the generator, from a start, for so many modules, edits and workers.
abbrev pub generate_output : ℕ → ℕ → ℕ → ℕ → List ℕ
generate_output start modules edits workers = generator_output rules start modules edits workers
