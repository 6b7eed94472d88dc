-- Worked examples of words: which lists are accepted, and what they ask for.
use Rattle.std.specs.Prelude.{◌≡◌, ℕ, false, [], ◌∷◌, Some, map, codes}
use Rattle.command_words_meaning.specs.WordLists.{Task, Play, CheckFolder, Generate, Run, run_of, is_accepted}
use Rattle.command_words_meaning.specs.WordAnswers.{Outcome, Begins, Ends, words_outcome}

abbrev pub by : Task → ℕ → Run
by task workers = record { task = task; workers = workers }

abbrev pub PlaysAreAccepted : Type 0
PlaysAreAccepted =
    map run_of
    ((codes "play" ∷ []) ∷ (codes "play" ∷ codes "--workers" ∷ codes "0" ∷ []) ∷ (codes "play" ∷ codes "--workers=16" ∷ []) ∷ [])
    ≡ Some (by Play 4) ∷ Some (by Play 0) ∷ Some (by Play 16) ∷ []

abbrev pub ChecksAreAccepted : Type 0
ChecksAreAccepted =
    map run_of
    ((codes "check" ∷ codes "lib" ∷ [])
    ∷ (codes "check" ∷ codes "lib" ∷ codes "--workers" ∷ codes "2" ∷ [])
    ∷ (codes "check" ∷ codes "--workers" ∷ codes "2" ∷ codes "lib" ∷ [])
    ∷ (codes "check" ∷ codes "--workers=2" ∷ codes "lib" ∷ [])
    ∷ [])
    ≡ Some (by (CheckFolder (codes "lib")) 4) ∷ Some (by (CheckFolder (codes "lib")) 2) ∷ Some (by (CheckFolder (codes "lib")) 2) ∷ Some (by (CheckFolder (codes "lib")) 2) ∷ []

abbrev pub GeneratorsAreAccepted : Type 0
GeneratorsAreAccepted =
    map run_of
    ((codes "gen" ∷ codes "1" ∷ codes "5" ∷ codes "3" ∷ [])
    ∷ (codes "gen" ∷ codes "2147483647" ∷ codes "1000" ∷ codes "1000" ∷ codes "--workers" ∷ codes "2" ∷ [])
    ∷ (codes "gen" ∷ codes "--workers=0" ∷ codes "0" ∷ codes "1" ∷ codes "0" ∷ [])
    ∷ [])
    ≡ Some (by (Generate 1 5 3) 4) ∷ Some (by (Generate 2147483647 1000 1000) 2) ∷ Some (by (Generate 0 1 0) 0) ∷ []

-- No words; too many workers; a number with a leading zero; a worker part without a number, two of them, and one in front of
-- the command; no folder, an empty one, and one that begins with `-`; no folder beside a worker part; numbers past their
-- ranges; too few numbers; and a word that is no command.
abbrev pub OthersAreNot : Type 0
OthersAreNot =
    map is_accepted
    ([]
    ∷ (codes "play" ∷ codes "--workers" ∷ codes "17" ∷ [])
    ∷ (codes "play" ∷ codes "--workers" ∷ codes "01" ∷ [])
    ∷ (codes "play" ∷ codes "--workers" ∷ [])
    ∷ (codes "play" ∷ codes "--workers=1" ∷ codes "--workers=1" ∷ [])
    ∷ (codes "--workers=1" ∷ codes "play" ∷ [])
    ∷ (codes "check" ∷ [])
    ∷ (codes "check" ∷ [] ∷ [])
    ∷ (codes "check" ∷ codes "-lib" ∷ [])
    ∷ (codes "check" ∷ codes "--workers=2" ∷ [])
    ∷ (codes "gen" ∷ codes "2147483648" ∷ codes "5" ∷ codes "3" ∷ [])
    ∷ (codes "gen" ∷ codes "1" ∷ codes "0" ∷ codes "3" ∷ [])
    ∷ (codes "gen" ∷ codes "1" ∷ codes "5" ∷ codes "1001" ∷ [])
    ∷ (codes "gen" ∷ codes "1" ∷ codes "5" ∷ [])
    ∷ (codes "--help" ∷ [])
    ∷ [])
    ≡ false ∷ false ∷ false ∷ false ∷ false ∷ false ∷ false ∷ false ∷ false ∷ false ∷ false ∷ false ∷ false ∷ false ∷ false ∷ []

-- The usage line, with its line feed, and the status 2.
abbrev pub usage_answer : Outcome
usage_answer = Ends (record {
  written =
      codes "usage: mmt play [--workers N] | mmt check FOLDER [--workers N] | mmt gen START MODULES EDITS [--workers N]\n";
  status = 2;
})

-- No words, too many workers, no folder and a word that is no command are answered so; an accepted list among them begins its run.
abbrev pub OthersAreAnswered : Type 0
OthersAreAnswered =
    map words_outcome
    ([]
    ∷ (codes "play" ∷ codes "--workers" ∷ codes "17" ∷ [])
    ∷ (codes "play" ∷ codes "--workers" ∷ codes "16" ∷ [])
    ∷ (codes "check" ∷ [])
    ∷ (codes "usage" ∷ [])
    ∷ [])
    ≡ usage_answer ∷ usage_answer ∷ Begins (by Play 16) ∷ usage_answer ∷ usage_answer ∷ []
