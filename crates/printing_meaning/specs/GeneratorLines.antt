-- The two lines of the generator (this profile).
use Rattle.std.specs.Prelude.{ℕ, List, ◌++◌, codes}
use Rattle.std.specs.Fmt.{decimal}
use Rattle.printing_meaning.specs.Printed.{end_of_line}

-- What the generator counts: its modules and edits, the version of the log, and of the last library the accepted and
-- the refused modules, and the declarations of the accepted ones.
pub record Counts : Type 0 where
  pub modules : ℕ
  pub edits : ℕ
  pub version : ℕ
  pub accepted : ℕ
  pub refused : ℕ
  pub declarations : ℕ

-- `gen modules M edits E version V accepted A refused R declarations D`.
abbrev pub generator_line : Counts → List ℕ
generator_line counts =
    codes "gen modules " ++ decimal counts.modules ++ codes " edits " ++ decimal counts.edits ++ codes " version " ++ decimal counts.version
    ++ codes " accepted " ++ decimal counts.accepted ++ codes " refused " ++ decimal counts.refused ++ codes " declarations " ++ decimal counts.declarations ++ end_of_line

-- `installs I`.
abbrev pub installs_line : ℕ → List ℕ
installs_line installs = codes "installs " ++ decimal installs ++ end_of_line
