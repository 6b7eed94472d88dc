-- What the answer to an edit says, and the words for answers (this profile).
use Rattle.std.specs.Prelude.{ℕ, Bool, true, false, List, Option, Some, None, Result, Ok, Err, codes}
use Rattle.edit_log.specs.declared.answers.Edited.{Edited}
use Rattle.edit_log.specs.declared.answers.Edited.TheVariants.{Made, Same, Absent}
use Rattle.edit_log.specs.declared.answers.EditFault.{EditFault}
use Rattle.edit_log.specs.declared.answers.EditFault.TheVariants.{Full, TooLong, TooMany, Memory}

-- The edit was made.
abbrev pub made_by : Result Edited EditFault → Bool
made_by (Ok (Made version)) = true
made_by (Ok (Same version)) = false
made_by (Ok (Absent version)) = false
made_by (Err fault) = false

-- The word for an edit that was answered so, where the first is the one for an edit that is made. For want of memory there is none.
abbrev pub word_by : List ℕ → Result Edited EditFault → Option (List ℕ)
word_by made (Ok (Made version)) = Some made
word_by made (Ok (Same version)) = Some (codes "same")
word_by made (Ok (Absent version)) = Some (codes "absent")
word_by made (Err Full) = Some (codes "full")
word_by made (Err TooLong) = Some (codes "too-long")
word_by made (Err TooMany) = Some (codes "too-many")
word_by made (Err Memory) = None
