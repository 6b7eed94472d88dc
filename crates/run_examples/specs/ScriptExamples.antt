-- Worked examples of scripts, for any judging.
use Rattle.std.specs.Prelude.{◌≡◌, ℕ, List, [], ◌∷◌, ◌++◌, take, replicate, codes}
use Rattle.name_meaning.specs.Names.{Name, Text}
use Rattle.edit_log_meaning.specs.Log.{Put, Drop, Library}
use Rattle.printing_meaning.specs.VerdictLines.{Refused}
use Rattle.printing_meaning.specs.CarriedLines.{NoView}
use Rattle.run_meaning.specs.Judging.{Judging}
use Rattle.run_meaning.specs.ScriptOutput.{output_of}
use Rattle.run_meaning.specs.ScriptLogs.{script_log, script_told}

abbrev pub Prints : List ℕ → List ℕ → Type 0
Prints script text = (judging : Judging) → output_of judging script ≡ text

-- The put of the theory of natural numbers, which has 53 bytes.
abbrev pub put_numbers : List ℕ
put_numbers = codes "put Nat\n%sig Nat = {\nnat : type.\nz : nat.\ns : nat -> nat.\n}.\n%%end\n"

abbrev pub NothingIsPrinted : Type 0
NothingIsPrinted = Prints [] []

abbrev pub PutTwiceDroppedTwice : Type 0
PutTwiceDroppedTwice =
    Prints (put_numbers ++ put_numbers ++ codes "drop Nat\ndrop Nat\nreport Nat\n")
    (codes "@1 put Nat\n@1 same Nat\n@2 drop Nat\n@2 absent Nat\nNat @2 absent\n")

abbrev pub LogIsPrinted : Type 0
LogIsPrinted = Prints (put_numbers ++ codes "log\ndrop Nat\nlog\n") (codes "@1 put Nat\n@1 log\n1 put Nat 53\n@2 drop Nat\n@2 log\n1 put Nat 53\n2 drop Nat\n")

abbrev pub UnendedText : Type 0
UnendedText = Prints (codes "put Nat\n%sig Nat = {\n") (codes "line 1: unended text\n")

abbrev pub BadCommand : Type 0
BadCommand = Prints (codes "report Nat\nreprot Nat\n") (codes "Nat @0 absent\nline 2: bad command\n")

-- A comment of 1,024 bytes does nothing; a longer one is bad.
abbrev pub LongComment : Type 0
LongComment = Prints (codes "#" ++ replicate 1023 97) []

abbrev pub TooLongComment : Type 0
TooLongComment = Prints (codes "#" ++ replicate 1024 97) (codes "line 1: bad command\n")

-- The script of the put, cut at several places.
abbrev pub CutInCommand : Type 0
CutInCommand = Prints (codes "pu") (codes "line 1: bad command\n")

abbrev pub CutBehindCommand : Type 0
CutBehindCommand = Prints (codes "put Nat\n") (codes "line 1: unended text\n")

abbrev pub CutInEndLine : Type 0
CutInEndLine = Prints (codes "put Nat\n%sig Nat = {\nnat : type.\nz : nat.\ns : nat -> nat.\n}.\n%%en") (codes "line 1: unended text\n")

abbrev pub CutBehindEndLine : Type 0
CutBehindEndLine = Prints (codes "put Nat\n%sig Nat = {\nnat : type.\nz : nat.\ns : nat -> nat.\n}.\n%%end") (codes "@1 put Nat\n")

abbrev pub CutInName : Type 0
CutInName = Prints (put_numbers ++ codes "report Na") (codes "@1 put Nat\nNa @1 absent\n")

-- A judgement is all behind the one space, and is not empty; a carriage return counts where no line feed follows.
abbrev pub NoJudgement : Type 0
NoJudgement = Prints (codes "carry V \n") (codes "line 1: bad command\n")

abbrev pub LastReturnCounts : Type 0
LastReturnCounts = Prints (codes "report A\r\nreport A\r") (codes "A @0 absent\nline 2: bad command\n")

-- A lone carriage return at the end is white space; a comment may have any bytes.
abbrev pub LastReturnIsBlank : Type 0
LastReturnIsBlank = Prints (codes "\n\r") []

abbrev pub CommentOfBytes : Type 0
CommentOfBytes = Prints (codes "#" ++ 255 ∷ 10 ∷ []) []

abbrev pub OtherLines : Type 0
OtherLines = Prints (codes "check\n\n \t\nflat Nat\nlog\ncheck \n") (codes "Nat @0 absent\n@0 log\nline 6: bad command\n")

-- The log has the edits that are made, and not the second put and the second drop.
abbrev pub LogIsLeft : Type 0
LogIsLeft =
    script_log (codes "put A\nB\n%%end\nput A\nB\n%%end\nreport A\ndrop A\ndrop A\nbad")
    ≡ Put (codes "A") (codes "B\n") ∷ Drop (codes "A") ∷ []

-- Each text begins with the name of its dependency: A names itself, so that it is ungrounded, and D is absent. B and C are
-- grounded.
abbrev pub first_byte : Name → Text → List Name
first_byte name text = take 1 text ∷ []

abbrev pub telling_first : Judging
telling_first = record {
  dependencies = first_byte;
  judged = λ (library : Library) (name : Name). Refused (record { at = 0; rule = []; label = [] });
  carried = λ (library : Library) (name : Name) (text : Text). NoView;
}

abbrev pub TellsGrounded : Type 0
TellsGrounded =
    script_told telling_first (codes "put A\nA\n%%end\nput B\nD\n%%end\ncheck\nput C\nB\n%%end\nreport A\nreport C\nreport D\nflat B\ncarry C z : t\nlog\n")
    ≡ record { name = codes "B"; version = 2 } ∷ record { name = codes "C"; version = 3 } ∷ record { name = codes "B"; version = 3 } ∷ record { name = codes "C"; version = 3 } ∷ []
