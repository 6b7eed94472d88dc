use Rattle.std.proofs.Common.{sym, arith}
use Rattle.std.proofs.lemmas.Bool.Decides.{nat_tests}
use Rattle.std.specs.String.{string_bytes}
use Rattle.command_words.proofs.Counts.{other_count_generate_none}
use Rattle.command_words.proofs.task.generate_of.Goals as goal
use Rattle.command_words.proofs.task.generate_of.Goals.{in_default-via-then-words-lt3, in_default-via-else-words-lt3+else-words-lt4}

pub returns-in_default : goal.returns-in_default
returns-in_default c =
    elim c.in_default.branch [
      | in_default-via-then-words-lt3 w ↦ sym (other_count_generate_none string_bytes c.args.words.now (grind (arith, nat_tests)))
      | in_default-via-else-words-lt3+else-words-lt4 w ↦ sym (other_count_generate_none string_bytes c.args.words.now (grind (arith, nat_tests)))
    ]
