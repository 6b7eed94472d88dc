use Rattle.std.proofs.Common.{sym, ◌∙◌}
use Rattle.command_words.proofs.Parts.{other_word_no_part}
use Rattle.command_words.proofs.workers.joined_part.Goals as goal

pub returns-in_err-strip_prefix : goal.returns-in_err-strip_prefix
returns-in_err-strip_prefix c = c.from_residual.ensures ∙ sym (other_word_no_part c.args.word.now c.in_err-strip_prefix.ensures.cases)
