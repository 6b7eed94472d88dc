use Rattle.std.proofs.Common.{◌∙◌}
use Rattle.command_words.proofs.Numerals.{number_unled}
use Rattle.command_words.proofs.number.is_number.Goals as goal

pub returns-then-first-ne48 : goal.returns-then-first-ne48
returns-then-first-ne48 c = c.are_digits.ensures ∙ number_unled c.args.word.now c.in-len1-up.len_at_least c.if-first-ne48.true
