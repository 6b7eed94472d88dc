use Rattle.std.proofs.Common.{rules, ◌∙◌, sym}
use Rattle.base_types.proofs.Words.{last_tells}
use Rattle.base_types.proofs.short.are_same.Goals as goal

pub returns-then-first_word : goal.returns-then-first_word
returns-then-first_word c =
    last_tells c.args.bytes.now c.args.other.now (search rules) (search rules) (search rules) (search rules)
    (sym c.first_word.ensures ∙ c.if-first_word.true ∙ c.first_word-2.ensures)
    c.last_word.result c.last_word-then-first_word.result c.last_word.ensures c.last_word-then-first_word.ensures
