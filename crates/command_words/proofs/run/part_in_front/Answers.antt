use Rattle.std.proofs.Common.{◌∙◌}
use Rattle.std.specs.String.{string_bytes}
use Rattle.command_words.proofs.Parts.{front_parted}
use Rattle.command_words.proofs.run.part_in_front.Goals as goal

pub returns : goal.returns
returns c = c.with_part.ensures ∙ front_parted string_bytes c.args.word.now c.args.words.now c.split_at.result.0.now c.split_at.result.1.now c.args.count
    c.min.result c.min.ensures c.split_at.ensures.front c.split_at.ensures.back
