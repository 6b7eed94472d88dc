use Rattle.std.proofs.Common.{ℕ, List, map, ◌∙◌, rules}
use Rattle.std.specs.Prelude.{Option}
use Rattle.std.specs.String.{string_bytes}
use Rattle.command_words_meaning.specs.WordLists.{Run, without_part, part_in_front, part_at_end, run_of}
use Rattle.command_words.proofs.Found.{first_found, first_of_five}
use Rattle.command_words.proofs.run.run_behind.Goals as goal

pub returns : goal.returns
unfolding run_of
returns c =
    let word : List ℕ = c.args.word.now in
    let words : List (List ℕ) = map string_bytes c.args.words.now in
    let whole : Option Run = without_part word words in
    let front : Option Run = part_in_front word words 1 in
    let fronts : Option Run = part_in_front word words 2 in
    let last : Option Run = part_at_end word words 1 in
    let lasts : Option Run = part_at_end word words 2 in
    let two = first_found c.without_part.result c.or_else.result _ whole front c.without_part.ensures (λ e. search rules) c.or_else.ensures in
    let three = first_found c.or_else.result c.or_else-2.result _ _ fronts two (λ e. search rules) c.or_else-2.ensures in
    let four = first_found c.or_else-2.result c.or_else-3.result _ _ last three (λ e. search rules) c.or_else-3.ensures in
    let five = first_found c.or_else-3.result c.or_else-4.result _ _ lasts four (λ e. search rules) c.or_else-4.ensures in
    five ∙ first_of_five whole front fronts last lasts
