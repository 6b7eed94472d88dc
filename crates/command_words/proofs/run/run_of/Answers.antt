use Rattle.std.proofs.Common.{◌∷◌, map, sym, ap, ◌∙◌}
use Rattle.std.specs.Option.{option_map}
use Rattle.std.specs.String.{string_bytes}
use Rattle.command_words.specs.ReadRuns.{read_run}
use Rattle.command_words.proofs.Counts.{none_run}
use Rattle.command_words.proofs.Found.{found_within}
use Rattle.command_words.proofs.run.run_of.Goals as goal

pub returns-in_err-word-clause-asks : goal.returns-in_err-word-clause-asks
returns-in_err-word-clause-asks c = ap (option_map read_run) c.from_residual.ensures ∙ sym (none_run string_bytes c.args.words.now c.in_err-word.ensures.cases)

pub returns-clause-within : goal.returns-clause-within
returns-clause-within c = found_within (c.deref.result.now ∷ map string_bytes c.in_ok-word.words.now) c.run_behind.result c.run_behind.ensures
