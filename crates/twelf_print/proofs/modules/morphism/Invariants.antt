use Rattle.std.proofs.Common.{◌≡◌, ◌++◌, take}
use Rattle.mmt_syntax.specs.Readings.{read_words}
use Rattle.twelf_print.specs.Fronts.{more_words}
use Rattle.twelf_print.proofs.modules.morphism.Given as goal

-- the words behind the first so far
abbrev pub invariant-loop-word : goal.invariant-loop-word
invariant-loop-word l = l.out ≡ l.initial.out ++ more_words (read_words (take l.word-index l.others))
