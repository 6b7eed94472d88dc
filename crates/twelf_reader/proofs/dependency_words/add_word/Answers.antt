use Rattle.std.proofs.Common.{◌≡◌, ◌++◌, [], append-nil, sym, ap, subst, ◌∙◌}
use Rattle.std.specs.Result.{OnOk}
use Rattle.text_meaning.specs.Dependencies.{at_written, unless_own}
use Rattle.mmt_syntax.specs.Readings.{read_written}
use Rattle.twelf_reader.specs.Dependencies.{names_in}
use Rattle.twelf_reader.proofs.dependency_words.add_word.Goals as goal

pub returns-then-is_own_word : goal.returns-then-is_own_word
returns-then-is_own_word c =
    sym (append-nil c.args.names.now) ∙ ap (λ b. c.args.names.now ++ names_in (unless_own b (at_written [] (read_written c.args.word.now)))) c.if-is_own_word.ensures

pub returns : goal.returns
returns c =
    subst (λ b. OnOk c.add_first.result (c.add_first.new.names ≡ c.args.names.now ++ names_in (unless_own b (at_written [] (read_written c.args.word.now))))) c.if-is_own_word.ensures c.add_first.ensures
