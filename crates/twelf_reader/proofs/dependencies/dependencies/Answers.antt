use Rattle.std.proofs.Common.{◌++◌, sym, ap, ◌∙◌}
use Rattle.text_meaning.specs.Reading.{ModuleText, ModuleTree}
use Rattle.text_meaning.specs.Parsing.{AtModule, answer_on}
use Rattle.text_meaning.specs.Dependencies.{module_dependencies}
use Rattle.twelf_expressions.proofs.Moves.{failed}
use Rattle.twelf_reader.specs.Dependencies.{names_in}
use Rattle.twelf_reader.proofs.Endings.{read_whole, settled_fails}
use Rattle.twelf_reader.proofs.dependencies.dependencies.Goals as goal

pub returns-in-Ok : goal.returns-in-Ok
returns-in-Ok c =
    let g = c.in-Ok.ensures in
    record {
      item = g.item;
      goes = read_whole ModuleText c.args.text.now (ModuleTree g.item) c.utf8.text (ap (answer_on AtModule) (sym c.new-reader.ensures) ∙ g.goes);
      names = g.names ∙ ap (λ z. z ++ names_in (module_dependencies g.item)) c.new-names.ensures;
    }

pub returns : goal.returns
returns c =
    settled_fails ModuleText c.args.text.now c.in-Err.fault c.settled.result c.utf8.text c.settled.ensures.unclosed c.settled.ensures.finished
    (failed c.in-Err.fault (ap (answer_on AtModule) (sym c.new-reader.ensures)) c.in-Err.ensures)
