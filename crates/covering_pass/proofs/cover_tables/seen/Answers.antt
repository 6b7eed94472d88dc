use Rattle.std.proofs.Common.{◌∙◌, ◌||◌, ap}
use Rattle.name_meaning.specs.Names.{Name, same_name}
use Rattle.library_meaning.specs.Closure.{sees}
use Rattle.covering_pass.proofs.NameTables.{one_among}
use Rattle.covering_pass.proofs.cover_tables.seen.Goals as goal

pub returns : goal.returns
returns c = λ theory.
    let codomain : Name = c.args.setting.now.codomain.now in
    let first = c.in_ok-add.ensures theory ∙ one_among c.new-table.result.keys codomain theory c.new-table.ensures.empty in
    c.in_ok-add_all.ensures theory
    ∙ ap (λ b. b || sees c.as_slice.result.now theory) first
    ∙ ap (λ names. same_name codomain theory || sees names theory) c.as_slice.ensures
