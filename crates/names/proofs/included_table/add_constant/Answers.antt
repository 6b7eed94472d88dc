use Rattle.std.proofs.Common.{◌∙◌, cond, Some, ap}
use Rattle.std.specs.Map.{lookup}
use Rattle.lf_terms.specs.Tables.{same_path}
use Rattle.term_trees.specs.Readings.{read_declaration}
use Rattle.names.specs.IncludedTables.{next_place}
use Rattle.names.proofs.IncludedPlaces.{constant_placed}
use Rattle.names.proofs.included_table.add_constant.Goals as goal

pub returns : goal.returns
returns c = λ path.
    let before = c.args.places.now.entries in
    let next = c.with_next-next.result in
    constant_placed c.args.place before c.insert.new.self.entries (read_declaration c.args.decl.now) next path
    (λ q. c.in_ok-insert.ensures.updates.0 q ∙ ap (λ p. cond (same_path p q) (Some next) (lookup (same_path q) before)) c.in_ok-copy.ensures)
    (c.with_next-next.ensures ∙ ap (next_place c.args.place) (c.copied.ensures ∙ c.get.ensures.value))
