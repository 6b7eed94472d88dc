use Rattle.std.proofs.Common.{◌∙◌, [], List, Ok, sym, ap}
use Rattle.name_meaning.specs.Names.{Name}
use Rattle.library_meaning.specs.Faces.{includes_of, own_parts}
use Rattle.link_meaning.specs.CoveringMaps.{cover_all, included_part}
use Rattle.term_trees.specs.Readings.{read_map}
use Rattle.covering_pass.specs.CoverTables.{assigned_of, setting_of}
use Rattle.covering_pass.proofs.AllCovered.{covers_none}
use Rattle.covering_pass.proofs.shared_images.shared_images.Goals as goal
use Rattle.covering_pass.proofs.shared_images.shared_images.Goals.{in-Some+in_ok-add_all_parts, in_default}

pub add_all_parts-requires-clause-theories : goal.add_all_parts-requires-clause-theories
add_all_parts-requires-clause-theories c = c.as_slice.ensures ∙ ap includes_of c.in-Some.ensures.meaning

pub returns : goal.returns
returns c =
    let setting = setting_of c.args.coverings.now.covers in
    let assigned = assigned_of c.args.coverings.now.covers in
    elim c.match-theory.branch [
      | in-Some+in_ok-add_all_parts w ↦
          ap (λ o. cover_all setting assigned [] (own_parts setting.environment (includes_of o))) (sym w.in-Some.ensures.meaning)
          ∙ ap (λ (names : List Name). cover_all setting assigned [] (own_parts setting.environment names)) (sym w.as_slice.ensures)
          ∙ w.in_ok-add_all_parts.ensures
          ∙ ap (λ z. Ok (read_map z)) (sym w.so_far-is)
      | in_default w ↦
          covers_none setting assigned [] (included_part setting) (ap (λ o. own_parts setting.environment (includes_of o)) (sym w.in_default.ensures.meaning))
          ∙ ap (λ z. Ok (read_map z)) (sym (w.so_far-is ∙ c.new-so_far.ensures))
    ]
