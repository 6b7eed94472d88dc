use Rattle.std.proofs.Common.{[], ◌∷◌, ◌++◌, is_some, sym, ap, ◌∙◌}
use Rattle.name_meaning.specs.Names.{is_among}
use Rattle.name_meaning.specs.Rows.{row_names}
use Rattle.name_laws.proofs.Rows.{row_among}
use Rattle.module_check.specs.PresentRows.{present_rows}
use Rattle.module_check.proofs.answered.faces_with.Goals as goal

pub returns-in-Ok : goal.returns-in-Ok
returns-in-Ok c = c.in-Ok.ensures ∙ ap (λ rows. rows ++ (c.args.name.now, c.args.verdict.now) ∷ []) c.in_ok-faces.ensures

pub add_present-requires : goal.add_present-requires
add_present-requires c =
    ap (λ rows. is_among (row_names rows) c.args.name.now) c.in_ok-faces.ensures ∙ sym (row_among (present_rows c.args.answers.now) c.args.name.now) ∙ ap is_some c.requires
