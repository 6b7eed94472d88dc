use Rattle.std.proofs.Common.{sym, ap, ◌∙◌}
use Rattle.lf_meaning.specs.Equality.{same_value}
use Rattle.translation_meaning.specs.Translation.{translate_value}
use Rattle.term_trees.specs.Readings.{read_constant, read_image, read_map, read_value}
use Rattle.link_passes.proofs.SharedParts.{constant_translated}
use Rattle.link_passes.proofs.sharing.is_translated.Goals as goal

pub returns-in-Some : goal.returns-in-Some
returns-in-Some c =
    let along = read_map c.args.along.now in
    let translated = ap (λ v. translate_value along (read_value v)) c.in-Same.is ∙ constant_translated along (read_constant c.in-Same.constant) (read_image c.in-Some.image.now) c.in-Some.ensures.meaning in
    c.same_value.ensures ∙ ap (λ v. same_value v (read_value c.args.other.now)) (sym translated)
