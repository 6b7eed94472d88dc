use Rattle.term_trees.specs.Readings.{read_image, read_map}
use Rattle.lf_translate.proofs.BareValues.{same_translated, term_translated, family_translated}
use Rattle.lf_translate.proofs.values.translate_value.Goals as goal

pub returns-in_ok-copy-in-Same : goal.returns-in_ok-copy-in-Same
returns-in_ok-copy-in-Same c =
    let image = c.in_ok-image-in-Same in
    same_translated (read_map c.args.map.now) c.args.t.now c.in_ok-copy-in-Same.field-0 c.in-Same.constant (read_image image.image.now) c.in-Same.is image.ensures.found c.in_ok-copy-in-Same.ensures

pub returns-in_ok-translate_obj-in-Term : goal.returns-in_ok-translate_obj-in-Term
returns-in_ok-translate_obj-in-Term c =
    let object = c.in_ok-translate_obj-in-Term in
    term_translated (read_map c.args.map.now) c.args.t.now c.object_value.result c.in-Term.object object.field-0 c.in-Term.is object.ensures.0 object.ensures.1 c.object_value.ensures

pub returns-in_ok-translate_fam-in-Fam : goal.returns-in_ok-translate_fam-in-Fam
returns-in_ok-translate_fam-in-Fam c =
    let family = c.in_ok-translate_fam-in-Fam in
    family_translated (read_map c.args.map.now) c.args.t.now c.family_value.result c.in-Fam.binders c.in-Fam.body family.field-0 c.in-Fam.is family.ensures.0 family.ensures.1 c.family_value.ensures
