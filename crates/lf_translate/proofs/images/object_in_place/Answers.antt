use Rattle.lf_translate.proofs.TranslatedObjects.{same_in_place, term_in_place, level_in_place, family_in_place}
use Rattle.lf_translate.proofs.images.object_in_place.Goals as goal

pub returns-in_ok-copy-in-Same : goal.returns-in_ok-copy-in-Same
returns-in_ok-copy-in-Same c =
    same_in_place c.args.constant.now c.args.class.now c.args.value.now c.args.spine c.in-Same.other c.in_ok-copy-in-Same.field-0 c.in-Same.is c.in_ok-copy-in-Same.ensures

pub returns-in_ok-reduce-in-Fam-class : goal.returns-in_ok-reduce-in-Fam-class
returns-in_ok-reduce-in-Fam-class c =
    term_in_place c.args.constant.now c.args.class.now c.args.value.now c.args.spine c.in-Fam-class.family c.in-Term.object c.in_ok-reduce-in-Fam-class.field-0 c.in_ok-simple-in-Fam-class.simple c.as_slice.result.now c.in-Fam-class.is c.in-Term.is c.in_ok-simple-in-Fam-class.ensures c.as_slice.ensures c.in_ok-reduce-in-Fam-class.ensures

pub returns-in_ok-copy-in-Kind : goal.returns-in_ok-copy-in-Kind
returns-in_ok-copy-in-Kind c =
    level_in_place c.args.constant.now c.args.class.now c.args.value.now c.args.spine c.in-Kind.field-0 c.in-Term.object c.in_ok-copy-in-Kind.field-0 c.in-Kind.is c.in-Term.is c.in_ok-copy-in-Kind.ensures

pub returns-in_ok-copy-in-Fam : goal.returns-in_ok-copy-in-Fam
returns-in_ok-copy-in-Fam c =
    family_in_place c.args.constant.now c.args.class.now c.args.value.now c.args.spine c.in-Fam.binders c.in-Fam.body c.in_ok-copy-in-Fam.field-0 c.in-Fam.is c.in_ok-copy-in-Fam.ensures
