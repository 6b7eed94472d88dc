use Rattle.std.proofs.Common.{◌≡◌, refl}
use Rattle.lf_meaning.specs.Terms.{AtomicFamily}
use Rattle.translation_meaning.specs.Heads.{head_takes_all}
use Rattle.translation_meaning.specs.Translation.{family_image, family_of}
use Rattle.term_trees.specs.Readings.{read_arguments, read_class, read_constant, read_family, read_value}
use Rattle.term_trees.specs.declared.fam.Fam.{Fam}
use Rattle.term_trees.specs.declared.fam.Fam.TheVariants as families
use Rattle.term_trees.specs.declared.kind.Kind.TheVariants as kinds
use Rattle.lf_translate.proofs.Made.{made_is}
use Rattle.lf_translate.proofs.TranslatedFamilies.{same_in_place, term_in_place, family_in_place, level_in_place}
use Rattle.lf_translate.proofs.families.family_in_place.Goals as goal

pub returns-in-Same : goal.returns-in-Same
returns-in-Same c =
    let placed = λ (a : Fam). (p : AtomicFamily) → read_family a ≡ family_of (head_takes_all (family_image (read_constant c.args.constant.now) (read_class c.args.class.now) (read_value c.args.value.now)) (read_arguments c.args.spine)) p in
    let other = c.in-Same.other in
    made_is placed c.constant_at.result (families.At other c.args.spine) c.constant_at.ensures
    (λ p. same_in_place c.args.constant.now c.args.class.now c.args.value.now c.args.spine p other other c.in-Same.is refl)

pub returns-in-Term : goal.returns-in-Term
returns-in-Term c =
    let constant = c.args.constant.now in
    let placed = λ (a : Fam). (p : AtomicFamily) → read_family a ≡ family_of (head_takes_all (family_image (read_constant constant) (read_class c.args.class.now) (read_value c.args.value.now)) (read_arguments c.args.spine)) p in
    made_is placed c.constant_at-in-Term.result (families.At constant c.args.spine) c.constant_at-in-Term.ensures
    (λ p. term_in_place constant c.args.class.now c.args.value.now c.args.spine p c.in-Term.field-0 constant c.in-Term.is refl)

pub returns-in_ok-filled-in-Kind : goal.returns-in_ok-filled-in-Kind
returns-in_ok-filled-in-Kind c p =
    family_in_place c.args.constant.now c.args.class.now c.args.value.now c.args.spine p c.in-Fam.binders c.in-Fam.body c.in_ok-filled-in-Kind.field-0 c.in-Fam.is c.in-Kind.kind c.in-Kind.is (c.in_ok-filled-in-Kind.ensures p)

pub returns-in_ok-filled-in-Fam-class : goal.returns-in_ok-filled-in-Fam-class
returns-in_ok-filled-in-Fam-class c p =
    level_in_place c.args.constant.now c.args.class.now c.args.value.now c.args.spine p c.in-Fam.binders c.in-Fam.body c.in_ok-filled-in-Fam-class.field-0 c.in-Fam.is kinds.Ty c.in-Fam-class.field-0 c.in-Fam-class.is refl (c.in_ok-filled-in-Fam-class.ensures p)
