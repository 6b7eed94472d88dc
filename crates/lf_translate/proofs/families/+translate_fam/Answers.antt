use Rattle.std.proofs.Common.{ap, ap₂, ◌∙◌}
use Rattle.std.proofs.lemmas.Result.{err_from_is_err_and}
use Rattle.lf_meaning.specs.HeadMaps.{image_of}
use Rattle.translation_meaning.specs.Translation.{translate_family}
use Rattle.translation_meaning.specs.Unmapped.{first_of, unmapped_family, without_image}
use Rattle.term_trees.specs.Readings.{read_arguments, read_constant, read_family, read_image, read_map}
use Rattle.lf_translate.specs.Spines.{unmapped_arguments}
use Rattle.lf_translate.proofs.Faults.{names_first, names_second, none_at_all}
use Rattle.lf_translate.proofs.TranslatedFamilies.{unmapped_pi, translated_pi, unmapped_at, translated_at}
use Rattle.lf_translate.proofs.families.+translate_fam.Goals as goal

pub returns-in_err-translate_fam-in-Pi : goal.returns-in_err-translate_fam-in-Pi
returns-in_err-translate_fam-in-Pi t c =
    let along = read_map c.args.map.now in
    let p = err_from_is_err_and c.from_residual.result c.from_residual.ensures.1 in
    let pi = c.in-Pi in
    let domain = unmapped_family along (read_family c.deref.result.now) in
    let body = unmapped_family along (read_family pi.body.value) in
    let whole = ap (λ a. first_of (unmapped_family along (read_family a)) body) c.deref.ensures ∙ unmapped_pi along c.args.t.now pi.domain pi.body pi.is in
    rw (p.1, p.2) (names_first c.in_err-translate_fam-in-Pi.field-0.0 domain body (unmapped_family along (read_family c.args.t.now)) whole c.in_err-translate_fam-in-Pi.ensures)

pub returns-in_err-body-in-Pi : goal.returns-in_err-body-in-Pi
returns-in_err-body-in-Pi t c =
    let along = read_map c.args.map.now in
    let p = err_from_is_err_and c.from_residual-in_err-body-in-Pi.result c.from_residual-in_err-body-in-Pi.ensures.1 in
    let pi = c.in-Pi in
    let domain = unmapped_family along (read_family c.deref.result.now) in
    let body = unmapped_family along (read_family c.deref-in-Pi.result.now) in
    let whole = ap₂ (λ a b. first_of (unmapped_family along (read_family a)) (unmapped_family along (read_family b))) c.deref.ensures c.deref-in-Pi.ensures ∙ unmapped_pi along c.args.t.now pi.domain pi.body pi.is in
    rw (p.1, p.2) (names_second c.in_err-body-in-Pi.field-0.0 domain body (unmapped_family along (read_family c.args.t.now)) whole c.in_ok-translate_fam-in-Pi.ensures.0 c.in_err-body-in-Pi.ensures)

pub returns-in_ok-new-in-Pi : goal.returns-in_ok-new-in-Pi
returns-in_ok-new-in-Pi t c =
    let along = read_map c.args.map.now in
    let pi = c.in-Pi in
    let domain = unmapped_family along (read_family c.deref.result.now) in
    let body = unmapped_family along (read_family c.deref-in-Pi.result.now) in
    let whole = ap₂ (λ a b. first_of (unmapped_family along (read_family a)) (unmapped_family along (read_family b))) c.deref.ensures c.deref-in-Pi.ensures ∙ unmapped_pi along c.args.t.now pi.domain pi.body pi.is in
    let domain_is = ap read_family c.in_ok-domain-in-Pi.ensures.ok ∙ c.in_ok-translate_fam-in-Pi.ensures.1 ∙ ap (λ a. translate_family along (read_family a)) c.deref.ensures in
    let body_is = ap read_family c.in_ok-new-in-Pi.ensures.ok ∙ c.in_ok-body-in-Pi.ensures.1 ∙ ap (λ a. translate_family along (read_family a)) c.deref-in-Pi.ensures in (
      none_at_all domain body (unmapped_family along (read_family c.args.t.now)) whole c.in_ok-translate_fam-in-Pi.ensures.0 c.in_ok-body-in-Pi.ensures.0,
      translated_pi along c.args.t.now pi.domain pi.body pi.is c.in_ok-domain-in-Pi.domain c.in_ok-new-in-Pi.field-0 domain_is body_is,
    )

pub returns-in_err-image-in-At : goal.returns-in_err-image-in-At
returns-in_err-image-in-At t c =
    let along = read_map c.args.map.now in
    let p = err_from_is_err_and c.from_residual-in_err-image-in-At.result c.from_residual-in_err-image-in-At.ensures.1 in
    let at = c.in-At in
    let constant = read_constant at.head in
    rw (p.1, p.2) (names_first c.in_err-image-in-At.field-0.0 (without_image constant (image_of along constant)) (unmapped_arguments along (read_arguments at.spine)) (unmapped_family along (read_family c.args.t.now)) (unmapped_at along c.args.t.now at.head at.spine at.is) c.in_err-image-in-At.ensures.missing)

pub returns-in_err-spine-in-At : goal.returns-in_err-spine-in-At
returns-in_err-spine-in-At t c =
    let along = read_map c.args.map.now in
    let p = err_from_is_err_and c.from_residual-in_err-spine-in-At.result c.from_residual-in_err-spine-in-At.ensures.1 in
    let at = c.in-At in
    let constant = read_constant at.head in
    rw (p.1, p.2) (names_second c.in_err-spine-in-At.field-0.0 (without_image constant (image_of along constant)) (unmapped_arguments along (read_arguments at.spine)) (unmapped_family along (read_family c.args.t.now)) (unmapped_at along c.args.t.now at.head at.spine at.is) (ap (without_image constant) c.in_ok-image-in-At.ensures.found) c.in_err-spine-in-At.ensures)

pub returns-in_ok-family_in_place-in-At : goal.returns-in_ok-family_in_place-in-At
returns-in_ok-family_in_place-in-At t c =
    let along = read_map c.args.map.now in
    let at = c.in-At in
    let constant = read_constant at.head in
    let image = read_image c.in_ok-image-in-At.image.now in
    let found = c.in_ok-image-in-At.ensures.found in
    let spine = c.in_ok-spine-in-At in
    let put = c.in_ok-family_in_place-in-At in (
      none_at_all (without_image constant (image_of along constant)) (unmapped_arguments along (read_arguments at.spine)) (unmapped_family along (read_family c.args.t.now)) (unmapped_at along c.args.t.now at.head at.spine at.is) (ap (without_image constant) found) spine.ensures.0,
      translated_at along c.args.t.now at.head at.spine at.is spine.spine spine.ensures.1 image found put.field-0 put.ensures,
    )
