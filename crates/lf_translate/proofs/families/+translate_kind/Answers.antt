use Rattle.std.proofs.Common.{ap, ap₂, ◌∙◌}
use Rattle.std.proofs.lemmas.Result.{err_from_is_err_and}
use Rattle.translation_meaning.specs.Translation.{translate_family, translate_kind}
use Rattle.translation_meaning.specs.Unmapped.{first_of, unmapped_family, unmapped_kind}
use Rattle.term_trees.specs.Readings.{read_family, read_kind, read_map}
use Rattle.lf_translate.proofs.Faults.{names_first, names_second, none_at_all}
use Rattle.lf_translate.proofs.TranslatedFamilies.{unmapped_type, translated_type, unmapped_pi_kind, translated_pi_kind}
use Rattle.lf_translate.proofs.families.+translate_kind.Goals as goal

pub returns-in-Ty : goal.returns-in-Ty
returns-in-Ty t c =
    let along = read_map c.args.map.now in
    (unmapped_type along c.args.t.now c.in-Ty.is, translated_type along c.args.t.now c.in-Ty.is)

pub returns-in_err-translate_fam-in-Pi : goal.returns-in_err-translate_fam-in-Pi
returns-in_err-translate_fam-in-Pi t c =
    let along = read_map c.args.map.now in
    let p = err_from_is_err_and c.from_residual.result c.from_residual.ensures.1 in
    let pi = c.in-Pi in
    let domain = unmapped_family along (read_family c.deref.result.now) in
    let body = unmapped_kind along (read_kind pi.body.value) in
    let whole = ap (λ a. first_of (unmapped_family along (read_family a)) body) c.deref.ensures ∙ unmapped_pi_kind along c.args.t.now pi.domain pi.body pi.is in
    rw (p.1, p.2) (names_first c.in_err-translate_fam-in-Pi.field-0.0 domain body (unmapped_kind along (read_kind c.args.t.now)) whole c.in_err-translate_fam-in-Pi.ensures)

pub returns-in_err-body-in-Pi : goal.returns-in_err-body-in-Pi
returns-in_err-body-in-Pi t c =
    let along = read_map c.args.map.now in
    let p = err_from_is_err_and c.from_residual-in_err-body-in-Pi.result c.from_residual-in_err-body-in-Pi.ensures.1 in
    let pi = c.in-Pi in
    let domain = unmapped_family along (read_family c.deref.result.now) in
    let body = unmapped_kind along (read_kind c.deref-in-Pi.result.now) in
    let whole = ap₂ (λ a k. first_of (unmapped_family along (read_family a)) (unmapped_kind along (read_kind k))) c.deref.ensures c.deref-in-Pi.ensures ∙ unmapped_pi_kind along c.args.t.now pi.domain pi.body pi.is in
    rw (p.1, p.2) (names_second c.in_err-body-in-Pi.field-0.0 domain body (unmapped_kind along (read_kind c.args.t.now)) whole c.in_ok-translate_fam-in-Pi.ensures.0 c.in_err-body-in-Pi.ensures)

pub returns-in_ok-new-in-Pi : goal.returns-in_ok-new-in-Pi
returns-in_ok-new-in-Pi t c =
    let along = read_map c.args.map.now in
    let pi = c.in-Pi in
    let domain = unmapped_family along (read_family c.deref.result.now) in
    let body = unmapped_kind along (read_kind c.deref-in-Pi.result.now) in
    let whole = ap₂ (λ a k. first_of (unmapped_family along (read_family a)) (unmapped_kind along (read_kind k))) c.deref.ensures c.deref-in-Pi.ensures ∙ unmapped_pi_kind along c.args.t.now pi.domain pi.body pi.is in
    let domain_is = ap read_family c.in_ok-domain-in-Pi.ensures.ok ∙ c.in_ok-translate_fam-in-Pi.ensures.1 ∙ ap (λ a. translate_family along (read_family a)) c.deref.ensures in
    let body_is = ap read_kind c.in_ok-new-in-Pi.ensures.ok ∙ c.in_ok-body-in-Pi.ensures.1 ∙ ap (λ k. translate_kind along (read_kind k)) c.deref-in-Pi.ensures in (
      none_at_all domain body (unmapped_kind along (read_kind c.args.t.now)) whole c.in_ok-translate_fam-in-Pi.ensures.0 c.in_ok-body-in-Pi.ensures.0,
      translated_pi_kind along c.args.t.now pi.domain pi.body pi.is c.in_ok-domain-in-Pi.domain c.in_ok-new-in-Pi.field-0 domain_is body_is,
    )
