use Rattle.std.proofs.Common.{◌≡◌, length, ap, sym, ◌∙◌, subst}
use Rattle.std.proofs.lemmas.Result.{err_from_is_err_and}
use Rattle.translation_meaning.specs.Translation.{translate_object}
use Rattle.translation_meaning.specs.Unmapped.{unmapped_object, unmapped_atomic}
use Rattle.term_trees.specs.Readings.{arguments_of, read_arguments, read_head, read_image, read_map, read_object}
use Rattle.term_trees.specs.Changes.{changed, gathered}
use Rattle.lf_translate.specs.Spines.{unmapped_arguments}
use Rattle.lf_translate.proofs.Faults.{names_same, names_first, names_second, none_at_all}
use Rattle.lf_translate.proofs.TranslatedObjects.{unmapped_lam, unmapped_at, translated_lam, lam_stays, translated_variable, translated_constant, constant_stays, head_none, head_unmapped, head_missing}
use Rattle.lf_translate.proofs.objects.+objects.Goals as goal

pub translated_obj-returns-in_err-new-in-Lam : goal.translated_obj-returns-in_err-new-in-Lam
translated_obj-returns-in_err-new-in-Lam t c =
    let along = read_map c.args.map.now in
    let p = err_from_is_err_and c.from_residual.result c.from_residual.ensures.1 in
    let body = c.in-Lam.body in
    let same = ap (λ m. unmapped_object along (read_object m)) c.deref.ensures ∙ unmapped_lam along c.args.t.now body c.in-Lam.is in
    rw (p.1, p.2) (names_same c.in_err-new-in-Lam.field-0.0 (unmapped_object along (read_object c.deref.result.now)) (unmapped_object along (read_object c.args.t.now)) same c.in_err-new-in-Lam.ensures)

pub translated_obj-returns-in_ok-new-in-Some : goal.translated_obj-returns-in_ok-new-in-Some
translated_obj-returns-in_ok-new-in-Some t c =
    let along = read_map c.args.map.now in
    let inner = c.deref.result.now in
    let whole = ap (λ m. unmapped_object along (read_object m)) c.deref.ensures ∙ unmapped_lam along c.args.t.now c.in-Lam.body c.in-Lam.is in
    let done = c.in_ok-new-in-Lam in
    let new = subst (λ o. read_object (changed inner o) ≡ translate_object along (read_object inner)) c.in-Some.is done.ensures.1 in
    let boxed = c.in_ok-new-in-Some in
    (sym whole ∙ done.ensures.0, translated_lam along c.args.t.now c.in-Lam.body boxed.field-0 c.in-Lam.is (ap read_object boxed.ensures.ok ∙ new ∙ ap (λ m. translate_object along (read_object m)) c.deref.ensures))

pub translated_obj-returns-in-None : goal.translated_obj-returns-in-None
translated_obj-returns-in-None t c =
    let along = read_map c.args.map.now in
    let inner = c.deref.result.now in
    let whole = ap (λ m. unmapped_object along (read_object m)) c.deref.ensures ∙ unmapped_lam along c.args.t.now c.in-Lam.body c.in-Lam.is in
    let done = c.in_ok-new-in-Lam in
    let stays = subst (λ o. read_object (changed inner o) ≡ translate_object along (read_object inner)) c.in-None.is done.ensures.1 in
    let body = subst (λ m. read_object m ≡ translate_object along (read_object m)) c.deref.ensures stays in
    (sym whole ∙ done.ensures.0, lam_stays along c.args.t.now c.in-Lam.body c.in-Lam.is body)

pub translated_obj-returns-in_err-so_far-in-Var : goal.translated_obj-returns-in_err-so_far-in-Var
translated_obj-returns-in_err-so_far-in-Var t c =
    let along = read_map c.args.map.now in
    let p = err_from_is_err_and c.from_residual-in_err-so_far-in-Var.result c.from_residual-in_err-so_far-in-Var.ensures.1 in
    let at = c.in-At in
    let first = unmapped_atomic along (read_head at.head) in
    let rest = unmapped_arguments along (read_arguments at.spine) in
    rw (p.1, p.2) (names_second c.in_err-so_far-in-Var.field-0.0 first rest (unmapped_object along (read_object c.args.t.now)) (unmapped_at along c.args.t.now at.head at.spine at.is) (head_none along at.head c.in-Var.field-0 c.in-Var.is) c.in_err-so_far-in-Var.ensures)

pub translated_obj-returns-in_ok-with_head-in-Var : goal.translated_obj-returns-in_ok-with_head-in-Var
translated_obj-returns-in_ok-with_head-in-Var t c =
    let along = read_map c.args.map.now in
    let at = c.in-At in
    let done = c.in_ok-so_far-in-Var in
    let ms = gathered (arguments_of at.spine) (length (arguments_of at.spine)) done.so_far in
    let first = unmapped_atomic along (read_head at.head) in
    let rest = unmapped_arguments along (read_arguments at.spine) in
    let whole = unmapped_at along c.args.t.now at.head at.spine at.is in
    let put = c.in_ok-with_head-in-Var in (
      none_at_all first rest (unmapped_object along (read_object c.args.t.now)) whole (head_none along at.head c.in-Var.field-0 c.in-Var.is) done.ensures.0,
      ap (λ m. read_object (changed m put.field-0)) at.is ∙ put.ensures ∙ translated_variable along c.args.t.now at.head at.spine at.is ms done.ensures.1 c.in-Var.field-0 c.in-Var.is,
    )

pub translated_obj-returns-in_err-image-in-Con : goal.translated_obj-returns-in_err-image-in-Con
translated_obj-returns-in_err-image-in-Con t c =
    let along = read_map c.args.map.now in
    let p = err_from_is_err_and c.from_residual-in_err-image-in-Con.result c.from_residual-in_err-image-in-Con.ensures.1 in
    let at = c.in-At in
    let fault = c.in_err-image-in-Con.field-0.0 in
    let first = unmapped_atomic along (read_head at.head) in
    let rest = unmapped_arguments along (read_arguments at.spine) in
    rw (p.1, p.2) (names_first fault first rest (unmapped_object along (read_object c.args.t.now)) (unmapped_at along c.args.t.now at.head at.spine at.is) (head_missing along at.head c.in-Con.constant fault c.in-Con.is c.in_err-image-in-Con.ensures.missing))

pub translated_obj-returns-in_err-so_far-in-Con : goal.translated_obj-returns-in_err-so_far-in-Con
translated_obj-returns-in_err-so_far-in-Con t c =
    let along = read_map c.args.map.now in
    let p = err_from_is_err_and c.from_residual-in_err-so_far-in-Con.result c.from_residual-in_err-so_far-in-Con.ensures.1 in
    let at = c.in-At in
    let image = read_image c.in_ok-image-in-Con.image.now in
    let first = unmapped_atomic along (read_head at.head) in
    let rest = unmapped_arguments along (read_arguments at.spine) in
    rw (p.1, p.2) (names_second c.in_err-so_far-in-Con.field-0.0 first rest (unmapped_object along (read_object c.args.t.now)) (unmapped_at along c.args.t.now at.head at.spine at.is) (head_unmapped along at.head c.in-Con.constant image c.in-Con.is c.in_ok-image-in-Con.ensures.found) c.in_err-so_far-in-Con.ensures)

pub translated_obj-returns-then-is_same : goal.translated_obj-returns-then-is_same
translated_obj-returns-then-is_same t c =
    let along = read_map c.args.map.now in
    let at = c.in-At in
    let done = c.in_ok-so_far-in-Con in
    let ms = gathered (arguments_of at.spine) (length (arguments_of at.spine)) done.so_far in
    let image = read_image c.in_ok-image-in-Con.image.now in
    let found = c.in_ok-image-in-Con.ensures.found in
    let first = unmapped_atomic along (read_head at.head) in
    let rest = unmapped_arguments along (read_arguments at.spine) in
    let whole = unmapped_at along c.args.t.now at.head at.spine at.is in
    let put = c.in_ok-with_head-in-Con in
    let same = sym c.is_same.ensures ∙ c.if-is_same.true in (
      none_at_all first rest (unmapped_object along (read_object c.args.t.now)) whole (head_unmapped along at.head c.in-Con.constant image c.in-Con.is found) done.ensures.0,
      ap (λ m. read_object (changed m put.field-0)) at.is ∙ put.ensures ∙ constant_stays along c.args.t.now at.head at.spine at.is ms done.ensures.1 c.in-Con.constant image c.in-Con.is found same,
    )

pub translated_obj-returns-in_ok-new-in-Con : goal.translated_obj-returns-in_ok-new-in-Con
translated_obj-returns-in_ok-new-in-Con t c =
    let along = read_map c.args.map.now in
    let at = c.in-At in
    let done = c.in_ok-so_far-in-Con in
    let image = read_image c.in_ok-image-in-Con.image.now in
    let found = c.in_ok-image-in-Con.ensures.found in
    let first = unmapped_atomic along (read_head at.head) in
    let rest = unmapped_arguments along (read_arguments at.spine) in
    let whole = unmapped_at along c.args.t.now at.head at.spine at.is in
    let all = c.in_ok-all-in-Con in
    let put = c.in_ok-new-in-Con in (
      none_at_all first rest (unmapped_object along (read_object c.args.t.now)) whole (head_unmapped along at.head c.in-Con.constant image c.in-Con.is found) done.ensures.0,
      translated_constant along c.args.t.now at.head at.spine at.is (read_arguments all.all) (all.ensures ∙ done.ensures.1) c.in-Con.constant image c.in-Con.is found (read_object put.new) put.ensures,
    )
