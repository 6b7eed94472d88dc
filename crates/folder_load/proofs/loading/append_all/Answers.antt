use Rattle.std.proofs.Common.{◌≡◌, false, Result, Ok, Err, OnOk, [], ◌∷◌, map, refl, sym, ap, ◌∙◌}
use Rattle.std.specs.Result.{is_err}
use Rattle.std.proofs.lemmas.List.{map-append}
use Rattle.edit_log_meaning.specs.Append.{appended, appended_all}
use Rattle.edit_log_laws.proofs.Libraries.{fold_last}
use Rattle.edit_log.specs.Readings.{read_edit}
use Rattle.folder_load.proofs.loading.append_all.Goals as goal

at_ok : {T E : Type 0} (r : Result T E) (P : Type 0) → is_err r ≡ false → OnOk r P → P
at_ok (Ok x) P h p = p
at_ok (Err e) P h p = absurd (cc)

pub loop-edit-init : goal.loop-edit-init
unfolding appended_all
loop-edit-init c = refl

pub loop-edit-preserved : goal.loop-edit-preserved
unfolding appended_all
loop-edit-preserved c =
    let made = at_ok c.append.result _ (sym c.is_err.ensures.value ∙ c.if-is_err.false) c.append.ensures.log in
    made ∙ ap (λ log. appended log (read_edit c.in-Some.edit)) c.loop-edit.invariant
    ∙ sym (ap (appended_all c.args.log.now) (map-append read_edit c.loop-edit.yielded (c.in-Some.edit ∷ [])) ∙ fold_last appended c.args.log.now (map read_edit c.loop-edit.yielded) (read_edit c.in-Some.edit))
