use Rattle.std.proofs.Common.{refl, sym, ap, ◌∙◌, map, []}
use Rattle.edit_log.specs.Readings.{read_edit, read_library}
use Rattle.edit_log.specs.Keeping.{stamp_in}
use Rattle.edit_log.proofs.Keeping.{kept_by, empty_within, empty_library, empty_stamp}
use Rattle.edit_log.proofs.log.Log.new.Goals as goal

pub invariant_of-result : goal.invariant_of-result
invariant_of-result c =
    kept_by _ [] (ap (map read_edit) c.new.ensures.items) (ap read_library c.new-2.ensures ∙ sym empty_library)
    (λ n. ap (λ stamps. stamp_in stamps n) c.new-3.ensures.empty ∙ sym (empty_stamp n)) refl empty_within
