use Rattle.std.proofs.Common.{◌≡◌, map}
use Rattle.edit_log_meaning.specs.Append.{appended_all}
use Rattle.edit_log.specs.Readings.{read_edit}
use Rattle.folder_load.proofs.loading.append_all.Given as goal

-- The edits so far are made.
abbrev pub invariant-loop-edit : goal.invariant-loop-edit
invariant-loop-edit l = l.log ≡ appended_all l.initial.log (map read_edit l.yielded)
