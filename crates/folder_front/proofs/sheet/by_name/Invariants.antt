use Rattle.std.proofs.Common.{◌≡◌}
use Rattle.folder_front.specs.Sheets.{rows_of}
use Rattle.folder_front.proofs.sheet.by_name.Given as goal

-- The origins so far are there.
abbrev pub invariant-loop-origin : goal.invariant-loop-origin
invariant-loop-origin l = l.rows ≡ rows_of l.yielded
